use Rattle.std.proofs.Common.{ap, ◌∙◌, sym, Some, arith}
use Rattle.nbd_wire.specs.Chunks.{IsError, IsErrorAt, error_at_text}
use Rattle.nbd_wire.specs.Fields.{u16_text}
use Rattle.nbd_wire.proofs.ChunkLemmas.{error-once, error-there, error-bare, error-number}
use Rattle.nbd_wire.proofs.chunks.ErrorAt.read.Goals as goal

pub returns-then-u16_at-ne0-clause-only : goal.returns-then-u16_at-ne0-clause-only
unfolding error_at_text
returns-then-u16_at-ne0-clause-only c = λ found is e.
    absurd (c.if-u16_at-ne0.true
    (error-bare c.args.bytes.now _ found.error _ c.u16_at.type_inv e c.u16_at.ensures))

pub returns-then-error-eq0-clause-only : goal.returns-then-error-eq0-clause-only
returns-then-error-eq0-clause-only c = λ found is e.
    let same =
    error-number c.args.bytes.now found _ is c.u32_at-error.type_inv e c.u32_at-error.ensures in
    absurd (omega (arith, same, is.error.0, c.if-error-eq0.true))

pub returns-clause-taken : goal.returns-clause-taken
returns-clause-taken c =
    let number : IsError _ = (omega (arith, c.if-error-eq0.false), c.u32_at-error.type_inv) in
    let fields : IsErrorAt _ = record { error = number; offset = c.u64_at.type_inv } in (
      fields,
      error-there c.args.bytes.now _ (omega arith) c.u32_at-error.ensures
          (ap u16_text (sym c.if-u16_at-ne0.false) ∙ c.u16_at.ensures) c.u64_at.ensures,
    )

pub returns-clause-only : goal.returns-clause-only
returns-clause-only c = λ found is e.
    let taken = returns-clause-taken c in
    ap Some (error-once _ found taken.0 is (taken.1 ∙ sym e))
