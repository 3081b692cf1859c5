use Rattle.std.proofs.Common.{ap, ◌∙◌, sym, Some, arith}
use Rattle.nbd_wire.specs.Chunks.{IsError, error_data_text}
use Rattle.nbd_wire.specs.Fields.{u16_text}
use Rattle.nbd_wire.proofs.ChunkLemmas.{data-once, data-there, data-number, error-bare}
use Rattle.nbd_wire.proofs.chunks.error_number.Goals as goal

pub returns-then-u16_at-ne0-clause-only : goal.returns-then-u16_at-ne0-clause-only
unfolding error_data_text
returns-then-u16_at-ne0-clause-only c = λ number is e.
    absurd (c.if-u16_at-ne0.true
    (error-bare c.args.bytes.now _ number _ c.u16_at.type_inv e c.u16_at.ensures))

pub returns-then-error-eq0-clause-only : goal.returns-then-error-eq0-clause-only
returns-then-error-eq0-clause-only c = λ number is e.
    let same =
    data-number c.args.bytes.now number _ is c.u32_at-error.type_inv e c.u32_at-error.ensures in
    absurd (omega (arith, same, is.0, c.if-error-eq0.true))

pub returns-clause-taken : goal.returns-clause-taken
returns-clause-taken c =
    let number : IsError _ = (omega (arith, c.if-error-eq0.false), c.u32_at-error.type_inv) in (
      number,
      data-there c.args.bytes.now _ (omega arith) c.u32_at-error.ensures
          (ap u16_text (sym c.if-u16_at-ne0.false) ∙ c.u16_at.ensures),
    )

pub returns-clause-only : goal.returns-clause-only
returns-clause-only c = λ number is e.
    let taken = returns-clause-taken c in
    ap Some (data-once _ number taken.0 is (taken.1 ∙ sym e))
