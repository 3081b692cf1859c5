use Rattle.std.proofs.Common.{ap, ◌∙◌, sym, Ok, arith}
use Rattle.nbd_wire.specs.Fields.{u64_text}
use Rattle.nbd_wire.proofs.HandshakeLemmas.{greeting-once, greeting-there, greeting-magic}
use Rattle.nbd_wire.proofs.HandshakeLemmas.{greeting-option_magic}
use Rattle.nbd_wire.proofs.handshake.Greeting.read.Goals as goal

pub returns-then-magic-ne-GREETING_MAGIC-clause-only :
    goal.returns-then-magic-ne-GREETING_MAGIC-clause-only
returns-then-magic-ne-GREETING_MAGIC-clause-only c = λ greeting is e.
    absurd (c.if-magic-ne-GREETING_MAGIC.true
    (greeting-magic c.args.bytes.now greeting _ c.u64_at-magic.type_inv e c.u64_at-magic.ensures))

pub returns-then-option_magic-ne-OPTION_MAGIC-clause-only :
    goal.returns-then-option_magic-ne-OPTION_MAGIC-clause-only
returns-then-option_magic-ne-OPTION_MAGIC-clause-only c = λ greeting is e.
    absurd (c.if-option_magic-ne-OPTION_MAGIC.true
    (greeting-option_magic c.args.bytes.now greeting _ c.u64_at-option_magic.type_inv e
    (ap u64_text (sym c.if-magic-ne-GREETING_MAGIC.false) ∙ c.u64_at-magic.ensures)
    c.u64_at-option_magic.ensures))

pub returns-clause-taken : goal.returns-clause-taken
returns-clause-taken c = (
  c.u16_at.type_inv,
  greeting-there c.args.bytes.now _ (omega arith)
      (ap u64_text (sym c.if-magic-ne-GREETING_MAGIC.false) ∙ c.u64_at-magic.ensures)
      (ap u64_text (sym c.if-option_magic-ne-OPTION_MAGIC.false) ∙ c.u64_at-option_magic.ensures)
      c.u16_at.ensures,
)

pub returns-clause-only : goal.returns-clause-only
returns-clause-only c = λ greeting is e.
    let taken =
    returns-clause-taken c in ap Ok (greeting-once _ greeting taken.0 is (taken.1 ∙ sym e))
