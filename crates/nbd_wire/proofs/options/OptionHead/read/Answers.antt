use Rattle.std.proofs.Common.{ap, ◌∙◌, sym, Ok, arith}
use Rattle.nbd_wire.specs.Fields.{u32_text, u64_text}
use Rattle.nbd_wire.specs.Options.{IsOptionHead, option_of}
use Rattle.nbd_wire.proofs.OptionLemmas.{option-once, option-there, option-magic}
use Rattle.nbd_wire.proofs.options.OptionHead.read.Goals as goal

pub returns-then-magic-ne-OPTION_MAGIC-clause-only :
    goal.returns-then-magic-ne-OPTION_MAGIC-clause-only
returns-then-magic-ne-OPTION_MAGIC-clause-only c = λ head is e.
    absurd (c.if-magic-ne-OPTION_MAGIC.true
    (option-magic c.args.bytes.now head _ c.u64_at-magic.type_inv e c.u64_at-magic.ensures))

pub returns-clause-taken : goal.returns-clause-taken
returns-clause-taken c =
    let option = c.from_number.ensures in
    let fields : IsOptionHead _ = record {
      option = omega (arith, option.back, c.u32_at.type_inv);
      named = ap option_of option.back ∙ sym option.is;
      size = c.u32_at-2.type_inv;
    } in (
      fields,
      option-there c.args.bytes.now _ (omega arith)
          (ap u64_text (sym c.if-magic-ne-OPTION_MAGIC.false) ∙ c.u64_at-magic.ensures)
          (ap u32_text option.back ∙ c.u32_at.ensures) c.u32_at-2.ensures,
    )

pub returns-clause-only : goal.returns-clause-only
returns-clause-only c = λ head is e.
    let taken = returns-clause-taken c in ap Ok (option-once _ head taken.0 is (taken.1 ∙ sym e))
