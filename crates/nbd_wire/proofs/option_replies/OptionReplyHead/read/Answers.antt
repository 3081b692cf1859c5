use Rattle.std.proofs.Common.{ap, ◌∙◌, sym, Ok, arith}
use Rattle.nbd_wire.specs.Fields.{u32_text, u64_text}
use Rattle.nbd_wire.specs.Options.{option_of}
use Rattle.nbd_wire.specs.OptionReplies.{IsOptionReplyHead, reply_type_of}
use Rattle.nbd_wire.proofs.OptionReplyLemmas.{option_reply-once, option_reply-there}
use Rattle.nbd_wire.proofs.OptionReplyLemmas.{option_reply-magic}
use Rattle.nbd_wire.proofs.option_replies.OptionReplyHead.read.Goals as goal

pub returns-then-magic-ne-OPTION_REPLY_MAGIC-clause-only :
    goal.returns-then-magic-ne-OPTION_REPLY_MAGIC-clause-only
returns-then-magic-ne-OPTION_REPLY_MAGIC-clause-only c = λ head is e.
    absurd (c.if-magic-ne-OPTION_REPLY_MAGIC.true
    (option_reply-magic c.args.bytes.now head _ c.u64_at-magic.type_inv e c.u64_at-magic.ensures))

pub returns-clause-taken : goal.returns-clause-taken
returns-clause-taken c =
    let option = c.from_number.ensures in
    let reply = c.from_number-2.ensures in
    let fields : IsOptionReplyHead _ = record {
      option = omega (arith, option.back, c.u32_at.type_inv);
      option_named = ap option_of option.back ∙ sym option.is;
      reply = omega (arith, reply.back, c.u32_at-2.type_inv);
      reply_named = ap reply_type_of reply.back ∙ sym reply.is;
      size = c.u32_at-3.type_inv;
    } in (
      fields,
      option_reply-there c.args.bytes.now _ (omega arith)
          (ap u64_text (sym c.if-magic-ne-OPTION_REPLY_MAGIC.false) ∙ c.u64_at-magic.ensures)
          (ap u32_text option.back ∙ c.u32_at.ensures) (ap u32_text reply.back ∙ c.u32_at-2.ensures)
          c.u32_at-3.ensures,
    )

pub returns-clause-only : goal.returns-clause-only
returns-clause-only c = λ head is e.
    let taken =
    returns-clause-taken c in ap Ok (option_reply-once _ head taken.0 is (taken.1 ∙ sym e))
