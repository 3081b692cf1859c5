use Rattle.std.proofs.Common.{ap, ◌∙◌, sym, Ok, arith}
use Rattle.nbd_wire.specs.Fields.{u32_text}
use Rattle.nbd_wire.specs.Replies.{IsSimpleReplyHead}
use Rattle.nbd_wire.proofs.SimpleReplyLemmas.{simple_reply-once, simple_reply-there}
use Rattle.nbd_wire.proofs.SimpleReplyLemmas.{simple_reply-magic}
use Rattle.nbd_wire.proofs.replies.SimpleReplyHead.read.Goals as goal

pub returns-then-magic-ne-SIMPLE_REPLY_MAGIC-clause-only :
    goal.returns-then-magic-ne-SIMPLE_REPLY_MAGIC-clause-only
returns-then-magic-ne-SIMPLE_REPLY_MAGIC-clause-only c = λ head is e.
    absurd (c.if-magic-ne-SIMPLE_REPLY_MAGIC.true
    (simple_reply-magic c.args.bytes.now head _ c.u32_at-magic.type_inv e c.u32_at-magic.ensures))

pub returns-clause-taken : goal.returns-clause-taken
returns-clause-taken c =
    let fields : IsSimpleReplyHead _ =
    record { error = c.u32_at.type_inv; cookie = c.u64_at.type_inv } in (
      fields,
      simple_reply-there c.args.bytes.now _ (omega arith)
          (ap u32_text (sym c.if-magic-ne-SIMPLE_REPLY_MAGIC.false) ∙ c.u32_at-magic.ensures)
          c.u32_at.ensures c.u64_at.ensures,
    )

pub returns-clause-only : goal.returns-clause-only
returns-clause-only c = λ head is e.
    let taken =
    returns-clause-taken c in ap Ok (simple_reply-once _ head taken.0 is (taken.1 ∙ sym e))
