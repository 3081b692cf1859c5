use Rattle.std.proofs.Common.{sym, ◌∙◌}
use Rattle.std.proofs.lemmas.Bool.{eqb-true}
use Rattle.nbd_stream.proofs.PutLemmas.{puts-more, puts-less, puts-as}
use Rattle.nbd_session.proofs.ReplyLemmas.{reply-parts, reply-bare}
use Rattle.nbd_session.proofs.replies.put_simple_reply.Goals as goal

pub returns-then-is_empty-clause-puts : goal.returns-then-is_empty-clause-puts
returns-then-is_empty-clause-puts g c =
    puts-as _ _ _ _ _ _ _
    (reply-bare c.args.cookie c.errno.result c.args.reply.now _ _ c.errno.ensures
    c.write-head.ensures c.data-body.ensures
    (eqb-true _ 0 (sym c.is_empty.ensures ∙ c.if-is_empty.true))) c.put_message.ensures.puts

pub returns-in-Ok-clause-puts : goal.returns-in-Ok-clause-puts
returns-in-Ok-clause-puts g c =
    puts-as _ _ _ _ _ _ _
    (reply-parts c.args.cookie c.errno.result c.args.reply.now _ _ c.errno.ensures
    c.write-head.ensures c.data-body.ensures)
    (puts-more _ _ _ _ _ _ _ _ c.put_message-in-Ok.result c.in-Ok.ensures
    c.put_message-in-Ok.ensures.puts)

pub returns-in-Err-clause-puts : goal.returns-in-Err-clause-puts
returns-in-Err-clause-puts g c =
    puts-as _ _ _ _ _ _ _
    (reply-parts c.args.cookie c.errno.result c.args.reply.now _ _ c.errno.ensures
    c.write-head.ensures c.data-body.ensures)
    (puts-less _ _ _ _ _ _ c.in-Err.failed c.in-Err.ensures)
