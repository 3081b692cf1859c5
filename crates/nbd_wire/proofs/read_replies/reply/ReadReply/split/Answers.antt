use Rattle.std.proofs.Common.{◌∙◌, ap}
use Rattle.nbd_wire.specs.declared.read_replies.reply.Outcome.{Outcome}
use Rattle.nbd_wire.specs.ReadReplying.Outcomes.{answer_by}
use Rattle.nbd_wire.specs.ReadReplying.Replies.{chunks_of}
use Rattle.nbd_wire.proofs.ReadReplying.ReplyLemmas.{error-chunk, error_at-chunk}
use Rattle.nbd_wire.proofs.read_replies.reply.ReadReply.split.Goals as goal

pub returns-in-Error : goal.returns-in-Error
returns-in-Error c =
    ap (λ (o : Outcome). chunks_of c.args.whole c.args.self.offset (answer_by o)) c.in-Error.is
    ∙ error-chunk c.args.whole c.args.self.offset c.in-Error.number

pub returns-in-ErrorAt : goal.returns-in-ErrorAt
returns-in-ErrorAt c =
    ap (λ (o : Outcome). chunks_of c.args.whole c.args.self.offset (answer_by o)) c.in-ErrorAt.is
    ∙ error_at-chunk c.args.whole c.args.self.offset c.in-ErrorAt.at.error c.in-ErrorAt.at.offset
