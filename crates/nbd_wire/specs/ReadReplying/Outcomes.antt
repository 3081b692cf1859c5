-- What the outcome of a READ stands for.
use Rattle.nbd_wire.specs.declared.read_replies.reply.Outcome.{Outcome}
use Rattle.nbd_wire.specs.declared.read_replies.reply.Outcome.TheVariants as outcomes
use Rattle.nbd_wire.specs.ReadReplying.Replies.{Answer, content, error, error_at}

abbrev pub answer_by : Outcome → Answer
answer_by (outcomes.Content bytes) = content bytes.now
answer_by (outcomes.Error number) = error number
answer_by (outcomes.ErrorAt at) = error_at at.error at.offset
