use Rattle.std.proofs.Common.{◌∙◌, ap, ap₂}
use Rattle.nbd_wire.specs.ReadReplying.Parts.{parts_text}
use Rattle.nbd_wire.specs.ReadReplying.Replies.{chunks_of}
use Rattle.nbd_stream.proofs.PutLemmas.{puts-as}
use Rattle.nbd_session.specs.Replies.{reply_text}
use Rattle.nbd_session.proofs.replies.put_reply.Goals as goal

pub returns-in-Simple-clause-puts : goal.returns-in-Simple-clause-puts
unfolding reply_text
returns-in-Simple-clause-puts g c = rw c.in-Simple.is c.put_simple_reply.ensures.puts

pub returns-in-Chunks-clause-puts : goal.returns-in-Chunks-clause-puts
unfolding reply_text
returns-in-Chunks-clause-puts g c =
    let reply = c.read_reply.ensures in
    let chunks = c.chunks-chunks.ensures
    ∙ ap₂ (chunks_of c.in-Chunks.whole) reply.offset reply.outcome in
    rw c.in-Chunks.is
    (puts-as _ _ _ _ _ _ _ (ap (parts_text c.args.cookie) chunks) c.put_chunks.ensures.puts)
