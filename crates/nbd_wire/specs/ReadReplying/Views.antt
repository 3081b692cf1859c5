-- What a chunk, and the chunks that are still to come, stand for.
use Rattle.std.specs.Prelude.{Bool, List, [], Option, Some, None}
use Rattle.nbd_wire.specs.declared.read_replies.chunk.Chunk.{Chunk}
use Rattle.nbd_wire.specs.declared.read_replies.reply.ReadReply.{ReadReply}
use Rattle.nbd_wire.specs.declared.read_replies.reply.ReadChunks.{ReadChunks}
use Rattle.nbd_wire.specs.ReadReplying.Outcomes.{answer_by}
use Rattle.nbd_wire.specs.ReadReplying.Parts.{Part}
use Rattle.nbd_wire.specs.ReadReplying.Payloads.{held_by}
use Rattle.nbd_wire.specs.ReadReplying.Replies.{chunks_of}

abbrev pub part_by : Chunk → Part
part_by chunk = record { done = chunk.done; held = held_by chunk.payload }

abbrev pub left_of : Bool → Option ReadReply → List Part
left_of whole None = []
left_of whole (Some reply) = chunks_of whole reply.offset (answer_by reply.outcome)

abbrev pub chunks_left : ReadChunks → List Part
chunks_left chunks = left_of chunks.whole chunks.rest
