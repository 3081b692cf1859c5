-- What the data of a chunk stands for.
use Rattle.nbd_wire.specs.declared.read_replies.chunk.Payload.{Payload}
use Rattle.nbd_wire.specs.declared.read_replies.chunk.Payload.TheVariants as payloads
use Rattle.nbd_wire.specs.ReadReplying.Parts.{Held, nothing, bytes_at, failed, failed_at}

abbrev pub held_by : Payload → Held
held_by payloads.Nothing = nothing
held_by (payloads.Data offset bytes) = bytes_at offset bytes.now
held_by (payloads.Error number) = failed number
held_by (payloads.ErrorAt at) = failed_at at.error at.offset
