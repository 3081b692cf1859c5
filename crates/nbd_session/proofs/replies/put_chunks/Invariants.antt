use Rattle.std.proofs.Common.{◌≡◌, List, ◌++◌, length, ℕ, Ok}
use Rattle.nbd_wire.specs.ReadReplying.Parts.{parts_text}
use Rattle.nbd_wire.specs.ReadReplying.Views.{chunks_left}
use Rattle.nbd_stream.specs.Putting.{Puts}
use Rattle.nbd_session.proofs.replies.put_chunks.Given as goal

abbrev pub invariant-chunks : goal.invariant-chunks
invariant-chunks g l = record {
  put : (text : List ℕ)
      × (text ++ parts_text l.cookie (chunks_left l.chunks)
      ≡ parts_text l.cookie (chunks_left l.initial.chunks))
      × ((whole : List ℕ) × (front : List ℕ)
      × Puts {T = Unit {0}} (g.K.Sink.outlet l.initial.sink) (g.K.Sink.outlet l.sink) l.initial.put
      l.put text (Ok tt) whole front);
}

abbrev pub decreases-chunks : goal.decreases-chunks
decreases-chunks g l = length (chunks_left l.chunks)
