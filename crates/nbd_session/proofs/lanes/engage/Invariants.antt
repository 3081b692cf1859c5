use Rattle.std.proofs.Common.{◌≡◌, ℕ, ◌<◌, ◌≤◌, length, slice_index_or, vec_capacity}
use Rattle.volume_cell.specs.Passes.{IsPassOf, known}
use Rattle.nbd_session.specs.Flying.{IsMade}
use Rattle.nbd_session.specs.Passing.{HasSplit}
use Rattle.nbd_session.proofs.lanes.engage.Given as goal

abbrev pub invariant-loop-port : goal.invariant-loop-port
invariant-loop-port g l = record {
  source : IsPassOf l.reader l.reading;
  sink : IsPassOf l.writer l.writing;
  takes : HasSplit (length l.yielded) (known l.initial.reading) (known l.reading);
  puts : HasSplit (length l.yielded) (known l.initial.writing) (known l.writing);
  count : length l.lanes.items ≡ length l.yielded;
  room : length l.fn.ports.items ≤ vec_capacity l.lanes;
  made : (k : ℕ) (lane : _) → k < length l.lanes.items → (port : _) →
      IsMade g.P.Port.usable l.reader l.writer k (slice_index_or l.fn.ports.items k port)
      (slice_index_or l.lanes.items k lane);
}
