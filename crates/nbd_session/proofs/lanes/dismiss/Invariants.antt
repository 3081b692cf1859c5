use Rattle.std.proofs.Common.{◌≡◌, ◌≤◌, length, map, vec_capacity}
use Rattle.volume_cell.specs.Passes.{IsPassOf, known}
use Rattle.nbd_session.specs.Flying.{any_spent}
use Rattle.nbd_session.specs.Passing.{HasJoined}
use Rattle.nbd_session.proofs.lanes.dismiss.Given as goal

abbrev pub invariant-loop-lane : goal.invariant-loop-lane
invariant-loop-lane g l = record {
  source : IsPassOf l.reader l.reading;
  sink : IsPassOf l.writer l.writing;
  takes : HasJoined (length l.fn.lanes.items) (λ lane. known lane.source) l.yielded
      (known l.initial.reading) (known l.reading);
  puts : HasJoined (length l.fn.lanes.items) (λ lane. known lane.sink) l.yielded
      (known l.initial.writing) (known l.writing);
  ports : l.ports.items ≡ map (λ lane. lane.port) l.yielded;
  room : length l.fn.lanes.items ≤ vec_capacity l.ports;
  spent : l.spent ≡ any_spent l.yielded;
}
