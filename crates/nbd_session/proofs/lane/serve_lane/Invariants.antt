use Rattle.std.proofs.Common.{List}
use Rattle.nbd_session.specs.declared.reader.Take.{Take}
use Rattle.nbd_session.specs.declared.reader.Taken.{Taken}
use Rattle.nbd_session.specs.declared.writer.Put.{Put}
use Rattle.nbd_session.specs.declared.writer.Written.{Written}
use Rattle.nbd_session.specs.Lanes.{AreServed, HasCalled, IsLane}
use Rattle.nbd_session.specs.Turns.{Turn, exchanges_of}
use Rattle.nbd_session.proofs.lane.serve_lane.Given as goal
use Rattle.volume_cell.specs.declared.history.Call.{Call}
use Rattle.volume_cell.specs.Passes.{IsPassOf, known}

abbrev pub invariant-loop : goal.invariant-loop
invariant-loop g l = record {
  source : IsPassOf l.reader l.source;
  sink : IsPassOf l.writer l.sink;
  lane : IsLane (known l.source) (known l.sink);
  usable : g.P.Port.usable l.port;
  served : (takes : List (Call Take Taken)) × (puts : List (Call Put Written))
      × (turns : List Turn) × HasCalled (known l.initial.source) (known l.source) takes
      × HasCalled (known l.initial.sink) (known l.sink) puts
      × g.P.Port.did l.initial.port l.port (exchanges_of turns) × AreServed takes puts turns;
}
