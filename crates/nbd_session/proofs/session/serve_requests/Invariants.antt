use Rattle.std.proofs.Common.{◌≡◌, ℕ, List, [], length, None, false}
use Rattle.nbd_stream.specs.Moments.{moment}
use Rattle.nbd_stream.specs.Putting.{IsOut}
use Rattle.nbd_session.specs.Serving.{Serves}
use Rattle.nbd_session.specs.Turns.{Turn, exchanges_of}
use Rattle.nbd_session.proofs.session.serve_requests.Given as goal

abbrev pub invariant-loop-number : goal.invariant-loop-number
invariant-loop-number g l = record {
  out : IsOut (g.K.Sink.outlet l.sink);
  usable : g.P.Port.usable l.port;
  served : (turns : List Turn) × (taken : List ℕ) × (whole : List ℕ) × (length turns ≡ l.number)
      × g.P.Port.did l.initial.port l.port (exchanges_of turns)
      × Serves l.structured 0
      (moment (g.S.Source.intake l.initial.source) (g.K.Sink.outlet l.initial.sink)
      l.initial.tally.taken l.initial.tally.put)
      (moment (g.S.Source.intake l.source) (g.K.Sink.outlet l.sink) l.tally.taken l.tally.put)
      None turns taken whole [] false;
}
