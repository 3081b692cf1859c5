use Rattle.std.proofs.Common.{◌≡◌, ℕ, List, [], length, None, false}
use Rattle.nbd_hand.specs.declared.options.ClientOption.{ClientOption}
use Rattle.nbd_hand.specs.declared.options.Course.TheVariants.{GoesOn}
use Rattle.nbd_stream.specs.Moments.{moment}
use Rattle.nbd_hand.specs.Grammar.{agreed_after}
use Rattle.nbd_hand.specs.Negotiation.{Answers}
use Rattle.nbd_stream.specs.Putting.{IsOut}
use Rattle.nbd_hand.proofs.negotiation.agree.Given as goal

abbrev pub invariant-loop-number : goal.invariant-loop-number
invariant-loop-number g l = record {
  out : IsOut (g.K.Sink.outlet l.sink);
  answered : (options : List ClientOption) × (taken : List ℕ) × (whole : List ℕ)
      × (length options ≡ l.number) × (l.agreed ≡ agreed_after l.fn.first options)
      × Answers l.export l.fn.first 0
      (moment (g.S.Source.intake l.initial.source) (g.K.Sink.outlet l.initial.sink)
      l.initial.tally.taken l.initial.tally.put)
      (moment (g.S.Source.intake l.source) (g.K.Sink.outlet l.sink) l.tally.taken l.tally.put)
      GoesOn options None taken whole [] false;
}
