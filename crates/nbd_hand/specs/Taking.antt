-- What is taken of one option.
use Rattle.std.specs.Prelude.{◌≡◌, Bool, true, List, ℕ, Result, MatchResult}
use Rattle.nbd_stream.specs.declared.ending.Ending.{Ending}
use Rattle.nbd_stream.specs.Moments.{trouble_of}
use Rattle.nbd_stream.specs.Taking.{StopsBy}
use Rattle.nbd_stream.specs.Traffic.{Reach, Takes, HasEnded}
use Rattle.nbd_hand.specs.declared.options.ClientOption.{ClientOption}
use Rattle.nbd_hand.specs.Grammar.{IsOption, StopsOptions}

-- an option was waited for, and these bytes were taken
pub record OptionIs (old new : Reach) (result : Result ClientOption Ending) (bytes : List ℕ)
    (ended : Bool) : Type 0 where
  pub takes : Takes old new bytes
  pub at_end : ended ≡ true → HasEnded old.source new.source
  pub by_case : MatchResult result
      (λ option. IsOption bytes option.option option.body × (new.source.faults ≡ old.source.faults))
      (λ ending. StopsBy old.source.faults new.source.faults (trouble_of ending)
      × StopsOptions ending ended bytes)
