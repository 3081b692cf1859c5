-- What is taken of one message.
use Rattle.std.specs.Prelude.{ℕ, ◌≡◌, ◌<◌, Bool, true, List, [], length, Result, MatchResult}
use Rattle.base_terms.specs.Causes.{Rose}
use Rattle.nbd_stream.specs.declared.ending.Ending.{Ending}
use Rattle.nbd_stream.specs.declared.ending.Ending.TheVariants.{Closed, Truncated, ReadFault}
use Rattle.nbd_stream.specs.declared.filling.Filled.{Filled}
use Rattle.nbd_stream.specs.declared.taking.Data.{Data}
use Rattle.nbd_stream.specs.declared.taking.Data.TheVariants.{Whole, NoMemory, Ended, Fault}
use Rattle.nbd_stream.specs.Moments.{Trouble, calm, source_failed, sink_failed, trouble_of}
use Rattle.nbd_stream.specs.Traffic.{Reach, Takes, FillsOr, HasEnded, filled_of}

-- `len` bytes were wanted, and these were taken
pub record TakesUpTo (old new : Reach) (len : ℕ) (result : Filled) (bytes : List ℕ) : Type 0 where
  pub takes : Takes old new bytes
  pub count : length bytes ≡ filled_of len result
  pub fewer : FillsOr len old.source new.source result

-- what the source alone brings: its count rose exactly where it failed
abbrev pub StopsBy : ℕ → ℕ → Trouble → Type 0
StopsBy before now calm = now ≡ before
StopsBy before now source_failed = Rose before now
StopsBy before now sink_failed = ⊥

-- a head of `len` bytes didn't come whole
abbrev pub EndsHead : ℕ → Ending → Bool → List ℕ → Type 0
EndsHead len Closed ended bytes = (bytes ≡ []) × (ended ≡ true)
EndsHead len (Truncated n) ended bytes = (length bytes ≡ n) × (0 < n) × (n < len) × (ended ≡ true)
EndsHead len ReadFault ended bytes = length bytes < len
EndsHead len _ ended bytes = ⊥

-- a head was waited for, and these bytes were taken
pub record HeadIs (old new : Reach) (len : ℕ) (head : List ℕ) (result : Result (Unit {0}) Ending)
    (bytes : List ℕ) (ended : Bool) : Type 0 where
  pub takes : Takes old new bytes
  pub at_end : ended ≡ true → HasEnded old.source new.source
  pub by_case : MatchResult result
      (λ _. (bytes ≡ head) × (length bytes ≡ len) × (new.source.faults ≡ old.source.faults))
      (λ ending. StopsBy old.source.faults new.source.faults (trouble_of ending)
      × EndsHead len ending ended bytes)

-- the data behind a head, of which `len` bytes were wanted
abbrev pub DataCase : Reach → Reach → ℕ → Data → List ℕ → Type 0
DataCase old new len (Whole body) bytes = (body ≡ bytes) × (length bytes ≡ len)
    × (new.source.faults ≡ old.source.faults)
DataCase old new len NoMemory bytes = (0 < len) × (bytes ≡ []) × (new ≡ old)
DataCase old new len (Ended n) bytes = (length bytes ≡ n) × (n < len)
    × HasEnded old.source new.source × (new.source.faults ≡ old.source.faults)
DataCase old new len Fault bytes = (length bytes < len) × Rose old.source.faults new.source.faults

pub record DataIs (old new : Reach) (len : ℕ) (result : Data) (bytes : List ℕ) : Type 0 where
  pub takes : Takes old new bytes
  pub by_case : DataCase old new len result bytes
