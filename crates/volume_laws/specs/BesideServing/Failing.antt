-- When operations of clients fail and volumes break beside a conversion's worker.
use Rattle.std.specs.Prelude.{ℕ, ◌≡◌, ◌++◌, ◌∷◌, ◌⊎◌, ◌↔◌, Bool, true, false, List, [], Some}
use Rattle.base_terms.specs.Causes.{Rose}
use Rattle.volume_laws.specs.BesideLanes.Lanes.{StaysSame}
use Rattle.volume_laws.specs.Promises.{fails}
use Rattle.volume_machine.specs.Deeds.{Act, Deed, client, state_after, worker}
use Rattle.volume_machine.specs.Effects.{breaks}
use Rattle.volume_machine.specs.States.{IsClient, State, open_at}
use Rattle.volume_machine.specs.WorkSteps.{faulted}
use Rattle.volume_machine.specs.declared.open.Open.{Open}

-- whether the operation of a lane has failed after what was done, given whether it had before: a step
-- of the worker fails none
abbrev pub fails_by : ℕ → Act → Bool → Bool
fails_by lane (client event outcome) before = fails lane event outcome before
fails_by lane (worker worked) before = before

unfoldable pub fails_over : {K : Type 0} → ℕ → Bool → List (Deed K) → Bool
fails_over lane before [] = before
fails_over lane before (one ∷ rest) = fails_over lane (fails_by lane one.act before) rest

-- what breaks the volume: a write or a sync of a client that failed; a step of the worker of which a
-- call failed, unless it has given up its zone, as it does for a read before anything of that was
-- written: then the volume goes on
abbrev pub BreaksBy : {K : Type 0} → Act → State K → Type 0
BreaksBy (client event outcome) after = breaks event outcome ≡ true
BreaksBy (worker worked) after = (worked ≡ faulted) × (after.broken ≡ true)

-- one of the deeds does
pub record AreBreaking {K : Type 0} (deeds : List (Deed K)) : Type 0 where
  pub earlier : List (Deed K)
  pub one : Deed K
  pub later : List (Deed K)
  pub parts : deeds ≡ earlier ++ one ∷ later
  pub breaks : BreaksBy one.act one.after

-- An operation on a lane of clients has failed exactly where one of its events did, whatever broke the
-- volume; the volume is broken exactly where it was at the start, or one of the deeds broke it; and its
-- keys, and how many blocks of how many bytes it has, stay.
pub record GoesByDeeds {K : Type 0} (start : State K) (deeds : List (Deed K)) : Type 0 where
  pub fails : (lane : ℕ) (o : Open) → IsClient start lane
      → open_at (state_after start deeds).lanes lane ≡ Some o → o.failed ≡ fails_over lane false deeds
  pub breaks : ((state_after start deeds).broken ≡ true)
      ↔ ((start.broken ≡ true) ⊎ AreBreaking deeds)
  pub same : StaysSame start (state_after start deeds)

-- a volume that wasn't broken breaks only where the count of faults rose
abbrev pub BreaksByFaults : {K : Type 0} → State K → List (Deed K) → Type 0
BreaksByFaults start deeds = start.broken ≡ false → (state_after start deeds).broken ≡ true →
    Rose start.disk.faults (state_after start deeds).disk.faults

-- where a call of a step of the worker failed the count rose, also where the step gave up its zone
abbrev pub FaultsRaise : {K : Type 0} → State K → List (Deed K) → Type 0
FaultsRaise {K} start deeds = (earlier later : List (Deed K)) (one : Deed K)
    → deeds ≡ earlier ++ one ∷ later → one.act ≡ worker faulted
    → Rose start.disk.faults (state_after start deeds).disk.faults
