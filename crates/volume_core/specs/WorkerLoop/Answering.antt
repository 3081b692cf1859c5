-- What calls of a worker came to on a volume at hand, for each way in which its header is read.
use Rattle.std.specs.Prelude.{ℕ, ◌≡◌, List}
use Rattle.base_terms.specs.declared.disk_sizes.Sizes.{Sizes}
use Rattle.reenc_worker.specs.declared.ends.WorkAnswer.{WorkAnswer}
use Rattle.volume_core.specs.Zones.{IsReadBy}
use Rattle.volume_laws.specs.Converting.{IsInOrder}
use Rattle.volume_machine.specs.Seals.{seals_of}
use Rattle.volume_machine.specs.States.{State}
use Rattle.volume_machine.specs.declared.keys.Keys.{Keys}
use Rattle.volume_laws.specs.WorkerRuns.Steps.{HasWorked}
use Rattle.hotzone.specs.ZoneEvents.Readings.{reading_of}

-- Its header goes on to be read so, and it to be in order; and the keys and the size of its blocks
-- stay.
pub record StaysRead {C : Type 0} (sizes : Sizes) (old new : State (Keys C)) : Type 0 where
  pub read : IsReadBy sizes new
  pub order : IsInOrder (reading_of sizes) new
  pub keys : new.keys ≡ old.keys
  pub atom : new.map.atom ≡ old.map.atom

-- by the sizes by which its header is read, of a volume in order, they are steps of its worker
abbrev pub HasAnswered : {C : Type 0} → (C → ℕ → List ℕ → List ℕ) → (C → ℕ → List ℕ → List ℕ)
    → State (Keys C) → State (Keys C) → List WorkAnswer → Type 0
HasAnswered seal unseal old new answers = (sizes : Sizes) → IsReadBy sizes old
    → IsInOrder (reading_of sizes) old
    → HasWorked (reading_of sizes) (seals_of seal unseal old.map.atom old.keys) old new answers
    × StaysRead sizes old new
