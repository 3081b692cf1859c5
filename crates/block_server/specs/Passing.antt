-- The first pass, off which the workers' are split and into which they are joined back.
use Rattle.std.specs.Prelude.{ℕ, ◌≡◌, ◌+◌, ◌<◌, ◌≤◌, List, [], ◌∷◌, length, Option}
use Rattle.std.specs.Prelude.{slice_index_or, IsSomeAnd}
use Rattle.shared_volume.specs.Ciphers.{Context, sector_of}
use Rattle.shared_volume.specs.Histories.{MayBeShared}
use Rattle.shared_volume.specs.Lanes.{IsOn, Knowing}
use Rattle.shared_volume.specs.declared.asking.SharedEvent.{SharedEvent}
use Rattle.shared_volume.specs.declared.asking.SharedOutcome.{SharedOutcome}
use Rattle.shared_volume.specs.declared.sharing.Sharing.{Sharing}
use Rattle.shared_volume.specs.Works.{VolumeCell}
use Rattle.volume_cell.specs.Histories.{account}
use Rattle.volume_cell.specs.Knowing.{beginning}
use Rattle.volume_cell.specs.Passes.{IsPassOf, known}
use Rattle.volume_cell.specs.declared.knowledge.Account.{Account}
use Rattle.volume_machine.specs.States.{State}
use Rattle.volume_machine.specs.declared.keys.Keys.{Keys}
use Rattle.block_server.specs.declared.worker.Worker.{Worker}

-- the names are numbers from `least` on, and less than `end`
unfoldable pub AreBetween : ℕ → ℕ → List (List ℕ) → Type 0
AreBetween least end [] = Unit {0}
AreBetween least end (name ∷ names) =
    ((k : ℕ) × (name ≡ k ∷ []) × (least ≤ k) × (k < end)) × AreBetween least end names

-- The first pass, which makes no calls: so many were split off it, and of these so many were joined
-- back, in order.
pub record IsFirst {C : Type 0} (splits back : ℕ) (v : Knowing C) : Type 0 where
  pub name : v.name ≡ []
  pub calls : v.calls ≡ []
  pub splits_are : v.splits ≡ splits
  pub away : AreBetween back splits v.away

module _ {D L : Type 0} where
  -- the account of a worker's calls
  abbrev pub account_of : Worker D L → Account SharedEvent SharedOutcome
  account_of worker = account (known worker.lane.pass).name (known worker.lane.pass).calls

  -- the worker of this number, whose pass can be joined
  pub record IsBack {P : Type 0} (cell : VolumeCell D Context P) (k : ℕ) (worker : Worker D L) : Type
      0 where
    pub pass : IsPassOf cell worker.lane.pass
    pub name : (known worker.lane.pass).name ≡ k ∷ []
    pub joined : (known worker.lane.pass).joined ≡ []
    pub whole : (known worker.lane.pass).away ≡ []

  abbrev pub AreBack : {P : Type 0} → VolumeCell D Context P → List (Option (Worker D L)) → Type 0
  AreBack cell workers = (k : ℕ) (slot : Option (Worker D L)) → k < length workers
      → IsSomeAnd (slice_index_or workers k slot) (IsBack cell k)

  -- what is known is as long as what each of these workers knows
  abbrev pub KnowsAll : Knowing Context → List (Option (Worker D L)) → Type 0
  KnowsAll v workers = (k : ℕ) (slot : Option (Worker D L)) → k < length workers
      → IsSomeAnd (slice_index_or workers k slot)
      (λ worker. length (known worker.lane.pass).history ≤ length v.history)

-- A volume was put into a cell, by the first pass of which no other was split yet. It has a lane for
-- each of so many links, and the conversion's.
pub record IsBegun {D : Type 0} (links : ℕ) (sharing : Sharing D)
    (volume : State (Keys Context)) : Type 0 where
  pub shared : MayBeShared volume
  pub first : known sharing.first ≡ beginning volume
  pub on : (number : ℕ) → number < links → IsSomeAnd (known sharing.first).start
      (IsOn sector_of number sharing.keys sharing.shape)
  pub lanes : length volume.lanes ≡ links + 1
