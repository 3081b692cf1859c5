-- What an event leaves: all but the disk is computed from the event and its outcome.
use Rattle.std.specs.Prelude.{ℕ, ◌≡◌, ◌≤◌, ◌⊎◌, ◌||◌, Bool, true, false, if◌then◌else◌, List, []}
use Rattle.std.specs.Prelude.{◌∷◌, ◌++◌, Option, Some}
use Rattle.base_terms.specs.Causes.{Rose}
use Rattle.range_lock.specs.declared.Entry.{Entry}
use Rattle.range_lock.specs.Locks.{without}
use Rattle.sector_disk.specs.Devices.{Device}
use Rattle.sector_disk.specs.Steps.{Told, then_table}
use Rattle.volume_machine.specs.Alone.{open_after}
use Rattle.volume_machine.specs.Asks.{has_lock, entry_of}
use Rattle.volume_machine.specs.Events.{Event, admits, writes, settles, finishes, lane_of, Outcome}
use Rattle.volume_machine.specs.Events.{refused, device}
use Rattle.volume_machine.specs.States.{State, open_at, LaneBecomes}
use Rattle.volume_machine.specs.declared.ask.Ask.{Ask}

-- the outcome is that the device failed
abbrev pub is_fault : Outcome → Bool
is_fault device = true
is_fault _ = false

-- whether the event is a write or a sync that failed
abbrev pub breaks : Event → Outcome → Bool
breaks (writes lane sealed) outcome = is_fault outcome
breaks (settles lane) outcome = is_fault outcome
breaks _ outcome = false

-- the table of locks: an operation that isn't refused enters it behind all others, where it locks
-- its blocks, and leaves it at its finish
abbrev pub entered : ℕ → ℕ → Ask → Outcome → List Entry → List Entry
entered atom lane ask (refused number) entries = entries
entered atom lane ask _ entries =
    if has_lock ask then entries ++ entry_of atom lane ask ∷ [] else entries

abbrev pub entries_after : ℕ → Event → Outcome → List Entry → List Entry
entries_after atom (admits lane session ask) outcome entries = entered atom lane ask outcome entries
entries_after atom (finishes lane) outcome entries = without lane entries
entries_after atom _ outcome entries = entries

-- where a disk tells its tables they stayed, or one came behind
abbrev pub Grew : Told → Told → Type 0
Grew before now = (now ≡ before) ⊎ (now ≡ then_table before now.now)

abbrev pub Grows : Option Told → Option Told → Type 0
Grows old new = (now : Told) → new ≡ Some now →
    (before : Told) × (old ≡ Some before) × Grew before now

-- at most one device call, which failed or not
pub record DiskGoes (failed : Bool) (old new : Device) : Type 0 where
  pub size : new.size ≡ old.size
  pub atoms : new.atoms ≡ old.atoms
  pub later : old.faults ≤ new.faults
  pub rose : failed ≡ true → Rose old.faults new.faults
  pub tables : Grows old.told new.told

pub record Effects {K : Type 0} (event : Event) (outcome : Outcome)
    (old new : State K) : Type 0 where
  pub map : new.map ≡ old.map
  pub keys : new.keys ≡ old.keys
  pub room : new.room ≡ old.room
  pub entries_are : new.entries ≡ entries_after old.map.atom event outcome old.entries
  pub lane_is : LaneBecomes old.lanes new.lanes (lane_of event)
      (open_after old.map.atom event outcome (open_at old.lanes (lane_of event)))
  pub broken_is : new.broken ≡ (old.broken || breaks event outcome)
  pub work : new.work ≡ old.work
  pub disk : DiskGoes (is_fault outcome) old.disk new.disk
