-- The device calls of a zone at hand, by what stands in the state: each is the next step of it.
use Rattle.std.specs.Prelude.{ℕ, zero, suc, ◌≡◌, ◌≢◌, ◌+◌, ◌-◌, ◌*◌, ◌/◌, ◌<◌, ◌≤◌, ◌==◌, List}
use Rattle.std.specs.Prelude.{length, min, if◌then◌else◌, Result}
use Rattle.base_terms.specs.declared.failed.Failed.{Failed}
use Rattle.crash_laws.specs.HeaderAreas.Commits.{Stage, begun, first_written, first_kept, second_written}
use Rattle.crash_laws.specs.HeaderAreas.Commits.{next_stage, failed_stage}
use Rattle.crash_laws.specs.HeaderAreas.Headers.{primary, secondary, Layout, place_of, Header, text_of}
use Rattle.sector_disk.specs.DiskViews.Parts.{block_at}
use Rattle.crash_laws.specs.HotZones.Zones.{Phase, saving, opening, writing, moving, shifting, turning}
use Rattle.sector_disk.specs.Devices.{Device, ReadCall, WriteCall, SyncCall, succeeded, failed_call}
use Rattle.segment_map.specs.Maps.{most_bytes}
use Rattle.segment_map.specs.declared.Side.TheVariants.{Old, New}
use Rattle.volume_machine.specs.Saved.{IsSaved, TellsApart, saved_atoms, saved_before}
use Rattle.volume_machine.specs.Seals.{Seals}
use Rattle.volume_machine.specs.Works.{Work, Part, wanted, fetched}

-- so many atoms are written from a place on
pub record Puts (atom at n : ℕ) (text : List ℕ) (old new : Device)
    (result : Result (Unit {0}) Failed) : Type 0 where
  pub call : WriteCall atom at text old new result
  pub size : length text ≡ n * atom

-- a call of a commit
abbrev pub PutsCopy : ℕ → Layout → Header (List ℕ) → Stage → Device → Device
    → Result (Unit {0}) Failed → Type 0
PutsCopy atom layout to begun old new result =
    Puts atom (place_of layout primary).start (place_of layout primary).count (text_of to primary)
    old new result
PutsCopy atom layout to first_written old new result = SyncCall old new result
PutsCopy atom layout to first_kept old new result =
    Puts atom (place_of layout secondary).start (place_of layout secondary).count
    (text_of to secondary) old new result
PutsCopy atom layout to second_written old new result = SyncCall old new result

-- ---- parts: how many atoms the next one has of those that are left, at most 1 MiB of them
abbrev pub part_of : ℕ → ℕ → ℕ
part_of atom left = min left (most_bytes / atom)

-- the part from this atom of the zone on is the next one of the phase: to be saved, or to be
-- written
abbrev pub IsNext : ℕ → Work → Phase → ℕ → Type 0
IsNext atom work (saving n) first = n ≡ saved_before work.zone.resilience atom first
IsNext atom work (writing n) first = n ≡ first
IsNext atom work (shifting n) first = n ≡ first
IsNext atom work _ first = ⊥

-- an old atom as it is sealed anew, and a part of so many
abbrev pub resealed : Seals → ℕ → List ℕ → List ℕ
resealed seals b old = seals.sealed New b (seals.opened Old b old)

pub record IsResealed (seals : Seals) (atom b count : ℕ) (old new : List ℕ) : Type 0 where
  pub old_size : length old ≡ count * atom
  pub size : length new ≡ count * atom
  pub each : (k : ℕ) → k < count
      → block_at atom new k ≡ resealed seals (b + k) (block_at atom old k)

-- What is saved of a part that was read: there is room for it, and by checksum digests tell its old
-- atoms from the new ones.
pub record SavesPart (seals : Seals) (atom : ℕ) (work : Work) (first count : ℕ)
    (old saved : List ℕ) : Type 0 where
  pub size : length old ≡ count * atom
  pub is : IsSaved work.zone.resilience atom work.zone.own.count first count old saved
  pub within : saved_before work.zone.resilience atom first
      + saved_atoms work.zone.resilience atom count ≤ work.zone.store.count
  pub tells : TellsApart work.zone.resilience atom count old
      (λ k. resealed seals (work.range.start + first + k) (block_at atom old k))

-- The part that comes when so many atoms from this one on were saved: the next one; behind the last
-- one the first one again, which is still there where it is the only one.
abbrev pub after_saving : ℕ → ℕ → ℕ → List ℕ → Part
after_saving count zero more old = if more == count then fetched 0 old else wanted more
after_saving count (suc first) more old =
    if suc first + more == count then wanted 0 else wanted (suc first + more)

-- A step of the zone, by one device call: the phase and the part before it, and those that it
-- leaves. Parts are sealed anew where they are written.
pub data ZoneStep (seals : Seals) (atom : ℕ) (work : Work) (old new : Device) : Phase → Part
    → Phase → Part → Type 0 where
  reads : (phase : Phase) (first count : ℕ) (text : List ℕ) → IsNext atom work phase first
      → count ≡ part_of atom (work.zone.own.count - first) → 0 < count
      → length text ≡ count * atom
      → ReadCall atom (work.zone.own.start + first) text old new succeeded
      → ZoneStep seals atom work old new phase (wanted first) phase (fetched first text)
  saves : (first count : ℕ) (text saved : List ℕ) → SavesPart seals atom work first count text saved
      → 0 < saved_atoms work.zone.resilience atom count
      → WriteCall atom (work.zone.store.start + saved_before work.zone.resilience atom first) saved
      old new succeeded
      → ZoneStep seals atom work old new (saving (saved_before work.zone.resilience atom first))
      (fetched first text) (saving (saved_before work.zone.resilience atom first
      + saved_atoms work.zone.resilience atom count))
      (after_saving work.zone.own.count first count text)
  keeps : (part : Part) → SyncCall old new succeeded
      → ZoneStep seals atom work old new (saving work.zone.store.count) part (opening begun) part
  opens : (stage : Stage) (part : Part) → stage ≢ second_written
      → PutsCopy atom work.layout work.zone.opened stage old new succeeded
      → ZoneStep seals atom work old new (opening stage) part (opening (next_stage stage)) part
  writes : (n count : ℕ) (text next : List ℕ) → 0 < count
      → IsResealed seals atom (work.range.start + n) count text next
      → WriteCall atom (work.zone.own.start + n) next old new succeeded
      → ZoneStep seals atom work old new (writing n) (fetched n text) (writing (n + count))
      (wanted (n + count))
  settles : (part : Part) → SyncCall old new succeeded
      → ZoneStep seals atom work old new (writing work.zone.own.count) part (moving begun) part
  moves : (stage : Stage) (part : Part) → stage ≢ second_written
      → PutsCopy atom work.layout work.zone.moved stage old new succeeded
      → ZoneStep seals atom work old new (moving stage) part (moving (next_stage stage)) part
  shifts : (n count : ℕ) (text next : List ℕ) → 0 < count
      → IsResealed seals atom (work.range.start + n) count text next
      → n + count ≤ work.zone.target.count
      → WriteCall atom (work.zone.target.start + n) next old new succeeded
      → ZoneStep seals atom work old new (shifting n) (fetched n text) (shifting (n + count))
      (wanted (n + count))
  arrives : (part : Part) → SyncCall old new succeeded
      → ZoneStep seals atom work old new (shifting work.zone.target.count) part (turning begun) part
  turns : (stage : Stage) (part : Part) → stage ≢ second_written
      → PutsCopy atom work.layout work.zone.moved stage old new succeeded
      → ZoneStep seals atom work old new (turning stage) part (turning (next_stage stage)) part

-- A call of the zone that fails: what a stop finds then is as after the call where it was a write of
-- a copy, else as before it. A read fails so behind the first commit, or behind the first atom that
-- was written to another place.
abbrev pub IsBehindFirst : Phase → Type 0
IsBehindFirst (writing n) = Unit {0}
IsBehindFirst (shifting n) = 0 < n
IsBehindFirst _ = ⊥

-- a sync is next
abbrev pub IsToSync : Work → Phase → Type 0
IsToSync work (saving n) = n ≡ work.zone.store.count
IsToSync work (writing n) = n ≡ work.zone.own.count
IsToSync work (shifting n) = n ≡ work.zone.target.count
IsToSync work _ = ⊥

pub data StepFails (seals : Seals) (atom : ℕ) (work : Work) (old new : Device) : Phase → Part
    → Phase → Type 0 where
  read_fails : (phase : Phase) (first : ℕ) (text : List ℕ) → IsBehindFirst phase
      → ReadCall atom (work.zone.own.start + first) text old new failed_call
      → StepFails seals atom work old new phase (wanted first) phase
  save_fails : (first count : ℕ) (text saved : List ℕ)
      → SavesPart seals atom work first count text saved
      → 0 < saved_atoms work.zone.resilience atom count
      → WriteCall atom (work.zone.store.start + saved_before work.zone.resilience atom first) saved
      old new failed_call
      → StepFails seals atom work old new (saving (saved_before work.zone.resilience atom first))
      (fetched first text) (saving (saved_before work.zone.resilience atom first))
  open_fails : (stage : Stage) (part : Part)
      → PutsCopy atom work.layout work.zone.opened stage old new failed_call
      → StepFails seals atom work old new (opening stage) part (opening (failed_stage stage))
  write_fails : (n count : ℕ) (text next : List ℕ) → 0 < count
      → IsResealed seals atom (work.range.start + n) count text next
      → WriteCall atom (work.zone.own.start + n) next old new failed_call
      → StepFails seals atom work old new (writing n) (fetched n text) (writing n)
  move_fails : (stage : Stage) (part : Part)
      → PutsCopy atom work.layout work.zone.moved stage old new failed_call
      → StepFails seals atom work old new (moving stage) part (moving (failed_stage stage))
  shift_fails : (n count : ℕ) (text next : List ℕ) → 0 < count
      → IsResealed seals atom (work.range.start + n) count text next
      → n + count ≤ work.zone.target.count
      → WriteCall atom (work.zone.target.start + n) next old new failed_call
      → StepFails seals atom work old new (shifting n) (fetched n text) (shifting n)
  turn_fails : (stage : Stage) (part : Part)
      → PutsCopy atom work.layout work.zone.moved stage old new failed_call
      → StepFails seals atom work old new (turning stage) part (turning (failed_stage stage))
  sync_fails : (phase : Phase) (part : Part) → IsToSync work phase → SyncCall old new failed_call
      → StepFails seals atom work old new phase part phase
