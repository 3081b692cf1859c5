-- What is promised of the steps of a zone, on a disk that tells its tables.
use Rattle.std.specs.Prelude.{ℕ, ◌≡◌, false, true, List, replicate, Some, None}
use Rattle.base_terms.specs.Blocks.{lengths}
use Rattle.cipher_laws.specs.Bytes.{AreBytes}
use Rattle.crash_laws.specs.HeaderAreas.Commits.{ShowsCommit, begun}
use Rattle.crash_laws.specs.HeaderAreas.Headers.{Header, IsLaidOut, Layout}
use Rattle.sector_disk.specs.DiskViews.Views.{View, view_of_cells}
use Rattle.crash_laws.specs.HotZones.Calls.{CallBeside, ShowsMoved}
use Rattle.crash_laws.specs.HotZones.Standing.{IsKept}
use Rattle.crash_laws.specs.HotZones.Zones.{Texts, IsApart, ShowsZone}
use Rattle.hotzone.specs.Known.{IsAtHand, IsKnown, NamesHeaders, phase_of, zone_by}
use Rattle.hotzone.specs.Sites.{kind_of}
use Rattle.hotzone.specs.Steps.{Goes, Stops}
use Rattle.hotzone.specs.Workers.{IsWorking}
use Rattle.hotzone.specs.declared.worker.NextCall.{NextCall}
use Rattle.hotzone.specs.declared.worker.NextCall.TheVariants.{Begin, Keep, Open, ReadAgain, Write}
use Rattle.hotzone.specs.declared.worker.NextCall.TheVariants.{Settle, Move}
use Rattle.hotzone.specs.declared.worker.Stepped.{Stepped}
use Rattle.hotzone.specs.declared.worker.Stepped.TheVariants.{Went, ZoneDone}
use Rattle.hotzone.specs.declared.worker.Worker.{Worker}
use Rattle.hotzone.specs.declared.worker.ZoneFault.{ZoneFault}
use Rattle.sector_disk.specs.JoinedDisks.Counts.{HasSizes}
use Rattle.luks_store.specs.Copying.Meanings.{meaning_of}
use Rattle.luks_store.specs.Loads.{IsStored}
use Rattle.sector_disk.specs.Cells.{content, currents}
use Rattle.sector_disk.specs.Devices.{Device}
use Rattle.sector_disk.specs.Geometry.{IsAtom}
use Rattle.sector_disk.specs.Steps.{Told}
use Rattle.volume_machine.specs.Saved.{saved_hash}
use Rattle.volume_machine.specs.Seals.{Seals, seals_of}

-- a disk that tells its table and its bytes alike, as each does
pub record TellsAlike (device : Device) : Type 0 where
  pub agrees : (told : Told) → device.told ≡ Some told → device.values ≡ Some (content told.now)
  pub even : (told : Told) → device.told ≡ Some told
      → lengths (currents told.now) ≡ replicate device.atoms device.size
  pub bytes : (all : List ℕ) → device.values ≡ Some all → AreBytes all

-- a worker that isn't halted, over a disk where its header's copies lie
pub record IsOver {C : Type 0} (sector : C → ℕ) (layout : Layout) (worker : Worker C)
    (device : Device) : Type 0 where
  pub working : IsWorking sector worker
  pub runs : worker.halted ≡ None
  pub sizes : HasSizes worker.loaded.valid.sizes device
  pub laid : IsLaidOut device.size device.atoms worker.loaded.copies.used.header.hdr_size layout
  pub tells : TellsAlike device
  pub stored : IsStored worker.loaded

-- Where a disk tells its table behind a call it told it before, and what was known then leads to
-- this.
abbrev pub Leads : Device → Told → (View → View → Type 0) → Type 0
Leads old now Step =
    (was : Told) × (old.told ≡ Some was) × Step (view_of_cells was.now) (view_of_cells now.now)

-- the seals of a worker's keys
abbrev pub seals_in : {C : Type 0} → (C → ℕ → List ℕ → List ℕ) → (C → ℕ → List ℕ → List ℕ)
    → Worker C → Seals
seals_in seal unseal worker = seals_of seal unseal worker.site.atom worker.keys

-- ---- A zone begins while the header stands for certain, and its atoms are those that the disk
-- holds.
abbrev pub StepBegins : {C : Type 0} → (C → ℕ) → (C → ℕ → List ℕ → List ℕ)
    → (C → ℕ → List ℕ → List ℕ) → Type 0
StepBegins {C} sector seal unseal =
    (layout : Layout) (header : Header (List ℕ)) (before after : Worker C) (old new : Device)
    (stepped : Stepped) (now : Told) → IsOver sector layout before old → before.next ≡ Begin
    → header.means ≡ meaning_of before.loaded.copies.used.bytes
    → IsApart layout (zone_by before.site header header header)
    → Goes (seals_in seal unseal before) old new before after stepped → new.told ≡ Some now
    → Leads old now (λ was is.
    ((to : Header (List ℕ)) → ShowsCommit before.site.atom layout header to begun false was)
    → (texts : Texts)
    × IsKnown (seals_in seal unseal before) layout header header header texts after is)

-- Each step of a zone that is at hand but its last leads from what is known to what is known.
abbrev pub StepGoes : {C : Type 0} → (C → ℕ) → (C → ℕ → List ℕ → List ℕ)
    → (C → ℕ → List ℕ → List ℕ) → Type 0
StepGoes {C} sector seal unseal =
    (layout : Layout) (first middle moved : Header (List ℕ)) (texts : Texts)
    (before after : Worker C) (old new : Device) (now : Told) → IsOver sector layout before old
    → IsAtHand before.next
    → Goes (seals_in seal unseal before) old new before after Went → new.told ≡ Some now
    → Leads old now (λ was is.
    IsKnown (seals_in seal unseal before) layout first middle moved texts before was
    → (open_next : Header (List ℕ)) × (moved_next : Header (List ℕ))
    × IsKnown (seals_in seal unseal before) layout first open_next moved_next texts after is)

-- The last one leaves the new atoms and the header with the boundary moved for certain.
abbrev pub StepEnds : {C : Type 0} → (C → ℕ) → (C → ℕ → List ℕ → List ℕ)
    → (C → ℕ → List ℕ → List ℕ) → Type 0
StepEnds {C} sector seal unseal =
    (layout : Layout) (first middle moved : Header (List ℕ)) (texts : Texts)
    (before after : Worker C) (old new : Device) (now : Told) → IsOver sector layout before old
    → Goes (seals_in seal unseal before) old new before after ZoneDone → new.told ≡ Some now
    → Leads old now (λ was is.
    IsKnown (seals_in seal unseal before) layout first middle moved texts before was
    → ShowsMoved before.site.atom layout (zone_by before.site first middle moved) texts
    (zone_by before.site first middle moved).own is
    × (moved.means ≡ meaning_of after.loaded.copies.used.bytes))

-- One that isn't made, or has failed, leaves what a stop may leave of the zone, by what stands
-- then: how far it is, and the headers' names.
abbrev pub StepStops : {C : Type 0} → (C → ℕ) → (C → ℕ → List ℕ → List ℕ)
    → (C → ℕ → List ℕ → List ℕ) → Type 0
StepStops {C} sector seal unseal =
    (layout : Layout) (first middle moved : Header (List ℕ)) (texts : Texts)
    (before after : Worker C) (old new : Device) (fault : ZoneFault) (now : Told)
    → IsOver sector layout before old → IsAtHand before.next
    → Stops (seals_in seal unseal before) old new before after fault → new.told ≡ Some now
    → Leads old now (λ was is.
    IsKnown (seals_in seal unseal before) layout first middle moved texts before was
    → ShowsZone after.site.atom layout (zone_by after.site first middle moved) texts
    (phase_of after) true is × NamesHeaders after.next middle moved)

-- ---- What others do beside the zone leaves what is known of it.
abbrev pub StepStays : (C : Type 0) → Type 0
StepStays C =
    (seals : Seals) (layout : Layout) (first middle moved : Header (List ℕ)) (texts : Texts)
    (worker : Worker C) (old new : View)
    → CallBeside layout (zone_by worker.site first middle moved) old new false
    → IsKnown seals layout first middle moved texts worker old
    → IsKnown seals layout first middle moved texts worker new

-- ---- Once all is saved the zone has what its guard needs: its old atoms, or digests of them that
-- tell each from the new one.
abbrev pub HasSaved : NextCall → Type 0
HasSaved (Keep headers) = Unit {0}
HasSaved (Open headers) = Unit {0}
HasSaved (ReadAgain done headers) = Unit {0}
HasSaved (Write done headers) = Unit {0}
HasSaved (Settle headers) = Unit {0}
HasSaved (Move headers) = Unit {0}
HasSaved _ = ⊥

abbrev pub StepKeeps : (C : Type 0) → Type 0
StepKeeps C =
    (seals : Seals) (layout : Layout) (first middle moved : Header (List ℕ)) (texts : Texts)
    (worker : Worker C) (view : View) → IsAtom worker.site.atom → HasSaved worker.next
    → IsKnown seals layout first middle moved texts worker view
    → IsKept (kind_of worker.site.guard) saved_hash (zone_by worker.site first middle moved) texts
