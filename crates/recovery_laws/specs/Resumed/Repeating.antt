-- A conversion that is taken up again any number of times, each time until a stop.
use Rattle.std.specs.Prelude.{ℕ, ◌≡◌, ◌⊎◌, ◌+◌, ◌*◌, ◌++◌, ◌<◌, List, [], length, drop, slice_index_or}
use Rattle.std.specs.Prelude.{Option, None, Some, Ok}
use Rattle.base_terms.specs.Blocks.{joined}
use Rattle.resume_disk.specs.OpenedMidway.Openings.{IsNotLedOn, IsOpenedOf, IsUnopened, not_led_on}
use Rattle.resume_disk.specs.OpenedMidway.Openings.{only_read, unarmed, uncalled, unmended}
use Rattle.resume_disk.specs.OpenedMidway.Openings.{unrepaired}
use Rattle.resume_disk.specs.OpenedMidway.Openings.{unsynced}
use Rattle.resume_disk.specs.declared.midway.fault.ConversionCause.{ConversionCause}
use Rattle.base_terms.specs.declared.disk_sizes.Sizes.{Sizes}
use Rattle.hotzone.specs.Workers.{MayGoOn}
use Rattle.sector_disk.specs.JoinedDisks.Counts.{HasSizes}
use Rattle.sector_disk.specs.JoinedDisks.Joined.{Joint, joined_disk}
use Rattle.luks_store.specs.declared.header_copies.repair.Repair.{Repair}
use Rattle.luks_store.specs.Devices.{front_of}
use Rattle.luks_store.specs.Loads.{stored_in}
use Rattle.luks_store.specs.declared.loaded.Stored.{Stored}
use Rattle.reenc_recovery.specs.Tables.{IsSpared, ShowsSizes}
use Rattle.reenc_recovery.specs.declared.keys.SideKeys.{SideKeys}
use Rattle.reenc_worker.specs.declared.ends.WorkAnswer.{WorkAnswer}
use Rattle.recovery_laws.specs.Resumed.Chaining.{AreDisks, StandsAgain}
use Rattle.recovery_laws.specs.Resumed.Keeping.{AreHandedIn}
use Rattle.recovery_laws.specs.Resumed.Resuming.{both_of}
use Rattle.recovery_laws.specs.Resumed.Starts.{volume_seals}
use Rattle.sector_disk.specs.Cells.{Cell}
use Rattle.sector_disk.specs.Devices.{Device}
use Rattle.sector_disk.specs.Steps.{Told}
use Rattle.volume_laws.specs.Converting.{IsInOrder}
use Rattle.volume_laws.specs.Handing.{handed_over}
use Rattle.volume_laws.specs.Imaging.{IsTaken}
use Rattle.volume_machine.specs.Deeds.{Deed, state_after}
use Rattle.volume_machine.specs.States.{State}
use Rattle.volume_machine.specs.declared.keys.Keys.{Keys}
use Rattle.volume_laws.specs.WorkerRuns.Steps.{HasWorked}
use Rattle.hotzone.specs.ZoneEvents.Heads.{header_on}
use Rattle.hotzone.specs.ZoneEvents.Readings.{reading_of}
use Rattle.image_laws.specs.Led.Holding.{TellsLawfully}
use Rattle.image_laws.specs.Led.Spared.{IsSparedTurn}

-- ---- a disk and its tables
-- disks of these sizes tell these bytes, all that they have
pub record Tells (sizes : Sizes) (old : Joint) (bytes : List ℕ) : Type 0 where
  pub has : HasSizes sizes (joined_disk old)
  pub shows : ShowsSizes sizes (joined_disk old)
  pub values : (joined_disk old).values ≡ Some bytes
  pub long : length bytes ≡ (joined_disk old).atoms * sizes.atom

-- the tables that were told since another moment, but for the first so many of them
abbrev pub tables_since : ℕ → Told → Told → List (Option ℕ × List Cell)
tables_since skipped before now = drop (length before.past + skipped) now.past

-- one of these, or the one at hand
pub record IsTableSince (skipped : ℕ) (old new : Device) (cells : List Cell) : Type 0 where
  pub before : Told
  pub was : old.told ≡ Some before
  pub now : Told
  pub is : new.told ≡ Some now
  pub table : (cells ≡ now.now)
      ⊎ ((k : ℕ) × (k < length (tables_since skipped before now))
      × (cells ≡ (slice_index_or (tables_since skipped before now) k (None, [])).1))

-- ---- an opening that made none: the disk that the repair left, and the header that comes next
abbrev pub Mends : {C : Type 0} {sector : C → ℕ} {sealed opened : C → ℕ → List ℕ → List ℕ}
    {header : Stored} {keys : Keys C} {repair : Option Repair} {read new : Device}
    {cause : ConversionCause}
    → IsNotLedOn sector sealed opened header keys repair read new cause → Device → Type 0
Mends {C} {sector} {sealed} {opened} {header} {keys} {repair} {read} {new} {cause}
    (unrepaired run is) mended = mended ≡ new
Mends (unmended before run zone is) mended = mended ≡ before
Mends (unarmed before run last leads is) mended = mended ≡ before

abbrev pub MendsAt : {C : Type 0} {sector : C → ℕ} {sealed opened : C → ℕ → List ℕ → List ℕ}
    {sizes later : Sizes} {handed : SideKeys} {old new : Joint} {cause : ConversionCause}
    → IsUnopened sector sealed opened sizes later handed old new cause → Device → Type 0
MendsAt (uncalled same_sizes same is) mended = ⊥
MendsAt (unsynced same_sizes call is) mended = ⊥
MendsAt {C} {sector} {sealed} {opened} {sizes} {later} {handed} {old} {new} {cause}
    (only_read same_sizes run) mended = mended ≡ joined_disk new
MendsAt (not_led_on found read first left) mended = Mends left mended

abbrev pub Leads : {C : Type 0} {sector : C → ℕ} {sealed opened : C → ℕ → List ℕ → List ℕ}
    {header : Stored} {keys : Keys C} {repair : Option Repair} {read new : Device}
    {cause : ConversionCause}
    → IsNotLedOn sector sealed opened header keys repair read new cause → Device → Stored → Type 0
Leads (unrepaired run is) mended next = ⊥
Leads (unmended before run zone is) mended next =
    (mended ≡ before) × (next ≡ zone.after.moved.loaded)
Leads (unarmed before run last leads is) mended next = (mended ≡ before) × (next ≡ last)

abbrev pub LeadsAt : {C : Type 0} {sector : C → ℕ} {sealed opened : C → ℕ → List ℕ → List ℕ}
    {sizes later : Sizes} {handed : SideKeys} {old new : Joint} {cause : ConversionCause}
    → IsUnopened sector sealed opened sizes later handed old new cause → Device → Stored → Type 0
LeadsAt (not_led_on found read first left) mended next = Leads left mended next
LeadsAt _ mended next = ⊥

-- ---- one time
-- An image that a stop may leave, in which no torn copy of a header is valid, where a disk that tells these
-- bytes is opened under these keys: behind the reads and the calls of the repair; behind the steps by
-- which an open zone is written again; the same of an opening that comes to nothing; and behind the
-- steps of the worker of a volume that was opened.
pub data MayLeave {C : Type 0} (sector : C → ℕ) (sealed opened : C → ℕ → List ℕ → List ℕ)
    (sizes : Sizes) (handed : SideKeys) (first image : List ℕ) : Type 0 where
  at_repair : (lanes : ℕ) (old : Joint) (volume : State (Keys C)) (cells : List Cell)
      (values : List (List ℕ)) → Tells sizes old first
      → (is : IsOpenedOf sector sealed opened sizes handed lanes old volume)
      → IsTableSince 1 (joined_disk old) is.led.mended cells
      → IsSpared sizes is.found.header cells values → image ≡ joined values
      → MayLeave sector sealed opened sizes handed first image
  at_mending : (lanes : ℕ) (old : Joint) (volume : State (Keys C)) (cells : List Cell)
      (values : List (List ℕ)) → Tells sizes old first
      → (is : IsOpenedOf sector sealed opened sizes handed lanes old volume)
      → (MayGoOn is.found.header → ⊥) → IsTableSince 0 is.led.mended volume.disk cells
      → IsSparedTurn sizes is.found.header is.led.last cells values → image ≡ joined values
      → MayLeave sector sealed opened sizes handed first image
  in_vain_at_repair : (later : Sizes) (old new : Joint) (cause : ConversionCause) (header : Stored)
      (mended : Device) (cells : List Cell) (values : List (List ℕ)) → Tells sizes old first
      → TellsLawfully (joined_disk new) → stored_in sizes (front_of sizes first) ≡ Ok header
      → (is : IsUnopened sector sealed opened sizes later handed old new cause) → MendsAt is mended
      → IsTableSince 1 (joined_disk old) mended cells → IsSpared sizes header cells values
      → image ≡ joined values → MayLeave sector sealed opened sizes handed first image
  in_vain_at_mending : (later : Sizes) (old new : Joint) (cause : ConversionCause)
      (header next : Stored) (mended : Device) (cells : List Cell) (values : List (List ℕ))
      → Tells sizes old first → TellsLawfully (joined_disk new)
      → stored_in sizes (front_of sizes first) ≡ Ok header
      → (is : IsUnopened sector sealed opened sizes later handed old new cause)
      → LeadsAt is mended next → (MayGoOn header → ⊥)
      → IsTableSince 0 mended (joined_disk new) cells → IsSparedTurn sizes header next cells values
      → image ≡ joined values → MayLeave sector sealed opened sizes handed first image
  at_work : (lanes : ℕ) (old : Joint) (volume after : State (Keys C)) (answers : List WorkAnswer)
      (values : List (List ℕ)) → Tells sizes old first
      → (is : IsOpenedOf sector sealed opened sizes handed lanes old volume)
      → IsInOrder (reading_of sizes) volume → AreDisks sizes volume.disk
      → (worked : HasWorked (reading_of sizes) (volume_seals sealed opened volume) volume after
      answers) → (earlier later : List (Deed (Keys C))) → worked.deeds ≡ earlier ++ later
      → (told : Told) → (state_after volume earlier).disk.told ≡ Some told
      → IsTaken (reading_of sizes) (state_after volume earlier)
      (handed_over volume (both_of (header_on is.led.last)) earlier) told.now values
      → image ≡ joined values → MayLeave sector sealed opened sizes handed first image

-- ---- any number of times
-- From some bytes on a conversion was taken up again and stopped, time after time, each time under the
-- keys of its sides, and these bytes are left.
pub data ComesTo {C : Type 0} (sector : C → ℕ) (sealed opened : C → ℕ → List ℕ → List ℕ)
    (sizes : Sizes) (old_key new_key first : List ℕ) : List ℕ → Type 0 where
  begun : ComesTo sector sealed opened sizes old_key new_key first first
  once_more : (handed : SideKeys) (between image : List ℕ)
      → ComesTo sector sealed opened sizes old_key new_key first between
      → AreHandedIn sizes handed between old_key new_key
      → MayLeave sector sealed opened sizes handed between image
      → ComesTo sector sealed opened sizes old_key new_key first image

-- They stand for the content for which the first ones stood: the conversion goes on by their header,
-- or is at its end.
abbrev pub ResumedAnyNumberOfTimes : {C : Type 0} → (C → ℕ) → (C → ℕ → List ℕ → List ℕ)
    → (C → ℕ → List ℕ → List ℕ) → Type 0
ResumedAnyNumberOfTimes {C} sector sealed opened =
    (sizes : Sizes) (old_key new_key first image : List ℕ) (content : List (List ℕ))
    → StandsAgain sizes old_key new_key first content
    → ComesTo sector sealed opened sizes old_key new_key first image
    → StandsAgain sizes old_key new_key image content
