-- What a conversion that is led on keeps of what its disk stood for.
use Rattle.std.specs.Prelude.{ℕ, ◌≡◌, ◌++◌, List, Option, Some, Ok}
use Rattle.base_terms.specs.Blocks.{joined}
use Rattle.resume_disk.specs.declared.midway.fault.ConversionCause.{ConversionCause}
use Rattle.header_report.specs.Examinations.{sizes_alone}
use Rattle.sector_disk.specs.JoinedDisks.Joined.{Joint, joined_disk}
use Rattle.luks_store.specs.Devices.{front_of}
use Rattle.luks_store.specs.Loads.{stored_in}
use Rattle.luks_store.specs.declared.loaded.Stored.{Stored}
use Rattle.image_laws.specs.Opened.Images.{ImageStandsFor}
use Rattle.reenc_recovery.specs.declared.keys.SideKeys.{SideKeys}
use Rattle.reenc_recovery.specs.Images.{StandsFor}
use Rattle.reenc_recovery.specs.Placings.{RestsIn}
use Rattle.reenc_worker.specs.declared.ends.WorkerEnd.{WorkerEnd}
use Rattle.reenc_worker.specs.declared.ends.WorkerEnd.TheVariants.{Finished}
use Rattle.resume_disk.specs.Complete.{NoneFailed}
use Rattle.resume_disk.specs.Refusals.{IsRefusedBy, IsUnopenedUnder}
use Rattle.resume_disk.specs.Resuming.{HasRun}
use Rattle.resume_disk.specs.Standing.{ConvertsIn}
use Rattle.resume_disk.specs.declared.refusal.Refusal.{Refusal}
use Rattle.resume_disk.specs.declared.refusal.Refusal.TheVariants as refusals
use Rattle.recovery_laws.specs.Resumed.Chaining.{StandsAgain}
use Rattle.recovery_laws.specs.Resumed.Keeping.{KeepsContent}
use Rattle.recovery_laws.specs.Resumed.Openings.{IsKnownBehind, KeepsUnopened}
use Rattle.recovery_laws.specs.Resumed.Passphrases.{StandsAgainFor}
use Rattle.recovery_laws.specs.Resumed.Resuming.{both_of}
use Rattle.recovery_laws.specs.Resumed.Runs.{StandsAlone}
use Rattle.recovery_laws.specs.Resumed.Starts.{volume_seals}
use Rattle.sector_disk.specs.Devices.{Device as DiskState}
use Rattle.sector_disk.specs.Steps.{Told}
use Rattle.recovery_laws.specs.Served.Clients.{StoodFor}
use Rattle.volume_laws.specs.Handing.{handed_over}
use Rattle.volume_laws.specs.Imaging.{IsTaken}
use Rattle.volume_machine.specs.Deeds.{Deed, state_after}
use Rattle.volume_machine.specs.States.{State}
use Rattle.volume_machine.specs.declared.keys.Keys.{Keys}
use Rattle.volume_opening.specs.Openings.{IsTried, alone}
use Rattle.hotzone.specs.ZoneEvents.Heads.{header_on}
use Rattle.hotzone.specs.ZoneEvents.Readings.{reading_of}

-- ---- the keys
-- The content for which the disk stood under the passphrase is one for which it stood under the keys that
-- were found for the sides of its conversion.
abbrev pub KnowsKeys : DiskState → List ℕ → SideKeys → Type 0
KnowsKeys device pass keys = (first : List ℕ) (content : List (List ℕ)) → device.values ≡ Some first
    → ImageStandsFor (sizes_alone device) pass first content
    → (old_key new_key : List ℕ)
    × StoodFor (sizes_alone device) keys device first old_key new_key content

-- ---- the passphrase
-- Once a conversion was led to its end the bytes that are told then stand, under the passphrase, for what
-- the disk stood for under it, by a header that converts nothing. Where a zone was open at first the disk
-- that is handed back tells its tables.
abbrev pub StandsAtEnd : {C D : Type 0} {sector : C → ℕ} {sealed opened : C → ℕ → List ℕ → List ℕ}
    {device : D → DiskState} {disk : D} {pass : List ℕ} {after : State (Keys C)}
    {header : Option D} {back : D}
    → HasRun sector sealed opened device disk pass Finished after header back → Type 0
StandsAtEnd {C} {D} {sector} {sealed} {opened} {device} {disk} {pass} run =
    (first : List ℕ) (content : List (List ℕ)) → (device disk).values ≡ Some first
    → ImageStandsFor (sizes_alone (device disk)) pass first content
    → IsKnownBehind run.resumed.calls.found.header (joined_disk run.joint)
    → (now : List ℕ) × ((joined_disk run.joint).values ≡ Some now)
    × StandsFor (sizes_alone (device disk)) pass now content
    × RestsIn (sizes_alone (device disk)) now

-- Wherever the worker stops each image in which no copy of the header is torn or hidden stands under the
-- passphrase for the same, by its own header: so the next call goes on from there, or finds the conversion
-- at its end.
abbrev pub StandsAtStops : {C D : Type 0} {sector : C → ℕ} {sealed opened : C → ℕ → List ℕ → List ℕ}
    {device : D → DiskState} {disk : D} {pass : List ℕ} {end : WorkerEnd} {after : State (Keys C)}
    {header : Option D} {back : D}
    → HasRun sector sealed opened device disk pass end after header back → Type 0
StandsAtStops {C} {D} {sector} {sealed} {opened} {device} {disk} {pass} run =
    (first : List ℕ) (content : List (List ℕ)) → (device disk).values ≡ Some first
    → ImageStandsFor (sizes_alone (device disk)) pass first content
    → (earlier later : List (Deed (Keys C))) → run.led.ran.worked.deeds ≡ earlier ++ later
    → (told : Told) → (state_after run.volume earlier).disk.told ≡ Some told
    → (image : List (List ℕ))
    → IsTaken (reading_of (sizes_alone (device disk))) (state_after run.volume earlier)
    (handed_over run.volume (both_of (header_on run.resumed.calls.led.last)) earlier) told.now image
    → StandsAgainFor (sizes_alone (device disk)) pass (joined image) content

-- ---- what alone keeps one from its end
-- The disk told its bytes, which stood for a content under a passphrase of 1 to 512 bytes; by their header
-- a conversion was under way, and no device call failed: then it was for this cause.
abbrev pub WhereNoneFailed : {D : Type 0} → (D → DiskState) → D → List ℕ → Option D → D → Type 0
    → Type 0
WhereNoneFailed device disk pass header back Cause =
    (first : List ℕ) (content : List (List ℕ)) → (device disk).values ≡ Some first → IsTried pass
    → ImageStandsFor (sizes_alone (device disk)) pass first content
    → ConvertsIn (sizes_alone (device disk)) first → NoneFailed device disk header back → Cause

-- ---- a conversion that was led on
-- Since the first sync of the opening each image of each table stands for the content. Wherever the worker
-- stops, each image in which no copy of the header is torn or hidden stands for it too, by the metadata of
-- its own header and under the same keys: so the next call goes on from there, or finds the conversion at
-- its end.
pub record KeepsRun {C D : Type 0} (sector : C → ℕ) (sealed opened : C → ℕ → List ℕ → List ℕ)
    (device : D → DiskState) (disk : D) (pass : List ℕ) (end : WorkerEnd) (after : State (Keys C))
    (header : Option D) (back : D)
    (run : HasRun sector sealed opened device disk pass end after header back)
    (old_key new_key : List ℕ) (content : List (List ℕ)) : Type 0 where
  pub since : KeepsContent (sizes_alone (device disk)) run.resumed.calls.found.header
      run.resumed.calls.led.last old_key new_key content (joined_disk (alone run.resumed.read))
      run.resumed.calls.led.mended run.volume.disk
  pub stops : (earlier later : List (Deed (Keys C))) → run.led.ran.worked.deeds ≡ earlier ++ later
      → (told : Told) → (state_after run.volume earlier).disk.told ≡ Some told
      → StandsAlone (reading_of (sizes_alone (device disk))) (state_after run.volume earlier)
      (volume_seals sealed opened run.volume) content
      (handed_over run.volume (both_of (header_on run.resumed.calls.led.last)) earlier) told.now
  pub again : (earlier later : List (Deed (Keys C))) → run.led.ran.worked.deeds ≡ earlier ++ later
      → (told : Told) → (state_after run.volume earlier).disk.told ≡ Some told
      → (image : List (List ℕ))
      → IsTaken (reading_of (sizes_alone (device disk))) (state_after run.volume earlier)
      (handed_over run.volume (both_of (header_on run.resumed.calls.led.last)) earlier) told.now
      image
      → StandsAgain (sizes_alone (device disk)) old_key new_key (joined image) content

-- ---- a conversion that wasn't
-- Of an opening that made no volume each image of each table since its first sync stands for the content.
abbrev pub KeepsVain : {C : Type 0} {sector : C → ℕ} {sealed opened : C → ℕ → List ℕ → List ℕ}
    {device : DiskState} {pass : List ℕ} {cause : ConversionCause} {joint : Joint}
    → IsUnopenedUnder sector sealed opened device pass cause joint → Type 0
KeepsVain {C} {sector} {sealed} {opened} {device} {pass} {cause} {joint} under =
    (first old_key new_key : List ℕ) (content : List (List ℕ)) (header : Stored)
    → StoodFor (sizes_alone device) under.keys device first old_key new_key content
    → stored_in (sizes_alone device) (front_of (sizes_alone device) first) ≡ Ok header
    → KeepsUnopened header old_key new_key content under.unopened.1

-- The content for which the disk stood under the passphrase is one for which it stood under the keys that
-- were found, also where the opening under them came to nothing.
abbrev pub KnowsRefused : {C D : Type 0} (sector : C → ℕ)
    (sealed opened : C → ℕ → List ℕ → List ℕ) (device : D → DiskState) (disk : D) (pass : List ℕ)
    (refusal : Refusal) (header : Option D) (back : D)
    → IsRefusedBy sector sealed opened device disk pass refusal header back → Type 0
KnowsRefused sector sealed opened device disk pass (refusals.Unopened cause) header back refused =
    KnowsKeys (device disk) pass refused.2.keys
KnowsRefused sector sealed opened device disk pass refusal header back refused = Unit {0}

-- else the disk was only read
abbrev pub KeepsRefused : {C D : Type 0} (sector : C → ℕ)
    (sealed opened : C → ℕ → List ℕ → List ℕ) (device : D → DiskState) (disk : D) (pass : List ℕ)
    (refusal : Refusal) (header : Option D) (back : D)
    → IsRefusedBy sector sealed opened device disk pass refusal header back → Type 0
KeepsRefused sector sealed opened device disk pass (refusals.Unopened cause) header back refused =
    KeepsVain refused.2
KeepsRefused sector sealed opened device disk pass refusal header back refused = Unit {0}
