-- What is promised under a passphrase of a volume whose conversion is taken up again.
use Rattle.std.specs.Prelude.{ℕ, ◌≡◌, ◌⊎◌, List, Some, Ok}
use Rattle.resume_disk.specs.OpenedMidway.Openings.{IsOpenedOf}
use Rattle.base_terms.specs.declared.disk_sizes.Sizes.{Sizes}
use Rattle.hotzone.specs.Sites.{IsSaved}
use Rattle.sector_disk.specs.JoinedDisks.Joined.{Joint}
use Rattle.luks_rules.specs.Shapes.{progress_of}
use Rattle.luks_rules.specs.declared.shape.Progress.{Progress}
use Rattle.luks_store.specs.Devices.{front_of}
use Rattle.luks_store.specs.Loads.{stored_in}
use Rattle.luks_store.specs.declared.loaded.Stored.{Stored}
use Rattle.image_laws.specs.Opened.Images.{ImageStandsFor}
use Rattle.reenc_recovery.specs.Images.{StandsFor}
use Rattle.reenc_recovery.specs.Keys.{key_for, used_by}
use Rattle.reenc_recovery.specs.Placings.{RestsIn}
use Rattle.reenc_recovery.specs.declared.keys.SideKeys.{SideKeys}
use Rattle.reenc_worker.specs.declared.ends.WorkerEnd.TheVariants.{Finished}
use Rattle.recovery_laws.specs.Resumed.Chaining.{AreDisks, GoesOnIn}
use Rattle.recovery_laws.specs.Resumed.Openings.{IsKnownBehind}
use Rattle.recovery_laws.specs.Resumed.Repeating.{MayLeave, Tells}
use Rattle.recovery_laws.specs.Resumed.Starts.{BeginsBehind, layout_on, volume_seals}
use Rattle.volume_laws.specs.Converting.{IsInOrder}
use Rattle.volume_machine.specs.States.{State}
use Rattle.volume_machine.specs.declared.keys.Keys.{Keys}
use Rattle.volume_laws.specs.WorkerRuns.Conversions.{HasConverted}
use Rattle.hotzone.specs.ZoneEvents.Heads.{header_on}
use Rattle.hotzone.specs.ZoneEvents.Readings.{reading_of}

-- ---- an image
-- By its header the conversion goes on, and the image stands for the content under the passphrase,
-- whether a zone is open or not; or nothing is being converted any more, and it does so too.
abbrev pub StandsAgainFor : Sizes → List ℕ → List ℕ → List (List ℕ) → Type 0
StandsAgainFor sizes pass image content =
    (ImageStandsFor sizes pass image content × GoesOnIn sizes image)
    ⊎ (StandsFor sizes pass image content × RestsIn sizes image)

-- ---- the keys
-- Where these bytes have a header by which a conversion is under way, the keys that were handed in are
-- those that its keyslots give to the passphrase for the whole segments of its sides.
abbrev pub AreGiven : Sizes → List ℕ → SideKeys → List ℕ → Type 0
AreGiven sizes pass handed bytes =
    (stored : Stored) → stored_in sizes (front_of sizes bytes) ≡ Ok stored → (now : Progress)
    → progress_of stored.valid.meta sizes ≡ Some now
    → (key_for stored.valid.meta bytes pass now.old ≡ Some (used_by now.old.encryption handed.old))
    × (key_for stored.valid.meta bytes pass now.new ≡ Some (used_by now.new.encryption handed.new))

-- ---- one time
-- Bytes stand for a content under a passphrase, and the volume is opened under the keys that their
-- keyslots give to it. Whatever a stop leaves of that, of the opening, of one that comes to nothing, or
-- of the worker's steps, stands for the same content under the same passphrase.
abbrev pub StopsStandForPassphrases : {C : Type 0} → (C → ℕ) → (C → ℕ → List ℕ → List ℕ)
    → (C → ℕ → List ℕ → List ℕ) → Type 0
StopsStandForPassphrases {C} sector sealed opened =
    (sizes : Sizes) (handed : SideKeys) (pass first image : List ℕ) (content : List (List ℕ))
    → StandsAgainFor sizes pass first content → AreGiven sizes pass handed first
    → MayLeave sector sealed opened sizes handed first image
    → StandsAgainFor sizes pass image content

-- ---- any number of times
-- From some bytes on a conversion was taken up again and stopped, time after time, each time under the
-- keys that the keyslots give to the passphrase, and these bytes are left.
pub data ComesToFor {C : Type 0} (sector : C → ℕ) (sealed opened : C → ℕ → List ℕ → List ℕ)
    (sizes : Sizes) (pass first : List ℕ) : List ℕ → Type 0 where
  begun : ComesToFor sector sealed opened sizes pass first first
  once_more : (handed : SideKeys) (between image : List ℕ)
      → ComesToFor sector sealed opened sizes pass first between
      → AreGiven sizes pass handed between
      → MayLeave sector sealed opened sizes handed between image
      → ComesToFor sector sealed opened sizes pass first image

-- They stand under the passphrase for the content for which the first ones stood under it.
abbrev pub ResumedAnyNumberOfTimesFor : {C : Type 0} → (C → ℕ) → (C → ℕ → List ℕ → List ℕ)
    → (C → ℕ → List ℕ → List ℕ) → Type 0
ResumedAnyNumberOfTimesFor {C} sector sealed opened =
    (sizes : Sizes) (pass first image : List ℕ) (content : List (List ℕ))
    → StandsAgainFor sizes pass first content
    → ComesToFor sector sealed opened sizes pass first image
    → StandsAgainFor sizes pass image content

-- ---- a volume that was opened
-- Disks tell bytes that stand for a content under a passphrase, and a volume was opened of them under
-- the keys that their keyslots give to it; it is in order by its header.
pub record IsTakenUpFor {C : Type 0} (sector : C → ℕ) (sealed opened : C → ℕ → List ℕ → List ℕ)
    (sizes : Sizes) (handed : SideKeys) (lanes : ℕ) (old : Joint) (volume : State (Keys C))
    (pass : List ℕ) (content : List (List ℕ)) : Type 0 where
  pub first : List ℕ
  pub tells : Tells sizes old first
  pub given : AreGiven sizes pass handed first
  pub stands : ImageStandsFor sizes pass first content
  pub is : IsOpenedOf sector sealed opened sizes handed lanes old volume
  pub order : IsInOrder (reading_of sizes) volume

-- Its disk holds for certain bytes that stand for the content under the passphrase, and something is saved
-- of the blocks of zones: so runs start from it.
abbrev pub TakenUpConversionsBeginFor : {C : Type 0} → (C → ℕ) → (C → ℕ → List ℕ → List ℕ)
    → (C → ℕ → List ℕ → List ℕ) → Type 0
TakenUpConversionsBeginFor {C} sector sealed opened =
    (sizes : Sizes) (handed : SideKeys) (lanes : ℕ) (old : Joint) (volume : State (Keys C))
    (pass : List ℕ) (content : List (List ℕ))
    → (taken : IsTakenUpFor sector sealed opened sizes handed lanes old volume pass content)
    → IsKnownBehind taken.is.found.header volume.disk
    → (now : List ℕ) × (stands : StandsFor sizes pass now content)
    × (begins : BeginsBehind sector sealed opened sizes taken.is.led.last lanes stands.old stands.new now
    volume) × IsSaved begins.now.conversion.resilience

-- ---- its end
-- Once its worker has led the conversion to its end the bytes that its disk tells stand for the content
-- under the passphrase, by a header that converts nothing.
abbrev pub FinishedConversionsStandFor : {C : Type 0} → (C → ℕ) → (C → ℕ → List ℕ → List ℕ)
    → (C → ℕ → List ℕ → List ℕ) → Type 0
FinishedConversionsStandFor {C} sector sealed opened =
    (sizes : Sizes) (handed : SideKeys) (lanes : ℕ) (old : Joint) (volume after : State (Keys C))
    (pass : List ℕ) (content : List (List ℕ))
    → (taken : IsTakenUpFor sector sealed opened sizes handed lanes old volume pass content)
    → AreDisks sizes volume.disk
    → HasConverted (reading_of sizes) (volume_seals sealed opened volume)
    (layout_on sizes taken.is.led.last) (header_on taken.is.led.last) volume after Finished
    → IsKnownBehind taken.is.found.header after.disk
    → (now : List ℕ) × (after.disk.values ≡ Some now) × StandsFor sizes pass now content
    × RestsIn sizes now
