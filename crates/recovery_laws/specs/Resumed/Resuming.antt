-- What is promised of a volume whose conversion is taken up again, and led to its end.
use Rattle.std.specs.Prelude.{ℕ, ◌≡◌, ◌++◌, ◌∷◌, List, [], Some}
use Rattle.resume_disk.specs.OpenedMidway.Openings.{IsOpenedOf}
use Rattle.crash_laws.specs.HeaderAreas.Headers.{Handed, Header, text_of}
use Rattle.base_terms.specs.declared.disk_sizes.Sizes.{Sizes}
use Rattle.hotzone.specs.Sites.{IsSaved}
use Rattle.sector_disk.specs.JoinedDisks.Joined.{Joint}
use Rattle.reenc_recovery.specs.Images.{StandsUnder}
use Rattle.reenc_recovery.specs.declared.keys.SideKeys.{SideKeys}
use Rattle.reenc_worker.specs.declared.ends.WorkAnswer.{WorkAnswer}
use Rattle.reenc_worker.specs.declared.ends.WorkerEnd.TheVariants.{Finished}
use Rattle.recovery_laws.specs.Resumed.Openings.{IsKnownBehind, OpensOn}
use Rattle.recovery_laws.specs.Resumed.Runs.{HoldsNew, StandsAlone}
use Rattle.recovery_laws.specs.Resumed.Starts.{BeginsBehind, layout_on, volume_seals}
use Rattle.sector_disk.specs.Steps.{Told}
use Rattle.volume_laws.specs.Converting.{IsInOrder}
use Rattle.volume_laws.specs.Handing.{handed_over}
use Rattle.volume_machine.specs.Deeds.{Deed, state_after}
use Rattle.volume_machine.specs.States.{State}
use Rattle.volume_machine.specs.declared.keys.Keys.{Keys}
use Rattle.volume_laws.specs.WorkerRuns.Conversions.{HasConverted}
use Rattle.volume_laws.specs.WorkerRuns.Steps.{HasWorked}
use Rattle.hotzone.specs.ZoneEvents.Heads.{header_on}
use Rattle.hotzone.specs.ZoneEvents.Readings.{reading_of}

-- the text of each copy of a header, by its place
abbrev pub both_of : Header (List ℕ) → Handed
both_of header copy = text_of header copy ∷ []

-- A volume was opened of disks that stand for a content, and it is in order by its header.
pub record IsTakenUp {C : Type 0} (sector : C → ℕ) (sealed opened : C → ℕ → List ℕ → List ℕ)
    (sizes : Sizes) (handed : SideKeys) (lanes : ℕ) (old : Joint) (volume : State (Keys C))
    (content : List (List ℕ)) : Type 0 where
  pub first : List ℕ
  pub old_key : List ℕ
  pub new_key : List ℕ
  pub opens : OpensOn sizes handed old first old_key new_key content
  pub is : IsOpenedOf sector sealed opened sizes handed lanes old volume
  pub order : IsInOrder (reading_of sizes) volume

-- Then its disk holds for certain, in bytes that stand for the content, both copies of the header by
-- which it goes on, and it has what its conversion takes, by which something is saved of the blocks of
-- zones: so runs start from it.
abbrev pub TakenUpConversionsBegin : {C : Type 0} → (C → ℕ) → (C → ℕ → List ℕ → List ℕ)
    → (C → ℕ → List ℕ → List ℕ) → Type 0
TakenUpConversionsBegin {C} sector sealed opened =
    (sizes : Sizes) (handed : SideKeys) (lanes : ℕ) (old : Joint) (volume : State (Keys C))
    (content : List (List ℕ))
    → (taken : IsTakenUp sector sealed opened sizes handed lanes old volume content)
    → IsKnownBehind taken.is.found.header volume.disk
    → (now : List ℕ) × StandsUnder sizes taken.old_key taken.new_key now content
    × (begins : BeginsBehind sector sealed opened sizes taken.is.led.last lanes taken.old_key
    taken.new_key now volume) × IsSaved begins.now.conversion.resilience

-- Once its worker has led the conversion to its end it holds the content for which the disks stood
-- before it was opened, all of it on the new side. Where a zone was open the disk that it leaves tells
-- its tables.
abbrev pub ResumedConversionsKeepContent : {C : Type 0} → (C → ℕ) → (C → ℕ → List ℕ → List ℕ)
    → (C → ℕ → List ℕ → List ℕ) → Type 0
ResumedConversionsKeepContent {C} sector sealed opened =
    (sizes : Sizes) (handed : SideKeys) (lanes : ℕ) (old : Joint) (volume after : State (Keys C))
    (content : List (List ℕ))
    → (taken : IsTakenUp sector sealed opened sizes handed lanes old volume content)
    → (done : HasConverted (reading_of sizes) (volume_seals sealed opened volume)
    (layout_on sizes taken.is.led.last) (header_on taken.is.led.last) volume after Finished)
    → IsKnownBehind taken.is.found.header after.disk
    → HoldsNew (reading_of sizes) (volume_seals sealed opened volume) done.leaves.header after content

-- And wherever its worker stops, each image stands for that content, in which no copy is torn or
-- hidden: each one that is valid is one of those that the disk had when the worker began, or one that
-- was handed to it since.
abbrev pub ResumedConversionsStand : {C : Type 0} → (C → ℕ) → (C → ℕ → List ℕ → List ℕ)
    → (C → ℕ → List ℕ → List ℕ) → Type 0
ResumedConversionsStand {C} sector sealed opened =
    (sizes : Sizes) (handed : SideKeys) (lanes : ℕ) (old : Joint) (volume after : State (Keys C))
    (content : List (List ℕ)) (answers : List WorkAnswer)
    → (taken : IsTakenUp sector sealed opened sizes handed lanes old volume content)
    → (worked : HasWorked (reading_of sizes) (volume_seals sealed opened volume) volume after answers)
    → (earlier later : List (Deed (Keys C))) → worked.deeds ≡ earlier ++ later → (told : Told)
    → (state_after volume earlier).disk.told ≡ Some told
    → StandsAlone (reading_of sizes) (state_after volume earlier) (volume_seals sealed opened volume)
    content (handed_over volume (both_of (header_on taken.is.led.last)) earlier) told.now
