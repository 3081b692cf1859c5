-- What is promised of a volume whose conversion was taken up, and which clients use from there.
use Rattle.std.specs.Prelude.{ℕ, ◌≡◌, List, Some, map}
use Rattle.header_report.specs.Examinations.{sizes_alone}
use Rattle.sector_disk.specs.JoinedDisks.Joined.{joined_disk}
use Rattle.image_laws.specs.Opened.Images.{ImageStandsFor}
use Rattle.reenc_recovery.specs.declared.keys.SideKeys.{SideKeys}
use Rattle.resume_disk.specs.Resuming.{AreUnderKeys, BeginsWith, IsOpenedMidway}
use Rattle.recovery_laws.specs.Resumed.Keeping.{KeepsContent}
use Rattle.recovery_laws.specs.Resumed.Openings.{IsKnownBehind}
use Rattle.recovery_laws.specs.Resumed.Passphrases.{AreGiven}
use Rattle.recovery_laws.specs.Resumed.Starts.{volume_seals}
use Rattle.sector_disk.specs.Devices.{Device}
use Rattle.recovery_laws.specs.Served.Clients.{StartsFor, StoodFor, happening_without_work, without_work}
use Rattle.recovery_laws.specs.Served.Stops.{StandsAlong}
use Rattle.volume_laws.specs.Executing.{Executes}
use Rattle.volume_machine.specs.Answers.{Tagged}
use Rattle.volume_machine.specs.Beginnings.{IsFresh}
use Rattle.volume_machine.specs.Runs.{Happening, IsRun, last_of}
use Rattle.volume_machine.specs.Seals.{Seals}
use Rattle.volume_machine.specs.Sound.{IsSound}
use Rattle.volume_machine.specs.States.{State}
use Rattle.volume_machine.specs.declared.keys.Keys.{Keys}
use Rattle.volume_opening.specs.Openings.{alone}

-- ---- clients' events
-- what they executed of a volume they executed of it without what its conversion takes
abbrev pub ClientsLeaveWork : Type 0 → Type 0
ClientsLeaveWork C =
    (seals : Seals) (old new : State (Keys C)) (run : List (Happening (Keys C)))
    (history : List Tagged) → Executes seals old new run history
    → Executes seals (without_work old) (without_work new) (map happening_without_work run) history

-- ---- the keys
-- The content for which the disk stood under the passphrase is one for which it stood under the keys
-- that were found for the sides of its conversion.
abbrev pub PassphrasesGiveKeys : {C : Type 0} → (C → ℕ) → (C → ℕ → List ℕ → List ℕ)
    → (C → ℕ → List ℕ → List ℕ) → Type 0
PassphrasesGiveKeys {C} sector sealed opened =
    (device : Device) (pass first : List ℕ) (lanes : ℕ) (volume : State (Keys C))
    (content : List (List ℕ))
    → (taken : IsOpenedMidway sector sealed opened device pass lanes volume)
    → device.values ≡ Some first → ImageStandsFor (sizes_alone device) pass first content
    → (old_key new_key : List ℕ)
    × StoodFor (sizes_alone device) taken.keys device first old_key new_key content

-- So it is of keys that were found under the header of a disk, whatever became of the opening behind
-- them; and they are those that the keyslots in its bytes give to the passphrase.
abbrev pub FoundKeysStand : Type 0
FoundKeysStand =
    (device : Device) (pass first : List ℕ) (keys : SideKeys) (read : Device)
    → AreUnderKeys device pass keys read → BeginsWith device read → device.values ≡ Some first
    → AreGiven (sizes_alone device) pass keys first
    × ((content : List (List ℕ)) → ImageStandsFor (sizes_alone device) pass first content
    → (old_key new_key : List ℕ)
    × StoodFor (sizes_alone device) keys device first old_key new_key content)

-- ---- the volume
-- It has no operation under way, and no zone: without what its conversion takes it is one that has just
-- begun.
abbrev pub TakenVolumesLieIdle : {C : Type 0} → (C → ℕ) → (C → ℕ → List ℕ → List ℕ)
    → (C → ℕ → List ℕ → List ℕ) → Type 0
TakenVolumesLieIdle {C} sector sealed opened =
    (device : Device) (pass : List ℕ) (lanes : ℕ) (volume : State (Keys C))
    → IsOpenedMidway sector sealed opened device pass lanes volume
    → IsFresh (without_work volume) × IsSound (without_work volume)

-- Since the first sync of its opening each image of each table stands for the content. A run of clients'
-- events starts from the volume as from the plain disk that holds the content for certain; and wherever
-- it stops, each image stands by itself for a content that is allowed, by the header by which the
-- volume was opened.
pub record KeepsFor {C : Type 0} (sector : C → ℕ) (sealed opened : C → ℕ → List ℕ → List ℕ)
    (device : Device) (pass : List ℕ) (lanes : ℕ) (volume : State (Keys C))
    (taken : IsOpenedMidway sector sealed opened device pass lanes volume) (old_key new_key : List ℕ)
    (content : List (List ℕ)) (run : List (Happening (Keys C))) : Type 0 where
  pub since : KeepsContent (sizes_alone device) taken.calls.found.header taken.calls.led.last old_key
      new_key content (joined_disk (alone taken.read)) taken.calls.led.mended volume.disk
  pub starts : StartsFor sealed opened (sizes_alone device) old_key new_key content volume
  pub along : StandsAlong (sizes_alone device) taken.calls.led.last old_key new_key
      (without_work volume) (volume_seals sealed opened volume) run

-- So it is with the content for which the disk stood when it was handed in, where no zone was open then,
-- or the disk that the run leaves tells its tables.
abbrev pub TakenVolumesKeepContent : {C : Type 0} → (C → ℕ) → (C → ℕ → List ℕ → List ℕ)
    → (C → ℕ → List ℕ → List ℕ) → Type 0
TakenVolumesKeepContent {C} sector sealed opened =
    (device : Device) (pass : List ℕ) (lanes : ℕ) (volume : State (Keys C))
    (taken : IsOpenedMidway sector sealed opened device pass lanes volume)
    (first old_key new_key : List ℕ) (content : List (List ℕ)) (run : List (Happening (Keys C)))
    → StoodFor (sizes_alone device) taken.keys device first old_key new_key content
    → IsRun (without_work volume) run
    → IsKnownBehind taken.calls.found.header (last_of (without_work volume) run).disk
    → KeepsFor sector sealed opened device pass lanes volume taken old_key new_key content run
