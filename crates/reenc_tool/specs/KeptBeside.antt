-- What is kept of a disk's content while the conversion of its volume is led on beside clients.
use Rattle.std.specs.Prelude.{ℕ, ◌≡◌, ◌++◌, List, Some}
use Rattle.base_terms.specs.Blocks.{joined}
use Rattle.base_terms.specs.declared.disk_sizes.Sizes.{Sizes}
use Rattle.recovery_laws.specs.Served.Ends.{StandsForNewest}
use Rattle.sector_disk.specs.JoinedDisks.Joined.{joined_disk}
use Rattle.luks_store.specs.declared.loaded.Stored.{Stored}
use Rattle.header_report.specs.Examinations.{sizes_alone}
use Rattle.image_laws.specs.Opened.Images.{ImageStandsFor}
use Rattle.plain_disk.specs.Plain.{Block, Exchange, Legal, settled_blocks}
use Rattle.reenc_recovery.specs.Images.{StandsUnder}
use Rattle.resume_disk.specs.Resuming.{IsOpenedMidway}
use Rattle.recovery_laws.specs.Resumed.Keeping.{KeepsContent}
use Rattle.recovery_laws.specs.Resumed.Openings.{IsKnownBehind}
use Rattle.recovery_laws.specs.Resumed.Passphrases.{StandsAgainFor}
use Rattle.recovery_laws.specs.Resumed.Resuming.{both_of}
use Rattle.recovery_laws.specs.Resumed.Starts.{layout_on, volume_seals}
use Rattle.sector_disk.specs.Devices.{Device}
use Rattle.sector_disk.specs.Steps.{Told}
use Rattle.recovery_laws.specs.Served.Again.{StandsBeside}
use Rattle.recovery_laws.specs.Served.Passphrases.{IsAllowed}
use Rattle.volume_laws.specs.Converting.{StartsCertain, StartsUnder}
use Rattle.volume_laws.specs.Handing.{handed_over}
use Rattle.volume_laws.specs.Imaging.{AreDated, IsTaken}
use Rattle.volume_machine.specs.Answers.{AreExchanges}
use Rattle.volume_machine.specs.Deeds.{AreDeeds, Deed, answered_over, state_after}
use Rattle.volume_machine.specs.Runs.{no_plain}
use Rattle.volume_machine.specs.Seals.{Seals}
use Rattle.volume_machine.specs.States.{State}
use Rattle.volume_machine.specs.Works.{converting}
use Rattle.volume_machine.specs.declared.keys.Keys.{Keys}
use Rattle.volume_opening.specs.Openings.{alone}
use Rattle.hotzone.specs.ZoneEvents.Heads.{header_on}
use Rattle.hotzone.specs.ZoneEvents.Readings.{reading_of}

-- What a volume holds now stands for this content under these keys, by this header, of which no zone is
-- open; and deeds start from it as from the plain disk that holds the content for certain, in whose places
-- for copies of the header those two stand.
pub record StartsBesideFor {C : Type 0} (sealed opened : C → ℕ → List ℕ → List ℕ) (sizes : Sizes)
    (header : Stored) (old_key new_key : List ℕ) (content : List (List ℕ)) (volume : State (Keys C))
    : Type 0 where
  pub now : List ℕ
  pub stands : StandsUnder sizes old_key new_key now content
  pub starts : StartsUnder (reading_of sizes) (layout_on sizes header) (header_on header) converting
      volume (volume_seals sealed opened volume) (settled_blocks content) now
  pub certain : StartsCertain (layout_on sizes header) (header_on header) volume
      (volume_seals sealed opened volume) (settled_blocks content)
  pub dated : AreDated (reading_of sizes) volume (both_of (header_on header))

-- Since the first sync of its opening each image of each table stands for the content. Deeds start from
-- the volume so; and wherever they stop each image in which no copy of a header is torn or hidden stands
-- by the header that it has itself, under the same keys, for a content that the operations answered by
-- then allow: so the next opening begins with it.
pub record KeepsBeside {C : Type 0} (sector : C → ℕ) (sealed opened : C → ℕ → List ℕ → List ℕ)
    (device : Device) (pass : List ℕ) (lanes : ℕ) (volume : State (Keys C))
    (taken : IsOpenedMidway sector sealed opened device pass lanes volume) (old_key new_key : List ℕ)
    (content : List (List ℕ)) (deeds : List (Deed (Keys C))) : Type 0 where
  pub since : KeepsContent (sizes_alone device) taken.calls.found.header taken.calls.led.last old_key
      new_key content (joined_disk (alone taken.read)) taken.calls.led.mended volume.disk
  pub starts : StartsBesideFor sealed opened (sizes_alone device) taken.calls.led.last old_key new_key
      content volume
  pub again : (earlier later : List (Deed (Keys C))) → deeds ≡ earlier ++ later
      → (exchanges : List Exchange)
      → AreExchanges (answered_over (volume_seals sealed opened volume) volume no_plain earlier)
      exchanges
      → StandsBeside (sizes_alone device) taken.calls.led.last old_key new_key volume
      (volume_seals sealed opened volume) content earlier exchanges

-- ---- under the passphrase
-- An image stands for it, by the header that it has itself: for a content in which each block has a value
-- that the operations answered by these deeds allow, of the plain disk that held this one for certain.
pub record StandsAllowedFor {K : Type 0} (sizes : Sizes) (pass : List ℕ) (volume : State K)
    (seals : Seals) (content : List (List ℕ)) (deeds : List (Deed K)) (exchanges : List Exchange)
    (image : List ℕ) : Type 0 where
  pub left : List Block
  pub legal : Legal volume.map.atom (settled_blocks content) exchanges left
  pub held : List (List ℕ)
  pub stands : StandsAgainFor sizes pass image held
  pub allowed : IsAllowed volume seals deeds left held

-- Behind these deeds, which answered these operations, so does each image in which no copy of a header
-- is torn or hidden.
abbrev pub StandsAgainBehind : {C : Type 0} → (C → ℕ → List ℕ → List ℕ) → (C → ℕ → List ℕ → List ℕ)
    → Device → List ℕ → Stored → State (Keys C) → List (List ℕ) → List (Deed (Keys C))
    → List Exchange → Type 0
StandsAgainBehind {C} sealed opened device pass header volume content deeds exchanges =
    AreExchanges (answered_over (volume_seals sealed opened volume) volume no_plain deeds) exchanges
    → (told : Told) → (state_after volume deeds).disk.told ≡ Some told → (image : List (List ℕ))
    → IsTaken (reading_of (sizes_alone device)) (state_after volume deeds)
    (handed_over volume (both_of (header_on header)) deeds) told.now image
    → StandsAllowedFor (sizes_alone device) pass volume (volume_seals sealed opened volume) content deeds
    exchanges (joined image)

-- So it is wherever deeds stop.
abbrev pub StandsAgainBeside : {C : Type 0} → (C → ℕ → List ℕ → List ℕ) → (C → ℕ → List ℕ → List ℕ)
    → Device → List ℕ → Stored → State (Keys C) → List (List ℕ) → Type 0
StandsAgainBeside {C} sealed opened device pass header volume content =
    (deeds : List (Deed (Keys C))) (exchanges : List Exchange)
    → AreDeeds (reading_of (sizes_alone device)) (volume_seals sealed opened volume) volume deeds
    → StandsAgainBehind sealed opened device pass header volume content deeds exchanges

-- ---- under the passphrase, at the end
-- Where the disk told its bytes, and they stood for a content, those that are left stand for the newest
-- values that clients gave, by a header that converts nothing; and the operations are legal on the plain
-- disk that held that content for certain. Where a zone was open by the header that was found, the disk that
-- is left tells its tables.
abbrev pub StandsAtEndBeside : Device → List ℕ → Stored → ℕ → List Exchange → Device → Type 0
StandsAtEndBeside device pass found atom exchanges left =
    (first : List ℕ) (content : List (List ℕ)) → device.values ≡ Some first
    → ImageStandsFor (sizes_alone device) pass first content → IsKnownBehind found left
    → StandsForNewest (sizes_alone device) pass atom content exchanges left
