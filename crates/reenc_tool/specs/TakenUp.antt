-- What `serve` did on a volume of which a conversion is under way.
use Rattle.std.specs.Prelude.{ℕ, ◌≡◌, ◌≢◌, ◌+◌, ◌++◌, ◌<◌, Bool, true, false, List, length, Option}
use Rattle.std.specs.Prelude.{Some}
use Rattle.aes_core.specs.declared.cipher.Aes.{Aes}
use Rattle.bays.specs.Stories.{LinkState}
use Rattle.command_line.specs.Commands.{Serving}
use Rattle.volume_laws.specs.BesideConversions.Ends.{IsConvertedBeside}
use Rattle.base_terms.specs.declared.disk_sizes.Sizes.{Sizes}
use Rattle.header_report.specs.Examinations.{sizes_alone}
use Rattle.luks_store.specs.declared.loaded.Stored.{Stored}
use Rattle.image_laws.specs.Opened.Images.{ImageStandsFor}
use Rattle.plain_disk.specs.Plain.{Block, Exchange, Legal, settled_blocks}
use Rattle.resume_disk.specs.Complete.{WantsBefore}
use Rattle.resume_disk.specs.Refusals.{IsRefusedBy}
use Rattle.resume_disk.specs.Resuming.{IsOpenedMidway}
use Rattle.resume_disk.specs.declared.refusal.Refusal.{Refusal}
use Rattle.resume_disk.specs.declared.refusal.Refusal.TheVariants.{Idle}
use Rattle.recovery_laws.specs.Resumed.Openings.{IsKnownBehind}
use Rattle.recovery_laws.specs.Resumed.Starts.{layout_on, volume_seals}
use Rattle.sector_cipher.specs.declared.disk.DiskCipher.{DiskCipher}
use Rattle.sector_disk.specs.Devices.{Device as DiskState}
use Rattle.recovery_laws.specs.Served.Clients.{StoodFor, without_work}
use Rattle.recovery_laws.specs.Served.Serving.{KeepsFor}
use Rattle.volume_laws.specs.BesideConverted.Ends.{HoldsNewest}
use Rattle.volume_laws.specs.BesideLanes.Lanes.{deeds_of}
use Rattle.volume_machine.specs.Answers.{untagged}
use Rattle.volume_machine.specs.Deeds.{AreDeeds, Deed, state_after}
use Rattle.volume_machine.specs.Runs.{Happening, IsRun, last_of}
use Rattle.volume_machine.specs.States.{State}
use Rattle.hotzone.specs.ZoneEvents.Heads.{header_on}
use Rattle.hotzone.specs.ZoneEvents.Readings.{reading_of}
use Rattle.reenc_tool.specs.Asking.{BayView, IsLinked}
use Rattle.reenc_tool.specs.Beside.{HasServedConverting, IsRunOfWhole}
use Rattle.reenc_tool.specs.Encrypted.{HandsBack, RanOver}
use Rattle.reenc_tool.specs.Kept.{KeepsRefused, KnowsRefused, WhereNoneFailed}
use Rattle.reenc_tool.specs.KeptBeside.{KeepsBeside, StandsAgainBehind, StandsAgainBeside}
use Rattle.reenc_tool.specs.KeptBeside.{StandsAtEndBeside}
use Rattle.reenc_tool.specs.Outcomes.{Coming, Outcome, ended_refused, none_came}
use Rattle.reenc_tool.specs.Runs.{VolumeKeys}
use Rattle.reenc_tool.specs.Sessions.{most_events}
use Rattle.reenc_tool.specs.Status.{cause_of_resume}
use Rattle.reenc_tool.specs.declared.ended.Cause.TheVariants.{Fine}
use Rattle.reenc_tool.specs.declared.volume_refusal.VolumeRefusal.TheVariants.{Resuming}

-- ---- a conversion that is led on
-- Its end: every block is new, by a header by which nothing is converted.
abbrev pub IsLedToEnd : Sizes → Stored → State VolumeKeys → State VolumeKeys → Type 0
IsLedToEnd sizes header volume final =
    IsConvertedBeside (reading_of sizes) (layout_on sizes header) (header_on header) volume final

-- Sessions were served over these links on a volume whose conversion was taken up, while that was led
-- on; and the disks are handed back. Where all was fine the conversion is at its end. Where the disk told
-- its bytes, and they stood for a content under the keys of the sides, the bytes that it holds then have
-- the last header, and by it each block is on the new side and holds the newest value that clients gave
-- it, unless the history is full; and where they stood for it under the passphrase, those that it holds
-- then stand under it for these newest values, by a header that converts nothing.
pub record RanBeside {D L : Type 0} (sector : DiskCipher Aes → ℕ)
    (sealed opened : DiskCipher Aes → ℕ → List ℕ → List ℕ) (device : D → DiskState)
    (state : L → LinkState) (disk : D) (pass : List ℕ) (lanes : ℕ) (volume : State VolumeKeys)
    (taken : IsOpenedMidway sector sealed opened (device disk) pass lanes volume) (begun : List L)
    (outcome : Outcome D L) : Type 0 where
  pub left : DiskState
  pub came : Coming L
  pub served : HasServedConverting state (sizes_alone (device disk)) volume
      (volume_seals sealed opened volume) left begun came
  pub back : HandsBack device left came outcome
  pub fine : came.cause ≡ Fine
      → IsLedToEnd (sizes_alone (device disk)) taken.calls.led.last volume served.final
  pub holds : (first old_key new_key : List ℕ) (content : List (List ℕ))
      → StoodFor (sizes_alone (device disk)) taken.keys (device disk) first old_key new_key content
      → IsKnownBehind taken.calls.found.header left → (is : came.cause ≡ Fine)
      → length served.deeds < most_events
      → (now : List Block)
      × Legal volume.map.atom (settled_blocks content) (untagged served.operations) now
      × HoldsNewest (reading_of (sizes_alone (device disk))) (volume_seals sealed opened volume)
      (fine is).header served.final now
  pub stands : came.cause ≡ Fine → length served.deeds < most_events
      → StandsAtEndBeside (device disk) pass taken.calls.found.header volume.map.atom
      (untagged served.operations) left

-- ---- a conversion that lies idle
-- Sessions were served over these links on a volume whose conversion was taken up, while that lay idle;
-- and the disks are handed back. What is said of a run is said of the volume without what its conversion
-- takes; and it is a run of the whole volume too. Where the disk told its bytes, and they stood for a
-- content under the passphrase, then wherever this run stops, events of clients alone, each image stands
-- under it by the header that it has itself, for a content that the operations answered by then allow.
pub record RanIdle {D L : Type 0} (sealed opened : DiskCipher Aes → ℕ → List ℕ → List ℕ)
    (device : D → DiskState) (state : L → LinkState) (disk : D) (pass : List ℕ) (last : Stored)
    (volume : State VolumeKeys) (begun : List L) (outcome : Outcome D L) : Type 0 where
  pub over : RanOver device state (without_work volume) (volume_seals sealed opened volume) begun outcome
  pub whole : IsRunOfWhole (sizes_alone (device disk)) volume over.served
  pub again : (first : List ℕ) (content : List (List ℕ)) → (device disk).values ≡ Some first
      → ImageStandsFor (sizes_alone (device disk)) pass first content
      → (earlier later : List (Deed VolumeKeys)) → deeds_of whole.run ≡ earlier ++ later
      → (exchanges : List Exchange)
      → StandsAgainBehind sealed opened (device disk) pass last volume content earlier exchanges

-- Sessions were served while nothing was converted, or the conversion was led on meanwhile.
abbrev pub RanMidway : {D L : Type 0} {sector : DiskCipher Aes → ℕ}
    {sealed opened : DiskCipher Aes → ℕ → List ℕ → List ℕ} {pass : List ℕ} {lanes : ℕ}
    {volume : State VolumeKeys} (device : D → DiskState) (state : L → LinkState) (disk : D)
    → IsOpenedMidway sector sealed opened (device disk) pass lanes volume → Bool → List L
    → Outcome D L → Type 0
RanMidway {D} {L} {sector} {sealed} {opened} {pass} {lanes} {volume} device state disk taken false
    begun outcome =
    RanIdle sealed opened device state disk pass taken.calls.led.last volume begun outcome
RanMidway {D} {L} {sector} {sealed} {opened} {pass} {lanes} {volume} device state disk taken true
    begun outcome =
    RanBeside sector sealed opened device state disk pass lanes volume taken begun outcome

-- A conversion was taken up on the disk, under the keys that the passphrase has on both sides: the open
-- zone was written again, where there was one. Links were asked for, and while sessions were served over
-- them the conversion was led on, unless the words ask for none of that. Where the disk told its bytes,
-- and they stood for a content under these keys, which is so where they stood for it under the
-- passphrase, each image since the first sync stood for it; and the operations are those of the plain
-- disk that has this content. Wherever a run of clients' events stops, each image stands by itself for a
-- content that is allowed, by the header by which the volume was opened; and so it does, by the header
-- that the conversion has come to, wherever deeds stop, events of clients and steps of its worker: under
-- the passphrase too, where the bytes stood for the content under it.
pub record HasTakenUp {B D L : Type 0} (bay : BayView B D L) (serve : Serving) (pass : List ℕ)
    (disk : D) (between new : B) (outcome : Outcome D L) : Type 0 where
  pub sector : DiskCipher Aes → ℕ
  pub sealed : DiskCipher Aes → ℕ → List ℕ → List ℕ
  pub opened : DiskCipher Aes → ℕ → List ℕ → List ℕ
  pub volume : State VolumeKeys
  pub taken : IsOpenedMidway sector sealed opened (bay.device disk) pass (serve.workers + 1) volume
  pub known : (first : List ℕ) (content : List (List ℕ)) → (bay.device disk).values ≡ Some first
      → ImageStandsFor (sizes_alone (bay.device disk)) pass first content
      → (old_key new_key : List ℕ)
      × StoodFor (sizes_alone (bay.device disk)) taken.keys (bay.device disk) first old_key new_key content
  pub keeps : (first old_key new_key : List ℕ) (content : List (List ℕ))
      (run : List (Happening VolumeKeys))
      → StoodFor (sizes_alone (bay.device disk)) taken.keys (bay.device disk) first old_key new_key content
      → IsRun (without_work volume) run
      → IsKnownBehind taken.calls.found.header (last_of (without_work volume) run).disk
      → KeepsFor sector sealed opened (bay.device disk) pass (serve.workers + 1) volume taken old_key
      new_key content run
  pub keeps_beside : (first old_key new_key : List ℕ) (content : List (List ℕ))
      (deeds : List (Deed VolumeKeys))
      → StoodFor (sizes_alone (bay.device disk)) taken.keys (bay.device disk) first old_key new_key content
      → AreDeeds (reading_of (sizes_alone (bay.device disk))) (volume_seals sealed opened volume) volume
      deeds
      → IsKnownBehind taken.calls.found.header (state_after volume deeds).disk
      → KeepsBeside sector sealed opened (bay.device disk) pass (serve.workers + 1) volume taken old_key
      new_key content deeds
  pub again_for : (first : List ℕ) (content : List (List ℕ)) → (bay.device disk).values ≡ Some first
      → ImageStandsFor (sizes_alone (bay.device disk)) pass first content
      → StandsAgainBeside sealed opened (bay.device disk) pass taken.calls.led.last volume content
  pub linked : IsLinked bay serve between new
      (λ cause links. HandsBack bay.device volume.disk (none_came cause links) outcome)
      (λ begun. RanMidway bay.device bay.state disk taken serve.converts begun outcome)

-- None was, for this refusal, which comes before the links are asked for, and the disk is handed back;
-- of a disk that told its bytes it isn't that nothing is being converted. Nothing was written on it
-- unless one of its calls failed, or memory was wanted once all was written by which it is opened. Where
-- the keys of the sides were found, what the disk stood for under the passphrase it stood for under these,
-- and each image since the first sync stands for it. Where no device call failed only memory was wanted, a
-- number or room for the header that was to follow, or bytes that may be sectors of the volume lie behind
-- the last whole atom of the disk.
pub record HasNoConversion {B D L : Type 0} (device : D → DiskState) (pass : List ℕ) (disk : D)
    (between new : B) (outcome : Outcome D L) : Type 0 where
  pub sector : DiskCipher Aes → ℕ
  pub sealed : DiskCipher Aes → ℕ → List ℕ → List ℕ
  pub opened : DiskCipher Aes → ℕ → List ℕ → List ℕ
  pub stands : new ≡ between
  pub refusal : Refusal
  pub header : Option D
  pub back : D
  pub other : (first : List ℕ) → (device disk).values ≡ Some first → refusal ≢ Idle
  pub refused : IsRefusedBy sector sealed opened device disk pass refusal header back
  pub known : KnowsRefused sector sealed opened device disk pass refusal header back refused
  pub keeps : KeepsRefused sector sealed opened device disk pass refusal header back refused
  pub complete : WhereNoneFailed device disk pass header back (WantsBefore refusal)
  pub outcome_is : outcome
      ≡ ended_refused (cause_of_resume refusal (device back).faults) (Some (Resuming refusal)) header
      back
