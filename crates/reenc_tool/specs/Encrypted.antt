-- What `serve` did on an encrypted volume.
use Rattle.std.specs.Prelude.{ℕ, ◌≡◌, ◌≢◌, ◌+◌, ◌<◌, List, length, Option, Some}
use Rattle.aes_core.specs.declared.cipher.Aes.{Aes}
use Rattle.bays.specs.Stories.{LinkState}
use Rattle.command_line.specs.Commands.{Serving}
use Rattle.header_report.specs.Examinations.{sizes_alone}
use Rattle.sector_disk.specs.JoinedDisks.Joined.{Joint, joined_disk}
use Rattle.sector_cipher.specs.declared.disk.DiskCipher.{DiskCipher}
use Rattle.sector_disk.specs.Devices.{Device as DiskState}
use Rattle.recovery_laws.specs.Served.Ends.{StandsForNewest}
use Rattle.volume_machine.specs.Answers.{untagged}
use Rattle.volume_machine.specs.Runs.{Happening, IsRun}
use Rattle.volume_machine.specs.Seals.{Seals, seals_of}
use Rattle.volume_machine.specs.States.{State}
use Rattle.volume_opening.specs.Openings.{IsOpenedBy}
use Rattle.volume_opening.specs.Refusals.{AreOf, IsUnopenedBy, TellsAlone}
use Rattle.volume_opening.specs.Stops.{StandsAlong}
use Rattle.volume_opening.specs.declared.refusal.Refusal.{Refusal}
use Rattle.volume_opening.specs.declared.refusal.Refusal.TheVariants.{InProgress}
use Rattle.reenc_tool.specs.declared.ended.Cause.TheVariants.{Fine}
use Rattle.reenc_tool.specs.declared.volume_refusal.VolumeRefusal.TheVariants.{Opening}
use Rattle.reenc_tool.specs.Asking.{BayView, IsLinked}
use Rattle.reenc_tool.specs.Outcomes.{Coming, Outcome, ended_by, ended_refused, none_came}
use Rattle.reenc_tool.specs.Runs.{HasServed, VolumeKeys}
use Rattle.reenc_tool.specs.Sessions.{most_events}
use Rattle.reenc_tool.specs.Status.{cause_of_refusal}

-- ---- what is handed back
-- The disks of a volume are handed back, which as one show this, with what came of sessions; one
-- alone tells the tables that were shown.
pub record HandsBack {D L : Type 0} (device : D → DiskState) (shown : DiskState) (came : Coming L)
    (outcome : Outcome D L) : Type 0 where
  pub disk : D
  pub header : Option D
  pub is : outcome ≡ ended_by came (Some disk) header
  pub joint : Joint
  pub shows : joined_disk joint ≡ shown
  pub are : AreOf device joint header disk
  pub tables : TellsAlone device shown header disk

-- ---- sessions
-- Sessions were served on a volume that was opened, over these links, and its disks are handed
-- back.
pub record RanOver {D L : Type 0} (device : D → DiskState) (state : L → LinkState)
    (start : State VolumeKeys) (seals : Seals) (begun : List L) (outcome : Outcome D L) : Type 0
  where
    pub left : DiskState
    pub came : Coming L
    pub served : HasServed state start seals left begun came
    pub back : HandsBack device left came outcome

-- A volume was opened on the disk by the passphrase, and links were asked for. Its blocks are
-- sealed by ciphers under the key that the passphrase has there. Where the disk told its bytes,
-- then wherever a run of events stops, as the one of the sessions, each image stands by itself,
-- under the passphrase, for a content that is allowed, and nothing is being converted by its header.
-- And where all was fine behind sessions, and the history isn't full, the bytes that are left stand,
-- under the passphrase and by a header that converts nothing, for the newest values that clients
-- gave: those that the operations of its sessions leave on the plain disk that held for certain what
-- the disk stood for.
pub record HasOpenedVolume {B D L : Type 0} (bay : BayView B D L) (serve : Serving) (pass : List ℕ)
    (disk : D) (between new : B) (outcome : Outcome D L) : Type 0 where
  pub sector : DiskCipher Aes → ℕ
  pub sealed : DiskCipher Aes → ℕ → List ℕ → List ℕ
  pub opened : DiskCipher Aes → ℕ → List ℕ → List ℕ
  pub start : State VolumeKeys
  pub volume : IsOpenedBy sector sealed opened (bay.device disk) pass (serve.workers + 1) start
  pub stands : (first : List ℕ) → (bay.device disk).values ≡ Some first
      → (run : List (Happening VolumeKeys)) → IsRun start run
      → StandsAlong (sizes_alone (bay.device disk)) pass start
      (seals_of sealed opened start.map.atom start.keys) run
  pub at_rest : (first : List ℕ) → (told : (bay.device disk).values ≡ Some first)
      → (begun : List L)
      → (ran : RanOver bay.device bay.state start
      (seals_of sealed opened start.map.atom start.keys) begun outcome) → ran.came.cause ≡ Fine
      → length ran.served.run < most_events
      → StandsForNewest (sizes_alone (bay.device disk)) pass start.map.atom
      (volume.starts first told).content (untagged ran.served.operations) ran.left
  pub linked : IsLinked bay serve between new
      (λ cause links. HandsBack bay.device start.disk (none_came cause links) outcome)
      (λ begun. RanOver bay.device bay.state start
      (seals_of sealed opened start.map.atom start.keys) begun outcome)

-- ---- no volume
-- No volume was opened, which comes before the links are asked for; and not for the reason that a
-- conversion is under way. The disk is handed back, and so many of its calls failed.
pub record HasNoVolume {B D L : Type 0} (device : D → DiskState) (pass : List ℕ) (disk : D)
    (between new : B) (outcome : Outcome D L) : Type 0 where
  pub stands : new ≡ between
  pub refusal : Refusal
  pub header : Option D
  pub back : D
  pub other : refusal ≢ InProgress
  pub refused : IsUnopenedBy device disk pass refusal header back
  pub outcome_is : outcome
      ≡ ended_refused (cause_of_refusal refusal (device back).faults) (Some (Opening refusal)) header
      back
