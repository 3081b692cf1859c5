-- What `resume` did.
use Rattle.std.specs.Prelude.{ℕ, ◌≡◌, ◌⊎◌, List, [], ◌∷◌, ◌++◌, codes, Option, Some, None}
use Rattle.std.specs.Fmt.{decimal}
use Rattle.aes_core.specs.declared.cipher.Aes.{Aes}
use Rattle.command_line.specs.Resumes.{Resuming as Words}
use Rattle.header_report.specs.Examinations.{sizes_alone}
use Rattle.sector_disk.specs.JoinedDisks.Joined.{joined_disk}
use Rattle.resume_disk.specs.Complete.{WantsAtWork, WantsBefore}
use Rattle.resume_disk.specs.Refusals.{IsRefusedBy}
use Rattle.resume_disk.specs.Resuming.{IsFinishedBy, IsHaltedBy}
use Rattle.resume_disk.specs.declared.refusal.Refusal.{Refusal}
use Rattle.reenc_worker.specs.declared.ends.WorkerEnd.{WorkerEnd}
use Rattle.reenc_worker.specs.declared.ends.WorkerEnd.TheVariants.{Finished}
use Rattle.recovery_laws.specs.Resumed.Openings.{IsKnownBehind}
use Rattle.recovery_laws.specs.Resumed.Runs.{HoldsNew}
use Rattle.recovery_laws.specs.Resumed.Starts.{volume_seals}
use Rattle.sector_cipher.specs.declared.disk.DiskCipher.{DiskCipher}
use Rattle.sector_disk.specs.Devices.{Device as DiskState}
use Rattle.recovery_laws.specs.Served.Clients.{StoodFor}
use Rattle.hotzone.specs.ZoneEvents.Readings.{reading_of}
use Rattle.reenc_tool.specs.declared.ended.Cause.TheVariants.{Fine, Memory}
use Rattle.reenc_tool.specs.declared.volume_refusal.VolumeRefusal.TheVariants.{Resuming}
use Rattle.reenc_tool.specs.Asking.{BayView, Gives, UnderKey, disk_named}
use Rattle.reenc_tool.specs.Kept.{KeepsRefused, KeepsRun, KnowsKeys, KnowsRefused, StandsAtEnd}
use Rattle.reenc_tool.specs.Kept.{StandsAtStops, WhereNoneFailed}
use Rattle.reenc_tool.specs.Outcomes.{EndsSilently, Outcome, ended_refused, ended_with}
use Rattle.reenc_tool.specs.Status.{cause_of_end, cause_of_resume}

-- the line of a conversion that was led to its end, by the blocks of its volume
abbrev pub finished_line : ℕ → List ℕ
finished_line blocks = codes "finished " ++ (decimal blocks ++ (codes " blocks" ++ 10 ∷ []))

-- ---- the volume
-- The conversion of the disk's volume was led to its end under the passphrase, and the disk is
-- handed back; so many blocks it has. Where the disk told its bytes, and they stood for a content, it is
-- kept wherever this might have stopped; and each block is on the new side, and holds it, where no zone
-- was open at first, or what is handed back tells its tables.
pub record IsFinishedOn {D L : Type 0} (device : D → DiskState) (pass : List ℕ) (disk : D)
    (outcome : Outcome D L) (report : Option (List ℕ)) : Type 0 where
  pub sector : DiskCipher Aes → ℕ
  pub sealed : DiskCipher Aes → ℕ → List ℕ → List ℕ
  pub opened : DiskCipher Aes → ℕ → List ℕ → List ℕ
  pub header : Option D
  pub back : D
  pub blocks : ℕ
  pub finished : IsFinishedBy sector sealed opened device disk pass header back blocks
  pub known : KnowsKeys (device disk) pass finished.run.resumed.keys
  pub keeps : (first old_key new_key : List ℕ) (content : List (List ℕ))
      → StoodFor (sizes_alone (device disk)) finished.run.resumed.keys (device disk) first old_key
      new_key content
      → KeepsRun sector sealed opened device disk pass Finished finished.after header back
      finished.run old_key new_key content
  pub holds : (first old_key new_key : List ℕ) (content : List (List ℕ))
      → StoodFor (sizes_alone (device disk)) finished.run.resumed.keys (device disk) first old_key
      new_key content
      → IsKnownBehind finished.run.resumed.calls.found.header (joined_disk finished.run.joint)
      → HoldsNew (reading_of (sizes_alone (device disk)))
      (volume_seals sealed opened finished.run.volume) finished.run.led.ran.leaves.header
      finished.after content
  pub stands : StandsAtEnd finished.run
  pub stops : StandsAtStops finished.run
  pub outcome_is : outcome ≡ ended_with Fine (Some back) header
  pub report_is : report ≡ Some (finished_line blocks)

-- The volume was opened, and its conversion's worker ended otherwise, which is the cause. The disk is
-- handed back. A content for which it stood is kept as well; and where no device call failed only memory was
-- wanted, a number or room for a header that was to follow, or digests that tell atoms from each other.
pub record IsHaltedOn {D L : Type 0} (device : D → DiskState) (pass : List ℕ) (disk : D)
    (outcome : Outcome D L) (report : Option (List ℕ)) : Type 0 where
  pub sector : DiskCipher Aes → ℕ
  pub sealed : DiskCipher Aes → ℕ → List ℕ → List ℕ
  pub opened : DiskCipher Aes → ℕ → List ℕ → List ℕ
  pub header : Option D
  pub back : D
  pub end : WorkerEnd
  pub halted : IsHaltedBy sector sealed opened device disk pass end header back
  pub known : KnowsKeys (device disk) pass halted.run.resumed.keys
  pub keeps : (first old_key new_key : List ℕ) (content : List (List ℕ))
      → StoodFor (sizes_alone (device disk)) halted.run.resumed.keys (device disk) first old_key
      new_key content
      → KeepsRun sector sealed opened device disk pass end halted.after header back halted.run
      old_key new_key content
  pub stops : StandsAtStops halted.run
  pub complete : WhereNoneFailed device disk pass header back (WantsAtWork end)
  pub outcome_is : outcome
      ≡ ended_with (cause_of_end end (device back).faults) (Some back) header
  pub report_is : report ≡ None

-- No such volume was opened, for this refusal, and the disk is handed back. Nothing was written on it
-- unless one of its calls failed, or memory was wanted once all was written by which it is opened; and a
-- content for which it stood under the keys that were found is kept.
pub record IsRefusedOn {D L : Type 0} (device : D → DiskState) (pass : List ℕ) (disk : D)
    (outcome : Outcome D L) (report : Option (List ℕ)) : Type 0 where
  pub sector : DiskCipher Aes → ℕ
  pub sealed : DiskCipher Aes → ℕ → List ℕ → List ℕ
  pub opened : DiskCipher Aes → ℕ → List ℕ → List ℕ
  pub refusal : Refusal
  pub header : Option D
  pub back : D
  pub refused : IsRefusedBy sector sealed opened device disk pass refusal header back
  pub known : KnowsRefused sector sealed opened device disk pass refusal header back refused
  pub keeps : KeepsRefused sector sealed opened device disk pass refusal header back refused
  pub complete : WhereNoneFailed device disk pass header back (WantsBefore refusal)
  pub outcome_is : outcome
      ≡ ended_refused (cause_of_resume refusal (device back).faults) (Some (Resuming refusal)) header
      back
  pub report_is : report ≡ None

-- what came of a disk whose volume's conversion was to be led to its end; where memory was wanted
-- for what is to be said, the disk is as it was
abbrev pub ComesToResume : {D L : Type 0} → (D → DiskState) → List ℕ → D → Outcome D L →
    Option (List ℕ) → Type 0
ComesToResume device pass disk outcome report =
    IsFinishedOn device pass disk outcome report
    ⊎ IsHaltedOn device pass disk outcome report
    ⊎ IsRefusedOn device pass disk outcome report
    ⊎ EndsSilently (Some disk) None outcome report Memory

-- ---- the bay
-- What `resume` did: it asked for the disk and, where that was given, for the key file.
abbrev pub HasResumed : {B D L : Type 0} → BayView B D L → Words → B → B → Outcome D L
    → Option (List ℕ) → Type 0
HasResumed bay words old new outcome report =
    Gives bay (disk_named bay words.disk words.atom) old new
    (λ disk between. UnderKey bay words.key_file disk None between new outcome report
    (λ pass. ComesToResume bay.device pass disk outcome report))
    (EndsSilently None None outcome report)
