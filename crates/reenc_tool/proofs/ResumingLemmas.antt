-- What came of a conversion that was to be led to its end.
use Rattle.std.proofs.Common.{◌≡◌, ◌∙◌, ℕ, List, Option, Some, None, [], ◌∷◌, ◌++◌, ap, inl, inr}
use Rattle.std.proofs.Common.{append_assoc, codes, refl}
use Rattle.aes_core.specs.declared.cipher.Aes.{Aes}
use Rattle.reenc_worker.specs.declared.ends.WorkerEnd.{WorkerEnd}
use Rattle.reenc_worker.specs.declared.ends.WorkerEnd.TheVariants.{Finished}
use Rattle.resume_disk.specs.Complete.{ConversionsEnd}
use Rattle.resume_disk.specs.Refusals.{IsRefusedBy}
use Rattle.resume_disk.specs.Resuming.{IsFinishedBy, IsHaltedBy}
use Rattle.resume_disk.specs.declared.refusal.Refusal.{Refusal}
use Rattle.resume_disk.specs.declared.refusal.Unfinished.TheVariants.{Halted as halted_run}
use Rattle.resume_disk.specs.declared.refusal.Unfinished.TheVariants.{Refused as refused_run}
use Rattle.sector_cipher.specs.declared.disk.DiskCipher.{DiskCipher}
use Rattle.sector_disk.specs.Devices.{Device as DiskState}
use Rattle.sector_disk.specs.Geometry.{IsDisk}
use Rattle.reenc_tool.proofs.KeptLemmas.{KeptLaws, holds-new, keeps-run, knows-run, stands-at-end}
use Rattle.reenc_tool.proofs.KeptLemmas.{stands-at-stops}
use Rattle.reenc_tool.proofs.RefusedLemmas.{RefusedLaws, keeps-refused, knows-refused}
use Rattle.reenc_tool.specs.declared.ended.Cause.TheVariants.{Fine}
use Rattle.reenc_tool.specs.Outcomes.{Outcome, ended_refused, ended_with}
use Rattle.reenc_tool.specs.Resuming.{ComesToResume, finished_line}
use Rattle.reenc_tool.specs.Status.{cause_of_end, cause_of_resume}
use Rattle.reenc_tool.specs.declared.volume_refusal.VolumeRefusal.TheVariants.{Resuming}

module _ {D L : Type 0} (sector : DiskCipher Aes → ℕ)
    (sealed opened : DiskCipher Aes → ℕ → List ℕ → List ℕ) (device : D → DiskState)
    (pass : List ℕ) (disk : D) (header : Option D) (back : D) (outcome : Outcome D L)
    (laws : KeptLaws sector sealed opened) (complete : ConversionsEnd sector sealed opened device)
    (geometry : IsDisk (device disk).size (device disk).atoms) where
  pub is_finished : (blocks : ℕ) (line : List ℕ) →
      IsFinishedBy sector sealed opened device disk pass header back blocks →
      outcome ≡ ended_with Fine (Some back) header → line ≡ finished_line blocks →
      ComesToResume device pass disk outcome (Some line)
  is_finished blocks line finished is line_is = inl (record {
    sector = sector;
    sealed = sealed;
    opened = opened;
    header = header;
    back = back;
    blocks = blocks;
    finished = finished;
    known = knows-run laws device pass disk header back Finished finished.after finished.run;
    keeps = λ first old_key new_key content stood. keeps-run laws device pass disk header back Finished
        finished.after finished.run first old_key new_key content stood geometry;
    holds = holds-new laws device pass disk header back finished.after finished.run;
    stands = stands-at-end laws device pass disk header back finished.after finished.run geometry;
    stops = stands-at-stops laws device pass disk header back Finished finished.after finished.run
        geometry;
    outcome_is = is;
    report_is = ap Some line_is;
  })

  pub is_halted : (end : WorkerEnd) →
      IsHaltedBy sector sealed opened device disk pass end header back →
      outcome ≡ ended_with (cause_of_end end (device back).faults) (Some back) header →
      ComesToResume device pass disk outcome None
  is_halted end halted is = inr (inl (record {
    sector = sector;
    sealed = sealed;
    opened = opened;
    header = header;
    back = back;
    end = end;
    halted = halted;
    known = knows-run laws device pass disk header back end halted.after halted.run;
    keeps = λ first old_key new_key content stood. keeps-run laws device pass disk header back end
        halted.after halted.run first old_key new_key content stood geometry;
    stops = stands-at-stops laws device pass disk header back end halted.after halted.run geometry;
    complete = λ first content told tried stands converts still. complete disk pass first content
        (halted_run (record { header = header; disk = back; end = end })) told tried stands converts
        halted still;
    outcome_is = is;
    report_is = refl;
  }))

-- it wasn't led on
module _ {D L : Type 0} (sector : DiskCipher Aes → ℕ)
    (sealed opened : DiskCipher Aes → ℕ → List ℕ → List ℕ) (device : D → DiskState)
    (pass : List ℕ) (disk : D) (header : Option D) (back : D) (outcome : Outcome D L)
    (laws : RefusedLaws sector sealed opened) (complete : ConversionsEnd sector sealed opened device)
  where
    pub is_refused : (refusal : Refusal) →
        IsRefusedBy sector sealed opened device disk pass refusal header back →
        outcome ≡ ended_refused (cause_of_resume refusal (device back).faults)
        (Some (Resuming refusal)) header back →
        ComesToResume device pass disk outcome None
    is_refused refusal refused is = inr (inr (inl (record {
      sector = sector;
      sealed = sealed;
      opened = opened;
      refusal = refusal;
      header = header;
      back = back;
      refused = refused;
      known = knows-refused laws device pass disk header back refusal refused;
      keeps = keeps-refused laws device pass disk header back refusal refused;
      complete = λ first content told tried stands converts still. complete disk pass first content
          (refused_run (record { header = header; disk = back; refusal = refusal })) told tried stands
          converts refused still;
      outcome_is = is;
      report_is = refl;
    })))

-- its line, part by part
pub line_is : (empty first second third number : List ℕ) → empty ≡ [] →
    first ≡ empty ++ codes "finished " → second ≡ first ++ number →
    third ≡ second ++ (codes " blocks" ++ 10 ∷ []) →
    third ≡ codes "finished " ++ (number ++ (codes " blocks" ++ 10 ∷ []))
line_is empty first second third number none a b c =
    c ∙ ap (λ text. text ++ (codes " blocks" ++ 10 ∷ []))
    (b ∙ ap (λ text. text ++ number) (a ∙ ap (λ text. text ++ codes "finished ") none))
    ∙ append_assoc (codes "finished ") number (codes " blocks" ++ 10 ∷ [])
