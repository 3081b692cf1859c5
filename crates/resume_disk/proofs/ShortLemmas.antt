-- A disk that told its bytes, of which header and keys are known, isn't opened only where memory was
-- wanted or a device call failed, or where the conversion can't be led on by its header.
use Rattle.std.proofs.Common.{◌≡◌, ◌∙◌, inl, inr, ℕ, true, false, List, [], ◌∷◌, ◌++◌, sym}
use Rattle.std.proofs.Common.{subst, append_assoc, Option, Some, Result, Ok}
use Rattle.resume_disk.specs.OpenedMidway.Causes.{IsCauseIn}
use Rattle.resume_disk.specs.declared.midway.fault.ConversionCause.{ConversionCause}
use Rattle.resume_disk.specs.declared.midway.fault.ConversionCause.TheVariants as causes
use Rattle.base_terms.specs.declared.disk_sizes.Sizes.{Sizes}
use Rattle.header_report.specs.Examinations.{sizes_alone}
use Rattle.luks_meta.specs.declared.meta.Parts.{Parts}
use Rattle.luks_rules.specs.Segments.{in_progress}
use Rattle.luks_rules.specs.Shapes.{progress_of}
use Rattle.luks_rules.specs.declared.shape.Progress.{Progress}
use Rattle.luks_store.specs.Loads.{stored_in}
use Rattle.luks_store.specs.Used.{Refusal}
use Rattle.luks_store.specs.declared.loaded.Stored.{Stored}
use Rattle.reenc_recovery.specs.Keys.{Differs}
use Rattle.reenc_recovery.specs.declared.fault.OpenCause.TheVariants as openings
use Rattle.reenc_recovery.specs.declared.keys.SideKeys.{SideKeys}
use Rattle.resume_disk.proofs.KeyLemmas.{its_sides, new_under, old_under, one_busy}
use Rattle.resume_disk.proofs.RightLemmas.{differs_not}
use Rattle.resume_disk.specs.Keys.{AreKeysFound}
use Rattle.resume_disk.specs.Refusals.{IsShort}
use Rattle.resume_disk.specs.Resuming.{AreUnderKeys}
use Rattle.sector_disk.specs.Devices.{Device}

-- ---- keys that were found are those of their digests
module _ (m : Parts) (sizes : Sizes) (pass : List ℕ) (held : Option (List ℕ)) (keys : SideKeys)
    (found : AreKeysFound m sizes pass held keys) where
  same_now : (now : Progress) → progress_of m sizes ≡ Some now → now ≡ found.now
  same_now now known = (let both : Some now ≡ Some found.now = sym known ∙ found.known in cc)

  old_not : (computed stored : List ℕ) → Differs m found.now.old keys.old computed stored → ⊥
  old_not computed stored differs =
      let (live, is) = its_sides m sizes found.sound found.now found.known in
      differs_not m found.now.old live (found.now.new ∷ []) is.segments
      (old_under m sizes found.sound found.now found.known) keys.old found.old_is.right computed
      stored differs

  new_not : (computed stored : List ℕ) → Differs m found.now.new keys.new computed stored → ⊥
  new_not computed stored differs =
      let (live, is) = its_sides m sizes found.sound found.now found.known in
      differs_not m found.now.new (live ++ found.now.old ∷ []) []
      (is.segments ∙ sym (append_assoc live (found.now.old ∷ []) (found.now.new ∷ [])))
      (new_under m sizes found.sound found.now found.known) keys.new found.new_is.right computed
      stored differs

-- ---- under a header and keys
module _ (sizes : Sizes) (pass : List ℕ) (values : Option (List ℕ)) (keys : SideKeys)
    (stored : Stored) (held : Result Stored Refusal) (is : held ≡ Ok stored)
    (found : AreKeysFound stored.valid.meta sizes pass values keys) where
  one_stored : (other : Stored) → held ≡ Ok other → other ≡ stored
  one_stored other also = (let both : Ok other ≡ Ok stored = sym also ∙ is in cc)

  short_by : (cause : ConversionCause) → IsCauseIn sizes keys held cause → IsShort cause
  short_by (causes.Opening openings.Memory) cause_is = tt
  short_by (causes.Opening openings.Device) cause_is = tt
  short_by (causes.Opening (openings.NoHeader primary secondary)) none =
      absurd (let no = sym is ∙ none in cc)
  short_by (causes.Opening (openings.CopiesDiffer seqid place)) (a, b, none, first) =
      absurd (let no = sym is ∙ none in cc)
  short_by (causes.Opening (openings.Json fault)) none = absurd (let no = sym is ∙ none in cc)
  short_by (causes.Opening (openings.Rule fault)) none = absurd (let no = sym is ∙ none in cc)
  short_by (causes.Opening openings.InProgress) never = absurd never
  short_by (causes.Opening (openings.KeyDiffers computed digest))
      (other, also, (now, known, guarded, inl differs)) =
      absurd (old_not stored.valid.meta sizes pass values keys found computed digest
      (subst (λ (p : Progress). Differs stored.valid.meta p.old keys.old computed digest)
      (same_now stored.valid.meta sizes pass values keys found now
      (subst (λ (s : Stored). progress_of s.valid.meta sizes ≡ Some now) (one_stored other also)
      known))
      (subst (λ (s : Stored). Differs s.valid.meta now.old keys.old computed digest)
      (one_stored other also) differs)))
  short_by (causes.Opening (openings.KeyDiffers computed digest))
      (other, also, (now, known, guarded, inr (old, differs))) =
      absurd (new_not stored.valid.meta sizes pass values keys found computed digest
      (subst (λ (p : Progress). Differs stored.valid.meta p.new keys.new computed digest)
      (same_now stored.valid.meta sizes pass values keys found now
      (subst (λ (s : Stored). progress_of s.valid.meta sizes ≡ Some now) (one_stored other also)
      known))
      (subst (λ (s : Stored). Differs s.valid.meta now.new keys.new computed digest)
      (one_stored other also) differs)))
  short_by causes.Idle (other, also, idle) =
      absurd (let busy = one_busy stored.valid.meta sizes found.sound found.now found.known in
      let rests : in_progress stored.valid.meta.config ≡ false =
      subst (λ (s : Stored). in_progress s.valid.meta.config ≡ false) (one_stored other also) idle in
      let no : false ≡ true = sym rests ∙ busy in cc)
  short_by causes.NotBuilt cause_is = tt
  short_by (causes.SeqEnd left wanted) cause_is = tt
  short_by (causes.JsonFull length limit) cause_is = tt

pub short_under : (device : Device) (pass : List ℕ) (keys : SideKeys) (read : Device)
    → (under : AreUnderKeys device pass keys read) → (bytes : List ℕ)
    → device.values ≡ Some bytes → (cause : ConversionCause)
    → IsCauseIn (sizes_alone device) keys (stored_in (sizes_alone device) bytes) cause
    → IsShort cause
short_under device pass keys read under bytes told cause =
    short_by (sizes_alone device) pass device.values keys under.stored
    (stored_in (sizes_alone device) bytes) (under.found.held bytes told)
    (subst (λ (s : Sizes). AreKeysFound under.stored.valid.meta s pass device.values keys)
    under.found.sizes under.are) cause
