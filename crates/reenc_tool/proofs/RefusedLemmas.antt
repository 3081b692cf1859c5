-- A conversion that isn't led on keeps what its disk stood for.
use Rattle.std.proofs.Common.{◌≡◌, ◌≢◌, ℕ, List, Option, Some, refl}
use Rattle.aes_core.specs.declared.cipher.Aes.{Aes}
use Rattle.resume_disk.specs.declared.midway.fault.ConversionCause.{ConversionCause}
use Rattle.header_report.specs.Examinations.{sizes_alone}
use Rattle.sector_disk.specs.JoinedDisks.Joined.{Joint}
use Rattle.reenc_recovery.specs.declared.keys.SideKeys.{SideKeys}
use Rattle.resume_disk.specs.Complete.{ConversionsEnd}
use Rattle.resume_disk.specs.Refusals.{IsRefusedBy, IsUnopenedUnder}
use Rattle.resume_disk.specs.Resuming.{AreUnderKeys, BeginsWith}
use Rattle.resume_disk.specs.declared.refusal.Refusal.{Refusal}
use Rattle.resume_disk.specs.declared.refusal.Refusal.TheVariants as refusals
use Rattle.resume_disk.specs.declared.refusal.Unfinished.TheVariants.{Refused as refused_run}
use Rattle.recovery_laws.specs.Resumed.Openings.{UnopenedKeepContent}
use Rattle.sector_cipher.specs.declared.disk.DiskCipher.{DiskCipher}
use Rattle.sector_disk.specs.Devices.{Device as DiskState}
use Rattle.recovery_laws.specs.Served.Serving.{FoundKeysStand}
use Rattle.volume_opening.specs.Openings.{alone}
use Rattle.reenc_tool.specs.Kept.{KeepsRefused, KeepsVain, KnowsKeys, KnowsRefused}
use Rattle.reenc_tool.specs.Outcomes.{Outcome, ended_refused}
use Rattle.reenc_tool.specs.Status.{cause_of_resume}
use Rattle.reenc_tool.specs.TakenUp.{HasNoConversion}
use Rattle.reenc_tool.specs.declared.volume_refusal.VolumeRefusal.TheVariants.{Resuming}

-- the laws that this stands on
pub record RefusedLaws {C : Type 0} (sector : C → ℕ) (sealed opened : C → ℕ → List ℕ → List ℕ)
    : Type 0 where
  pub given : FoundKeysStand
  pub in_vain : UnopenedKeepContent sector sealed opened

module _ {C D : Type 0} {sector : C → ℕ} {sealed opened : C → ℕ → List ℕ → List ℕ}
    (laws : RefusedLaws sector sealed opened) (device : D → DiskState) (pass : List ℕ) (disk : D)
    (header : Option D) (back : D) where
  -- ---- keys that were found
  module _ (keys : SideKeys) (read : DiskState) (under : AreUnderKeys (device disk) pass keys read)
      (begins : BeginsWith (device disk) read) where
    pub knows-found : KnowsKeys (device disk) pass keys
    knows-found first content told stands =
        (laws.given (device disk) pass first keys read under begins told).1 content stands

  pub knows-refused : (refusal : Refusal)
      (refused : IsRefusedBy sector sealed opened device disk pass refusal header back)
      → KnowsRefused sector sealed opened device disk pass refusal header back refused
  knows-refused (refusals.Header fault) refused = tt
  knows-refused refusals.Idle refused = tt
  knows-refused (refusals.Passphrase count) refused = tt
  knows-refused (refusals.Slots side fault) refused = tt
  knows-refused (refusals.Tail bytes) refused = tt
  knows-refused (refusals.Unopened cause) refused =
      knows-found refused.2.keys refused.2.read refused.2.under refused.2.begins

  -- ---- where it wasn't led on
  keeps-vain : (cause : ConversionCause) (joint : Joint)
      (under : IsUnopenedUnder sector sealed opened (device disk) pass cause joint) → KeepsVain under
  keeps-vain cause joint under first old_key new_key content stored stood held =
      laws.in_vain (sizes_alone (device disk)) under.unopened.0 under.keys (alone under.read) joint cause
      first old_key new_key content stored (record {
        has = under.begins.has;
        shows = under.begins.shows;
        values = under.begins.shown first stood.told;
        long = under.begins.long first stood.told;
        handed_in = stood.handed_in;
        stands = stood.stands;
      }) under.tells held under.unopened.1

  pub keeps-refused : (refusal : Refusal)
      (refused : IsRefusedBy sector sealed opened device disk pass refusal header back)
      → KeepsRefused sector sealed opened device disk pass refusal header back refused
  keeps-refused (refusals.Header fault) refused = tt
  keeps-refused refusals.Idle refused = tt
  keeps-refused (refusals.Passphrase count) refused = tt
  keeps-refused (refusals.Slots side fault) refused = tt
  keeps-refused (refusals.Tail bytes) refused = tt
  keeps-refused (refusals.Unopened cause) refused = keeps-vain cause refused.0 refused.2

-- ---- so `serve` says
module _ {B D L : Type 0} {sector : DiskCipher Aes → ℕ}
    {sealed opened : DiskCipher Aes → ℕ → List ℕ → List ℕ} (laws : RefusedLaws sector sealed opened)
    (device : D → DiskState) (complete : ConversionsEnd sector sealed opened device) (pass : List ℕ)
    (disk : D) (between : B) (outcome : Outcome D L) (refusal : Refusal) (header : Option D) (back : D)
  where
    pub not-taken-up : ((first : List ℕ) → (device disk).values ≡ Some first → refusal ≢ refusals.Idle)
        × IsRefusedBy sector sealed opened device disk pass refusal header back
        → outcome ≡ ended_refused (cause_of_resume refusal (device back).faults)
        (Some (Resuming refusal)) header back
        → HasNoConversion device pass disk between between outcome
    not-taken-up (other, refused) is = record {
      sector = sector;
      sealed = sealed;
      opened = opened;
      stands = refl;
      refusal = refusal;
      header = header;
      back = back;
      other = other;
      refused = refused;
      known = knows-refused laws device pass disk header back refusal refused;
      keeps = keeps-refused laws device pass disk header back refusal refused;
      complete = λ first content told tried stands converts still. complete disk pass first content
          (refused_run (record { header = header; disk = back; refusal = refusal })) told tried stands
          converts refused still;
      outcome_is = is;
    }
