-- Runs of clients' events start from a volume whose conversion was taken up, and lies idle.
use Rattle.std.proofs.Common.{◌≡◌, ◌<◌, ◌≤◌, ℕ, List, Option, Some, ap, arith, refl, subst}
use Rattle.std.specs.Prelude.{IsSomeAnd}
use Rattle.base_terms.specs.declared.disk_sizes.Sizes.{Sizes}
use Rattle.header_report.specs.Examinations.{sizes_alone}
use Rattle.plain_disk.specs.Plain.{settled_blocks}
use Rattle.reenc_recovery.specs.Images.{StandsUnder}
use Rattle.resume_disk.proofs.RunLemmas.{is_idle, is_whole, may_convert}
use Rattle.resume_disk.specs.Resuming.{IsOpenedMidway}
use Rattle.recovery_laws.specs.Resumed.Starts.{volume_seals}
use Rattle.sector_disk.specs.Devices.{Device}
use Rattle.recovery_laws.specs.Served.Clients.{StartsFor, without_work}
use Rattle.recovery_laws.specs.Served.Serving.{TakenVolumesLieIdle}
use Rattle.volume_laws.specs.Converting.{StartsCertain, StartsUnder}
use Rattle.volume_machine.specs.Beginnings.{IsFresh}
use Rattle.volume_machine.specs.Sound.{IsSound}
use Rattle.volume_machine.specs.States.{IsGoverned, State}
use Rattle.volume_machine.specs.Works.{Work, converting, resting}
use Rattle.volume_machine.specs.declared.keys.Keys.{Keys}
use Rattle.volume_opening.specs.Openings.{alone}
use Rattle.hotzone.specs.ZoneEvents.Readings.{reading_of}

-- between two zones no block is governed
none-governed : {K : Type 0} (state : State K) (layout : _) (header : _) (b : ℕ)
    → state.work ≡ Some (resting layout header converting) → IsGoverned state b → ⊥
none-governed state layout header b rests governed =
    let is : (0 ≤ b) × (b < 0) =
    subst (λ (w : Option Work). IsSomeAnd w
    (λ (work : Work). (work.range.start ≤ b) × (b < work.range.end))) rests governed in
    omega (arith, is.1)

-- A volume that was opened has no operation under way, and no block of it is governed.
module _ {C : Type 0} (sector : C → ℕ) (sealed opened : C → ℕ → List ℕ → List ℕ) (device : Device)
    (pass : List ℕ) (lanes : ℕ) (volume : State (Keys C))
    (taken : IsOpenedMidway sector sealed opened device pass lanes volume) where
  pub lies-fresh : IsFresh (without_work volume)
  lies-fresh = record {
    lanes = is_idle sector sealed opened (sizes_alone device) taken.keys lanes (alone taken.read)
        volume taken.calls;
    entries = ap (λ (v : State (Keys C)). v.entries) taken.calls.led.armed;
    unbroken = is_whole sector sealed opened (sizes_alone device) taken.keys lanes
        (alone taken.read) volume taken.calls;
    rests = refl;
  }

  pub lies-sound : IsSound (without_work volume)
  lies-sound =
      let may = may_convert sector sealed opened (sizes_alone device) taken.keys lanes
      (alone taken.read) volume taken.calls taken.order in
      record {
        fits = taken.sound.fits;
        room = taken.sound.room;
        some = taken.sound.some;
        count = taken.sound.count;
        entries = taken.sound.entries;
        once = taken.sound.once;
        under_way = taken.sound.under_way;
        zoned = λ b zone. absurd (none-governed volume _ _ b may.at_rest
            (taken.sound.zoned b zone));
      }

-- ---- the start
pub starts-for : {C : Type 0} (sealed opened : C → ℕ → List ℕ → List ℕ) (sizes : Sizes)
    (old_key new_key : List ℕ) (content : List (List ℕ)) (layout : _) (header : _) (now : List ℕ)
    (volume : State (Keys C)) → IsFresh (without_work volume) → IsSound (without_work volume)
    → StartsUnder (reading_of sizes) layout header converting volume
    (volume_seals sealed opened volume) (settled_blocks content) now
    → StartsCertain layout header volume (volume_seals sealed opened volume)
    (settled_blocks content) → StandsUnder sizes old_key new_key now content
    → StartsFor sealed opened sizes old_key new_key content volume
starts-for sealed opened sizes old_key new_key content layout header now volume fresh sound starts
    certain stands = record {
      now = now;
      stands = stands;
      starts = record {
        sound = sound;
        fresh = fresh;
        apart = starts.apart;
        lawful = starts.lawful;
        are = starts.are;
        sure = starts.sure;
        values = starts.values;
        stands = starts.stands;
      };
      covered = certain.covered;
    }

pub taken-idle : {C : Type 0} (sector : C → ℕ) (sealed opened : C → ℕ → List ℕ → List ℕ)
    → TakenVolumesLieIdle sector sealed opened
taken-idle sector sealed opened device pass lanes volume taken = (
  lies-fresh sector sealed opened device pass lanes volume taken,
  lies-sound sector sealed opened device pass lanes volume taken,
)
