-- Wherever a conversion stops that is led on beside clients the disk stands under the passphrase.
use Rattle.std.proofs.Common.{◌≡◌, inr, ℕ, List, [], Some, sym}
use Rattle.std.proofs.lemmas.List.{append-nil}
use Rattle.base_terms.specs.Blocks.{joined}
use Rattle.recovery_laws.specs.Served.Ends.{EndsStandForNewest}
use Rattle.header_report.specs.Examinations.{sizes_alone}
use Rattle.image_laws.specs.Opened.Images.{ImageStandsFor}
use Rattle.plain_disk.specs.Plain.{Exchange}
use Rattle.resume_disk.specs.Resuming.{IsOpenedMidway}
use Rattle.recovery_laws.specs.Resumed.Openings.{IsKnownBehind}
use Rattle.recovery_laws.specs.Resumed.Passphrases.{IsTakenUpFor, TakenUpConversionsBeginFor}
use Rattle.recovery_laws.specs.Resumed.Resuming.{both_of}
use Rattle.recovery_laws.specs.Resumed.Starts.{volume_seals}
use Rattle.sector_disk.specs.Devices.{Device}
use Rattle.sector_disk.specs.Geometry.{IsDisk}
use Rattle.sector_disk.specs.Steps.{Told}
use Rattle.recovery_laws.specs.Served.Clients.{StoodFor}
use Rattle.recovery_laws.specs.Served.Serving.{FoundKeysStand}
use Rattle.recovery_laws.specs.Served.Again.{StandsBeside}
use Rattle.recovery_laws.specs.Served.Passphrases.{DeedsStandAgainFor}
use Rattle.volume_laws.specs.Handing.{handed_over}
use Rattle.volume_laws.specs.Imaging.{IsTaken}
use Rattle.volume_machine.specs.Answers.{AreExchanges}
use Rattle.volume_machine.specs.Deeds.{AreDeeds, Deed, answered_over, state_after}
use Rattle.volume_machine.specs.Runs.{no_plain}
use Rattle.volume_machine.specs.States.{State}
use Rattle.volume_machine.specs.declared.keys.Keys.{Keys}
use Rattle.volume_opening.specs.Openings.{alone}
use Rattle.hotzone.specs.ZoneEvents.Heads.{header_on}
use Rattle.hotzone.specs.ZoneEvents.Readings.{reading_of}
use Rattle.reenc_tool.proofs.MidwayLemmas.{MidwayLaws, keeps-beside, known-before, one-disk}
use Rattle.reenc_tool.specs.KeptBeside.{StandsAgainBeside, StandsAllowedFor}

-- the laws that this stands on besides
pub record ForLaws {C : Type 0} (sector : C → ℕ) (sealed opened : C → ℕ → List ℕ → List ℕ)
    : Type 0 where
  pub given : FoundKeysStand
  pub begins : TakenUpConversionsBeginFor sector sealed opened
  pub stops : DeedsStandAgainFor sector sealed opened
  pub ended : EndsStandForNewest sector sealed opened

module _ {C : Type 0} {sector : C → ℕ} {sealed opened : C → ℕ → List ℕ → List ℕ}
    (laws : MidwayLaws sector sealed opened) (passes : ForLaws sector sealed opened)
    (device : Device)
    (pass : List ℕ) (lanes : ℕ) (volume : State (Keys C))
    (taken : IsOpenedMidway sector sealed opened device pass lanes volume)
    (geometry : IsDisk device.size device.atoms) (first : List ℕ) (content : List (List ℕ))
    (told : device.values ≡ Some first)
    (stands : ImageStandsFor (sizes_alone device) pass first content) where
  abbrev pub up-for : IsTakenUpFor sector sealed opened (sizes_alone device) taken.keys lanes
      (alone taken.read) volume pass content
  up-for = record {
    first = first;
    tells = record {
      has = taken.begins.has;
      shows = taken.begins.shows;
      values = taken.begins.shown first told;
      long = taken.begins.long first told;
    };
    given = (passes.given device pass first taken.keys taken.read taken.under taken.begins told).0;
    stands = stands;
    is = taken.calls;
    order = taken.order;
  }

  -- under the keys that were found
  module _ (old_key new_key : List ℕ)
      (stood : StoodFor (sizes_alone device) taken.keys device first old_key new_key content)
      (deeds : List (Deed (Keys C))) (exchanges : List Exchange)
      (are : AreDeeds (reading_of (sizes_alone device)) (volume_seals sealed opened volume) volume deeds)
      (answered : AreExchanges
      (answered_over (volume_seals sealed opened volume) volume no_plain deeds) exchanges) (now : Told)
      (now_is : (state_after volume deeds).disk.told ≡ Some now) (image : List (List ℕ))
      (is_taken : IsTaken (reading_of (sizes_alone device)) (state_after volume deeds)
      (handed_over volume (both_of (header_on taken.calls.led.last)) deeds) now.now image) where
    abbrev known : IsKnownBehind taken.calls.found.header (state_after volume deeds).disk
    known = inr (now, now_is)

    beside : StandsBeside (sizes_alone device) taken.calls.led.last old_key new_key volume
        (volume_seals sealed opened volume) content deeds exchanges
    beside =
        (keeps-beside laws device pass lanes volume taken geometry first old_key new_key content stood
        deeds are known).again deeds [] (sym (append-nil deeds)) exchanges answered

    stopped : StandsAllowedFor (sizes_alone device) pass volume (volume_seals sealed opened volume)
        content deeds exchanges (joined image)
    stopped =
        let (bytes, s, b, saved) = passes.begins (sizes_alone device) taken.keys lanes (alone taken.read)
        volume pass content up-for
        (known-before laws device pass lanes volume taken geometry first old_key new_key content stood
        deeds are known) in
        let (held, again, allowed) = passes.stops (sizes_alone device) taken.calls.led.last lanes pass bytes
        volume content deeds exchanges beside.left s b
        (one-disk laws device pass lanes volume taken geometry first old_key new_key content stood) saved
        are answered beside.legal now now_is image is_taken in
        record {
          left = beside.left;
          legal = beside.legal;
          held = held;
          stands = again;
          allowed = allowed;
        }

  pub again-for : StandsAgainBeside sealed opened device pass taken.calls.led.last volume content
  again-for deeds exchanges are answered now now_is image is_taken =
      let (old_key, new_key, stood) =
      (passes.given device pass first taken.keys taken.read taken.under taken.begins told).1 content stands in
      stopped old_key new_key stood deeds exchanges are answered now now_is image is_taken
