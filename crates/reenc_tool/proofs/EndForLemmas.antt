-- What came of sessions on a volume of which a conversion is under way: once that is at its end the disk
-- stands under the passphrase.
use Rattle.std.proofs.Common.{◌≡◌, ◌∙◌, ◌<◌, ⊎_elim, Bool, true, false, ℕ, List, length, None, Some}
use Rattle.std.proofs.Common.{subst, sym}
use Rattle.aes_core.specs.declared.cipher.Aes.{Aes}
use Rattle.bays.specs.Stories.{LinkState}
use Rattle.base_terms.specs.declared.disk_sizes.Sizes.{Sizes}
use Rattle.recovery_laws.specs.Served.Ends.{StandsForNewest}
use Rattle.header_report.specs.Examinations.{sizes_alone}
use Rattle.hotzone.specs.Sites.{IsSaved}
use Rattle.luks_store.specs.declared.loaded.Stored.{Stored}
use Rattle.reenc_recovery.specs.Images.{StandsFor}
use Rattle.reenc_tool.proofs.AgainForLemmas.{ForLaws, again-for, up-for}
use Rattle.reenc_tool.proofs.MidwayLemmas.{MidwayLaws, behind, front-deeds, has-work, holds-newest}
use Rattle.reenc_tool.proofs.MidwayLemmas.{known-before}
use Rattle.reenc_tool.proofs.MidwayLemmas.{led-to-end, none-under-way, one-disk}
use Rattle.reenc_tool.specs.Beside.{HasServedConverting, IsServedAlone}
use Rattle.reenc_tool.specs.KeptBeside.{StandsAtEndBeside}
use Rattle.reenc_tool.specs.Outcomes.{Coming, Outcome}
use Rattle.reenc_tool.specs.Runs.{VolumeKeys}
use Rattle.reenc_tool.specs.Sessions.{most_events}
use Rattle.reenc_tool.specs.TakenUp.{IsLedToEnd, RanMidway}
use Rattle.reenc_tool.specs.Volumes.{RanAs}
use Rattle.reenc_tool.specs.declared.ended.Cause.TheVariants.{Fine}
use Rattle.resume_disk.specs.Resuming.{IsOpenedMidway}
use Rattle.recovery_laws.specs.Resumed.Chaining.{AreDisks}
use Rattle.recovery_laws.specs.Resumed.Starts.{BeginsBehind, volume_seals}
use Rattle.sector_cipher.specs.declared.disk.DiskCipher.{DiskCipher}
use Rattle.sector_disk.specs.Devices.{Device}
use Rattle.sector_disk.specs.Geometry.{IsDisk}
use Rattle.volume_machine.specs.Answers.{untagged}
use Rattle.volume_machine.specs.Deeds.{AreDeeds, Deed, state_after}
use Rattle.volume_machine.specs.States.{IsClient, State, open_at}
use Rattle.volume_opening.specs.Openings.{alone}
use Rattle.hotzone.specs.ZoneEvents.Readings.{reading_of}

never-both : {T : Type 0} {x : T} → None ≡ Some x → ⊥
never-both e = cc

false-true : false ≡ true → ⊥
false-true e = cc

module _ {sector : DiskCipher Aes → ℕ} {sealed opened : DiskCipher Aes → ℕ → List ℕ → List ℕ}
    (laws : MidwayLaws sector sealed opened) (passes : ForLaws sector sealed opened) {D L : Type 0}
    (device : D → Device) (state : L → LinkState) (disk : D) (pass : List ℕ) (lanes : ℕ)
    (volume : State VolumeKeys)
    (taken : IsOpenedMidway sector sealed opened (device disk) pass lanes volume)
    (geometry : IsDisk (device disk).size (device disk).atoms) (begun : List L)
    (outcome : Outcome D L) where
  abbrev here : Sizes
  here = sizes_alone (device disk)

  abbrev last : Stored
  last = taken.calls.led.last

  module _ (left : Device) (came : Coming L)
      (served : HasServedConverting state here volume (volume_seals sealed opened volume) left begun
      came) where
    -- what the law says of the state behind the deeds, of the state that is left
    stands-in : (content : List (List ℕ)) (bytes : List ℕ) (s : StandsFor here pass bytes content)
        (b : BeginsBehind sector sealed opened here last lanes s.old s.new bytes volume)
        → AreDisks here volume.disk → IsSaved b.now.conversion.resilience
        → (final : State VolumeKeys) → state_after volume served.deeds ≡ final
        → IsLedToEnd here last volume final → final.broken ≡ false
        → ((lane : ℕ) → IsClient volume lane → open_at final.lanes lane ≡ None)
        → StandsForNewest here pass volume.map.atom content (untagged served.operations) final.disk
    stands-in content bytes s b disks saved final same =
        subst (λ (v : State VolumeKeys). IsLedToEnd here last volume v → v.broken ≡ false
        → ((lane : ℕ) → IsClient volume lane → open_at v.lanes lane ≡ None)
        → StandsForNewest here pass volume.map.atom content (untagged served.operations) v.disk) same
        (λ done unbroken free.
        passes.ended here last lanes pass bytes volume content served.deeds
        (untagged served.operations) s b disks saved served.did.are
        (laws.untagged_are (reading_of here) (volume_seals sealed opened volume) volume served.final
        served.deeds served.operations served.did) unbroken free done)

    stands-at-end : came.cause ≡ Fine → length served.deeds < most_events
        → StandsAtEndBeside (device disk) pass taken.calls.found.header volume.map.atom
        (untagged served.operations) left
    stands-at-end is few first content told stands known =
        let (old_key, new_key, stood) =
        (passes.given (device disk) pass first taken.keys taken.read taken.under taken.begins told).1 content
        stands in
        let (bytes, s, b, saved) = passes.begins here taken.keys lanes (alone taken.read) volume pass content
        (up-for laws passes (device disk) pass lanes volume taken geometry first content told stands)
        (known-before laws (device disk) pass lanes volume taken geometry first old_key new_key content
        stood served.deeds served.did.are
        (behind laws device state disk pass lanes volume taken geometry begun outcome left came served
        known)) in
        subst (λ (d : Device). StandsForNewest here pass volume.map.atom content
        (untagged served.operations) d) (sym served.left_is)
        (stands-in content bytes s b
        (one-disk laws (device disk) pass lanes volume taken geometry first old_key new_key content stood)
        saved served.final served.did.last
        (led-to-end laws device state disk pass lanes volume taken geometry begun outcome left came served
        is) (served.fine is).1
        (none-under-way laws device state disk pass lanes volume taken geometry begun outcome left came
        served few))

  pub ran-midway : (converts : Bool)
      → RanAs device state converts volume (volume_seals sealed opened volume) begun outcome
      → RanMidway device state disk taken converts begun outcome
  ran-midway false ran =
      let seals = volume_seals sealed opened volume in
      let alone : IsServedAlone state volume seals ran.left begun ran.came =
      ⊎_elim (λ alone. alone.1) (λ led. absurd (false-true led.0)) ran.served in
      let whole = alone.1 here (λ some. taken.is_read) in
      record {
        over = record { left = ran.left; came = ran.came; served = alone.0; back = ran.back };
        whole = whole;
        again = λ first content told stands earlier later parts exchanges.
            again-for laws passes (device disk) pass lanes volume taken geometry first content told stands
            earlier exchanges (front-deeds (reading_of here) seals volume earlier later
            (subst (λ (d : List (Deed VolumeKeys)). AreDeeds (reading_of here) seals volume d) parts
            whole.did.are));
      }
  ran-midway true ran =
      let sizes = sizes_alone (device disk) in
      let served : HasServedConverting state sizes volume (volume_seals sealed opened volume)
      ran.left begun ran.came =
      ⊎_elim (λ alone. absurd (⊎_elim (λ off. false-true (sym off))
      (λ none. never-both (sym none ∙ has-work laws (device disk) pass lanes volume taken)) alone.0))
      (λ led. led.2 sizes taken.is_read taken.order) ran.served in
      record {
        left = ran.left;
        came = ran.came;
        served = served;
        back = ran.back;
        fine = led-to-end laws device state disk pass lanes volume taken geometry begun outcome ran.left
            ran.came served;
        holds = holds-newest laws device state disk pass lanes volume taken geometry begun outcome
            ran.left ran.came served;
        stands = stands-at-end ran.left ran.came served;
      }
