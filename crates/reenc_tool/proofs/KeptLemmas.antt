-- A conversion that is led on keeps what its disk stood for.
use Rattle.std.proofs.Common.{◌≡◌, ◌∙◌, ◌++◌, inl, inr, ℕ, true, List, Option, Some, Ok, ap, arith}
use Rattle.std.proofs.Common.{refl, subst, sym}
use Rattle.base_terms.specs.Blocks.{joined}
use Rattle.crash_laws.specs.HeaderAreas.Headers.{Layout}
use Rattle.base_terms.specs.declared.disk_sizes.Sizes.{Sizes}
use Rattle.header_report.specs.Examinations.{sizes_alone}
use Rattle.sector_disk.specs.JoinedDisks.Joined.{joined_disk}
use Rattle.luks_rules.specs.Segments.{in_progress}
use Rattle.luks_store.specs.declared.loaded.Stored.{Stored}
use Rattle.image_laws.specs.Opened.Images.{ImageStandsFor}
use Rattle.reenc_recovery.specs.Images.{StandsFor}
use Rattle.reenc_recovery.specs.Placings.{RestsIn}
use Rattle.reenc_worker.specs.declared.ends.WorkerEnd.{WorkerEnd}
use Rattle.reenc_worker.specs.declared.ends.WorkerEnd.TheVariants.{Finished}
use Rattle.resume_disk.specs.Resuming.{HasRun}
use Rattle.recovery_laws.proofs.Resumed.ResumeLemmas.{told-first}
use Rattle.recovery_laws.specs.Resumed.Chaining.{AreDisks, GoesOnIn, StopsStandAgain}
use Rattle.recovery_laws.specs.Resumed.Openings.{IsKnownBehind, OpeningsKeepContent, OpensOn}
use Rattle.recovery_laws.specs.Resumed.Passphrases.{AreGiven, FinishedConversionsStandFor, IsTakenUpFor}
use Rattle.recovery_laws.specs.Resumed.Passphrases.{StandsAgainFor, StopsStandForPassphrases}
use Rattle.recovery_laws.specs.Resumed.Repeating.{Tells, at_work}
use Rattle.recovery_laws.specs.Resumed.Resuming.{IsTakenUp, ResumedConversionsKeepContent, both_of}
use Rattle.recovery_laws.specs.Resumed.Resuming.{ResumedConversionsStand, TakenUpConversionsBegin}
use Rattle.recovery_laws.specs.Resumed.Runs.{HoldsNew}
use Rattle.recovery_laws.specs.Resumed.Starts.{layout_on, volume_seals}
use Rattle.sector_disk.specs.Devices.{Device as DiskState}
use Rattle.sector_disk.specs.Geometry.{IsDisk}
use Rattle.sector_disk.specs.Steps.{Told}
use Rattle.recovery_laws.specs.Served.Clients.{StoodFor}
use Rattle.recovery_laws.specs.Served.Serving.{FoundKeysStand, PassphrasesGiveKeys}
use Rattle.volume_laws.specs.Handing.{handed_over}
use Rattle.volume_laws.specs.Imaging.{IsTaken}
use Rattle.volume_machine.specs.Deeds.{Deed, state_after}
use Rattle.volume_machine.specs.States.{State}
use Rattle.volume_machine.specs.declared.keys.Keys.{Keys}
use Rattle.volume_opening.specs.Openings.{alone}
use Rattle.volume_laws.specs.WorkerRuns.Conversions.{HasConverted}
use Rattle.hotzone.proofs.ZoneEvents.GroundLemmas.{busy-of}
use Rattle.hotzone.specs.ZoneEvents.Heads.{header_on}
use Rattle.hotzone.specs.ZoneEvents.Readings.{reading_of}
use Rattle.hotzone.specs.ZoneEvents.Works.{layout_for}
use Rattle.reenc_tool.specs.Kept.{KeepsRun, KnowsKeys, StandsAtEnd, StandsAtStops}

-- the laws that this stands on
pub record KeptLaws {C : Type 0} (sector : C → ℕ) (sealed opened : C → ℕ → List ℕ → List ℕ)
    : Type 0 where
  pub keys : PassphrasesGiveKeys sector sealed opened
  pub openings : OpeningsKeepContent sector sealed opened
  pub begins : TakenUpConversionsBegin sector sealed opened
  pub finished : ResumedConversionsKeepContent sector sealed opened
  pub stops : ResumedConversionsStand sector sealed opened
  pub again : StopsStandAgain sector sealed opened
  pub given : FoundKeysStand
  pub ended : FinishedConversionsStandFor sector sealed opened
  pub left : StopsStandForPassphrases sector sealed opened

module _ {C D : Type 0} {sector : C → ℕ} {sealed opened : C → ℕ → List ℕ → List ℕ}
    (laws : KeptLaws sector sealed opened) (device : D → DiskState) (pass : List ℕ) (disk : D)
    (header : Option D) (back : D) where
  abbrev sizes : Sizes
  sizes = sizes_alone (device disk)

  module _ (end : WorkerEnd) (after : State (Keys C))
      (run : HasRun sector sealed opened device disk pass end after header back) where
    pub knows-run : KnowsKeys (device disk) pass run.resumed.keys
    knows-run first content told stands =
        laws.keys (device disk) pass first 1 run.volume content run.resumed told stands

    one-disk : IsDisk (device disk).size (device disk).atoms → AreDisks sizes run.volume.disk
    one-disk geometry =
        let has = run.resumed.is_read.sizes_are in
        let all = has.all in
        let atoms : (device disk).atoms ≡ run.volume.disk.atoms = omega (arith, all) in
        record {
          has = has;
          disk = subst (λ (n : ℕ). IsDisk run.volume.disk.size n) atoms
              (subst (λ (n : ℕ). IsDisk n (device disk).atoms) has.atom geometry);
        }

    -- ---- under the passphrase
    module _ (geometry : IsDisk (device disk).size (device disk).atoms) (first : List ℕ)
        (content : List (List ℕ)) (told : (device disk).values ≡ Some first)
        (stands : ImageStandsFor sizes pass first content) where
      given : AreGiven sizes pass run.resumed.keys first
      given =
          (laws.given (device disk) pass first run.resumed.keys run.resumed.read run.resumed.under
          run.resumed.begins told).0

      tells : Tells sizes (alone run.resumed.read) first
      tells = record {
        has = run.resumed.begins.has;
        shows = run.resumed.begins.shows;
        values = run.resumed.begins.shown first told;
        long = run.resumed.begins.long first told;
      }

      abbrev taken-for : IsTakenUpFor sector sealed opened sizes run.resumed.keys 1
          (alone run.resumed.read) run.volume pass content
      taken-for = record {
        first = first;
        tells = tells;
        given = given;
        stands = stands;
        is = run.resumed.calls;
        order = run.resumed.order;
      }

      goes : GoesOnIn sizes first
      goes stored is =
          let found = run.resumed.calls.found in
          let same : stored ≡ found.header =
          (let e : Ok stored ≡ Ok found.header = sym is ∙ found.held first tells.values in cc) in
          subst (λ (s : Stored). in_progress s.valid.meta.config ≡ true) (sym same)
          (busy-of found.header.valid.meta sizes found.passed.conversion.now
          found.passed.conversion.known)

      pub stops-at : (earlier later : List (Deed (Keys C)))
          → run.led.ran.worked.deeds ≡ earlier ++ later → (now : Told)
          → (state_after run.volume earlier).disk.told ≡ Some now → (image : List (List ℕ))
          → IsTaken (reading_of sizes) (state_after run.volume earlier)
          (handed_over run.volume (both_of (header_on run.resumed.calls.led.last)) earlier) now.now
          image → StandsAgainFor sizes pass (joined image) content
      stops-at earlier later parts now now_is image image_taken =
          laws.left sizes run.resumed.keys pass first (joined image) content (inl (stands, goes)) given
          (at_work 1 (alone run.resumed.read) run.volume after run.led.ran.answers image tells
          run.resumed.calls run.resumed.order (one-disk geometry) run.led.ran.worked earlier later parts
          now now_is image_taken refl)

    pub stands-at-stops : IsDisk (device disk).size (device disk).atoms → StandsAtStops run
    stands-at-stops geometry first content told stands earlier later parts now now_is image image_taken =
        stops-at geometry first content told stands earlier later parts now now_is image image_taken

    module _ (first old_key new_key : List ℕ) (content : List (List ℕ))
        (stood : StoodFor sizes run.resumed.keys (device disk) first old_key new_key content) where
      opens : OpensOn sizes run.resumed.keys (alone run.resumed.read) first old_key new_key content
      opens = record {
        has = run.resumed.begins.has;
        shows = run.resumed.begins.shows;
        values = run.resumed.begins.shown first stood.told;
        long = run.resumed.begins.long first stood.told;
        handed_in = stood.handed_in;
        stands = stood.stands;
      }

      abbrev taken : IsTakenUp sector sealed opened sizes run.resumed.keys 1 (alone run.resumed.read)
          run.volume content
      taken = record {
        first = first;
        old_key = old_key;
        new_key = new_key;
        opens = opens;
        is = run.resumed.calls;
        order = run.resumed.order;
      }

      module _ (geometry : IsDisk (device disk).size (device disk).atoms) where
        pub keeps-run : KeepsRun sector sealed opened device disk pass end after header back run
            old_key new_key content
        keeps-run = record {
          since = (laws.openings sizes run.resumed.keys 1 (alone run.resumed.read) run.volume first
              old_key new_key content opens run.resumed.calls).0;
          stops = λ earlier later parts told told_is.
              laws.stops sizes run.resumed.keys 1 (alone run.resumed.read) run.volume after content
              run.led.ran.answers taken run.led.ran.worked earlier later parts told told_is;
          again = λ earlier later parts told told_is image image_taken.
              let (now, stands, b, saved) = laws.begins sizes run.resumed.keys 1 (alone run.resumed.read)
              run.volume content taken
              (inr (told-first earlier later run.led.ran.worked parts told told_is)) in
              laws.again sizes run.resumed.calls.led.last 1 old_key new_key now run.volume after content
              run.led.ran.answers b stands (one-disk geometry) saved run.led.ran.worked earlier
              later parts told told_is image image_taken;
        }

  -- ---- at the end
  module _ (after : State (Keys C))
      (run : HasRun sector sealed opened device disk pass Finished after header back) where
    same-layout : layout_for run.resumed.calls.led.last.valid.sizes.atom
        run.resumed.calls.led.last.copies.used.header.hdr_size
        ≡ layout_on sizes run.resumed.calls.led.last
    same-layout =
        ap (λ (z : Sizes). layout_for z.atom run.resumed.calls.led.last.copies.used.header.hdr_size)
        run.resumed.calls.led.sizes_are

    pub holds-new : (first old_key new_key : List ℕ) (content : List (List ℕ))
        → StoodFor sizes run.resumed.keys (device disk) first old_key new_key content
        → IsKnownBehind run.resumed.calls.found.header (joined_disk run.joint)
        → HoldsNew (reading_of sizes) (volume_seals sealed opened run.volume)
        run.led.ran.leaves.header after content
    holds-new first old_key new_key content stood known =
        subst (λ (l : Layout). (done : HasConverted (reading_of sizes)
        (volume_seals sealed opened run.volume) l (header_on run.resumed.calls.led.last) run.volume
        after Finished)
        → HoldsNew (reading_of sizes) (volume_seals sealed opened run.volume) done.leaves.header after
        content) (sym same-layout)
        (λ done. laws.finished sizes run.resumed.keys 1 (alone run.resumed.read) run.volume after content
        (taken Finished after run first old_key new_key content stood) done
        (subst (λ (d : DiskState). IsKnownBehind run.resumed.calls.found.header d) run.shows known))
        run.led.ran

    pub stands-at-end : IsDisk (device disk).size (device disk).atoms → StandsAtEnd run
    stands-at-end geometry first content told stands known =
        subst (λ (d : DiskState). (now : List ℕ) × (d.values ≡ Some now) × StandsFor sizes pass now content
        × RestsIn sizes now) (sym run.shows)
        (subst (λ (l : Layout). HasConverted (reading_of sizes)
        (volume_seals sealed opened run.volume) l (header_on run.resumed.calls.led.last) run.volume
        after Finished → (now : List ℕ) × (after.disk.values ≡ Some now)
        × StandsFor sizes pass now content × RestsIn sizes now) (sym same-layout)
        (λ done. laws.ended sizes run.resumed.keys 1 (alone run.resumed.read) run.volume after pass content
        (taken-for Finished after run geometry first content told stands)
        (one-disk Finished after run geometry) done
        (subst (λ (d : DiskState). IsKnownBehind run.resumed.calls.found.header d) run.shows known))
        run.led.ran)
