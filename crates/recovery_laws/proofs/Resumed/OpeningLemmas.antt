-- What is kept while a volume is opened that is being converted, and what stands behind that.
use Rattle.std.proofs.Common.{◌≡◌, ◌∙◌, ◌+◌, ◌*◌, ◌/◌, ◌<◌, ◌≤◌, inl, inr, ℕ, true, false, List, length}
use Rattle.std.proofs.Common.{Some, Ok, Result, ap, arith, refl, subst, sym}
use Rattle.std.proofs.Math.Nat.{le_of_mul-le-mul_right}
use Rattle.std.specs.Prelude.{IsSomeAnd}
use Rattle.base_terms.specs.Blocks.{joined}
use Rattle.base_terms.specs.declared.failed.Failed.{Failed}
use Rattle.resume_disk.specs.OpenedMidway.Openings.{IsFound}
use Rattle.resume_disk.specs.OpenedMidway.Runs.{MendsZone, last_of}
use Rattle.crash_laws.specs.HeaderAreas.Headers.{IsLaidOut}
use Rattle.base_terms.specs.declared.disk_sizes.Sizes.{Sizes}
use Rattle.hotzone.proofs.CallLemmas.{table-long}
use Rattle.hotzone.specs.Sites.{IsSaved}
use Rattle.hotzone.specs.Workers.{MayGoOn}
use Rattle.sector_disk.specs.JoinedDisks.Joined.{Joint, joined_disk}
use Rattle.luks_store.specs.Copying.Promises.{MeanTheSame}
use Rattle.luks_rules.specs.Areas.{header_bytes}
use Rattle.luks_rules.specs.Shapes.{progress_of}
use Rattle.luks_rules.specs.declared.shape.Progress.{Progress}
use Rattle.luks_rules.specs.declared.valid.Checked.{Checked}
use Rattle.luks_store.proofs.CopyLemmas.{Spelt}
use Rattle.luks_store.proofs.PageLemmas.{page-place, size-pages}
use Rattle.luks_store.specs.Devices.{front_of}
use Rattle.luks_store.specs.Loads.{IsStored, stored_in}
use Rattle.luks_store.specs.Promises.{AreasBeginBehind, UsedStands}
use Rattle.luks_store.specs.declared.loaded.Stored.{Stored}
use Rattle.image_laws.proofs.Opened.AtomLemmas.{long-joined}
use Rattle.image_laws.specs.Opened.Images.{ImageStandsUnder, OpenStandsUnder}
use Rattle.image_laws.specs.Opened.Openings.{IsMendedImage, TellsKept}
use Rattle.image_laws.specs.Opened.Promises.{OpeningsKeepImages, OpeningsMendImages, ReadsKeepImages}
use Rattle.reenc_recovery.proofs.PlacingLemmas.{is_idle}
use Rattle.reenc_recovery.specs.Placings.{PlacesVolume}
use Rattle.reenc_meta.specs.declared.placement.Placement.{Placement}
use Rattle.luks_meta.specs.declared.meta.Parts.{Parts}
use Rattle.reenc_recovery.specs.Calls.{OpeningRun, RepairRun, SyncsAndReads}
use Rattle.reenc_recovery.specs.Headers.{IsFoundHeader}
use Rattle.reenc_recovery.specs.Images.{StandsUnder}
use Rattle.reenc_recovery.specs.Keys.{used_by}
use Rattle.reenc_recovery.specs.Tables.{ShowsSizes}
use Rattle.reenc_recovery.specs.declared.keys.SideKeys.{SideKeys}
use Rattle.recovery_laws.proofs.Resumed.CallLemmas.{IsRepaired, has-mended, mended-atoms, repaired}
use Rattle.recovery_laws.proofs.Resumed.CallLemmas.{shows-mended}
use Rattle.recovery_laws.proofs.Resumed.EndLemmas.{ends-both, run-moved}
use Rattle.recovery_laws.proofs.Resumed.ShowLemmas.{shows-loaded}
use Rattle.recovery_laws.proofs.Resumed.StandLemmas.{StandTwice, second-salt-long}
use Rattle.recovery_laws.proofs.Resumed.TableLemmas.{Reads, tells-read}
use Rattle.recovery_laws.specs.Resumed.Keeping.{HoldsBoth, KeepsAtRepair, KeepsContent, StandsArmed}
use Rattle.recovery_laws.specs.Resumed.Keeping.{StandsAtMending, StandsAtRepair}
use Rattle.recovery_laws.specs.Resumed.Openings.{OpensOn}
use Rattle.sector_disk.specs.Cells.{content as bytes_in, currents}
use Rattle.sector_disk.specs.Devices.{Device, failed_call, succeeded}
use Rattle.sector_disk.specs.Geometry.{IsAtom}
use Rattle.sector_disk.specs.Steps.{Told}
use Rattle.image_laws.proofs.Started.BlockLemmas.{progress-busy}
use Rattle.image_laws.proofs.Started.GapLemmas.{one-header}
use Rattle.hotzone.proofs.ZoneEvents.GroundLemmas.{one-progress}
use Rattle.volume_machine.specs.declared.keys.Keys.{Keys}
use Rattle.hotzone.specs.ZoneEvents.Works.{layout_for}
use Rattle.image_laws.proofs.Led.SinceLemmas.{since-weaker}
use Rattle.image_laws.proofs.Led.StartLemmas.{Laws}
use Rattle.image_laws.specs.Led.Holding.{HoldsHeader, TellsLawfully, TellsOn}
use Rattle.image_laws.specs.Led.Keys.{AreCiphersOf}
use Rattle.image_laws.specs.Led.Promises.{MendingsStand, MendsFrom, StandsOn}

-- the laws that this stands on
pub record OpeningLaws {C : Type 0} (sector : C → ℕ) (sealed opened : C → ℕ → List ℕ → List ℕ)
    : Type 0 where
  pub reads : ReadsKeepImages
  pub keeps : OpeningsKeepImages
  pub mends : OpeningsMendImages
  pub stands : MendingsStand sector sealed opened
  pub steps : Laws sector sealed opened
  pub areas : AreasBeginBehind
  pub spelt : Spelt
  pub mean : MeanTheSame
  pub used : UsedStands

-- ---- small facts
some-atom : (atom : ℕ) → IsAtom atom → 0 < atom
some-atom atom (inl is) = rw is (omega arith)
some-atom atom (inr is) = rw is (omega arith)

twice-fits : (n atom size atoms : ℕ) → 0 < atom → n * atom ≡ size → 2 * size ≤ atoms * atom
    → n + n ≤ atoms
twice-fits n atom size atoms some whole room =
    let twice : (n + n) * atom ≡ n * atom + n * atom = omega arith in
    le_of_mul-le-mul_right (omega (arith, twice, whole, room)) some

pub laid-for : (sizes : Sizes) (header : Stored) → IsStored header → IsAtom sizes.atom
    → 2 * header.copies.used.header.hdr_size ≤ header_bytes sizes
    → IsLaidOut sizes.atom sizes.header_atoms header.copies.used.header.hdr_size
    (layout_for sizes.atom header.copies.used.header.hdr_size)
laid-for sizes header stored known room =
    let size = header.copies.used.header.hdr_size in
    let whole : size / sizes.atom * sizes.atom ≡ size =
    page-place sizes.atom size known (size-pages size stored.copies.whole.one_of_nine) in
    record {
      first = refl;
      second = refl;
      same = refl;
      long = whole;
      within = twice-fits (size / sizes.atom) sizes.atom size sizes.header_atoms
          (some-atom sizes.atom known) whole room;
    }

-- where a zone is open nothing places the volume
open-places : (m : Parts) (sizes : Sizes) (p : Placement) (now : Progress)
    → progress_of m sizes ≡ Some now → 0 < now.plan.zone → PlacesVolume m sizes p → ⊥
open-places m sizes p now known some (inl idle) =
    (let e : false ≡ true = sym (is_idle m sizes p idle) ∙ progress-busy m sizes now known in cc)
open-places m sizes p now known some (inr (c, is, placed)) =
    let closed = placed.closed in
    let same : c.plan.zone ≡ now.plan.zone =
    ap (λ (x : Progress). x.plan.zone) (one-progress m sizes c now is known) in
    omega (arith, closed, same, some)

-- ---- the keys that were handed in are those of a header that was found
module _ {C : Type 0} {sector : C → ℕ} {sealed opened : C → ℕ → List ℕ → List ℕ} (sizes : Sizes)
    (handed : SideKeys) (old : Joint) (first old_key new_key : List ℕ) (content : List (List ℕ))
    (opens : OpensOn sizes handed old first old_key new_key content)
    (found : IsFound sector sealed opened sizes handed old) where
  pub keys-handed : AreCiphersOf sector sealed opened found.passed.conversion.now old_key new_key
      found.keys
  keys-handed =
      let now = found.passed.conversion.now in
      let same = opens.handed_in found.header (found.held first opens.values) now
      found.passed.conversion.known in
      subst (λ k. AreCiphersOf sector sealed opened now k new_key found.keys) (sym same.0)
      (subst (λ k. AreCiphersOf sector sealed opened now (used_by now.old.encryption handed.old) k
      found.keys) (sym same.1) found.passed.conversion.sides.ciphers)

-- ---- the premises
module _ {C : Type 0} {sector : C → ℕ} {sealed opened : C → ℕ → List ℕ → List ℕ}
    (laws : OpeningLaws sector sealed opened) (sizes : Sizes) (handed : SideKeys) (old : Joint)
    (first old_key new_key : List ℕ) (content : List (List ℕ))
    (opens : OpensOn sizes handed old first old_key new_key content) where
  -- what a table keeps of the bytes at the start stands for the content
  pub reads-stand : (header : Stored) → stored_in sizes (front_of sizes first) ≡ Ok header
      → Reads sizes (StandsAtRepair sizes header old_key new_key content) (joined_disk old)
  reads-stand header held before was cells still image spared =
      let same : bytes_in before.now ≡ first =
      (let e : Some (bytes_in before.now) ≡ Some first =
      sym (opens.shows.agrees before was) ∙ opens.values in cc) in
      let on = still header
      (subst (λ bytes. stored_in sizes (front_of sizes bytes) ≡ Ok header) (sym same) held) image
      spared in (
        (on.keeps.keys old_key new_key content).0
            (subst (λ bytes. ImageStandsUnder sizes old_key new_key bytes content) (sym same)
            opens.stands),
        λ other is. ap (λ (s : Stored). s.valid)
            (one-header sizes (joined image) other on.holds.stored is on.holds.held) ∙ on.holds.same,
      )

  -- ---- a header was found, under whose keys the volume is led on
  module _ (found : IsFound sector sealed opened sizes handed old) where
    abbrev header : Stored
    header = found.header

    abbrev now : Progress
    now = found.passed.conversion.now

    held : stored_in sizes (front_of sizes first) ≡ Ok found.header
    held = found.held first opens.values

    pub known-own : progress_of found.header.valid.meta found.header.valid.sizes ≡ Some now
    known-own =
        subst (λ (s : Sizes). progress_of found.header.valid.meta s ≡ Some now)
        (sym found.passed.sizes_are) found.passed.conversion.known

    pub is-found : IsFoundHeader sizes found.header found.repair (joined_disk old)
    is-found = record {
      stored = found.passed.stored;
      sizes_are = found.passed.sizes_are;
      begin = found.passed.begin;
      room = found.passed.room;
      asked = found.asked;
      held = found.held;
    }

    the-keys : AreCiphersOf sector sealed opened now old_key new_key found.keys
    the-keys = keys-handed sizes handed old first old_key new_key content opens found

    -- whether a zone is open is said by the header
    pub no-zone : MayGoOn found.header → now.plan.zone ≡ 0
    no-zone may =
        (subst (λ o. IsSomeAnd o (λ (p : Progress).
        (p.plan.zone ≡ 0) × IsSaved p.conversion.resilience)) known-own may).0

    salt : length found.header.copies.secondary.salt ≡ 64
    salt =
        second-salt-long found.header found.passed.stored laws.spelt laws.mean laws.used sizes
        found.passed.room first (opens.shows.whole first opens.values) held

    pub failed-tables : (new : Device) → TellsLawfully new → (read : Joint)
        → SyncsAndReads old read → RepairRun found.repair (joined_disk read) new failed_call
        → KeepsAtRepair sizes found.header old_key new_key content (joined_disk old) new
    failed-tables new tells read first_run run =
        tells-read sizes (StandsAtRepair sizes found.header old_key new_key content)
        (joined_disk old) new (reads-stand found.header held)
        (laws.keeps sizes found.header found.repair old new failed_call opens.shows is-found
        (record { read = read; first = first_run; run = run }) tells.sized)

    -- ---- behind the repair
    module _ (read : Joint) (first_run : SyncsAndReads old read) (mended : Device)
        (repairs : RepairRun found.repair (joined_disk read) mended succeeded)
        (tells : TellsLawfully mended) where
      pub run : OpeningRun found.repair old mended succeeded
      run = record { read = read; first = first_run; run = repairs }

      shows-now : ShowsSizes sizes mended
      shows-now =
          shows-mended sizes old read first_run found.repair mended repairs opens.has opens.shows
          laws.spelt laws.mean laws.used found.header found.passed.stored found.passed.room
          found.asked first opens.values held tells

      pub image : IsMendedImage sizes found.header first mended
      image =
          laws.mends sizes found.header found.repair old mended opens.shows is-found shows-now run
          first opens.values

      pub kept : TellsKept sizes (joined_disk old) mended
      kept =
          laws.keeps sizes found.header found.repair old mended succeeded opens.shows is-found run
          tells.sized

      holds : HoldsHeader sizes found.header image.now mended
      holds = record {
        values = image.values;
        stored = image.holds.stored;
        held = image.holds.held;
        same = image.holds.same;
        means = image.means;
        good = image.good;
        certain = image.certain;
      }

      anew : IsRepaired found.header first mended
      anew =
          repaired sizes old read first_run found.repair mended repairs opens.has opens.shows laws.spelt
          laws.mean laws.used found.header found.passed.stored found.passed.room found.asked first
          opens.values held tells

      same-bytes : anew.now ≡ image.now
      same-bytes = (let e : Some anew.now ≡ Some image.now = sym anew.values ∙ image.values in cc)

      twice : StandTwice found.header image.now
      twice = subst (StandTwice found.header) same-bytes anew.stand

      whole : length image.now ≡ mended.atoms * sizes.atom
      whole =
          ap length (sym same-bytes) ∙ anew.long ∙ opens.long
          ∙ ap (λ n. n * sizes.atom)
          (sym (mended-atoms sizes old read first_run found.repair mended repairs opens.has opens.shows))

      both : HoldsBoth sizes found.header image.now mended
      both = record {
        holds = holds;
        copies = shows-loaded sizes.atom sizes.header_atoms
            (layout_for sizes.atom found.header.copies.used.header.hdr_size) found.header image.now
            (laid-for sizes found.header found.passed.stored opens.shows.known found.passed.room)
            twice;
      }

      stands-now : ImageStandsUnder sizes old_key new_key image.now content
      stands-now = (image.keeps.keys old_key new_key content).0 opens.stands

      -- another header of the same bytes says the same
      known-too : (stored : Stored) → stored_in sizes (front_of sizes image.now) ≡ Ok stored
          → progress_of stored.valid.meta sizes ≡ Some now
      known-too stored is =
          subst (λ (v : Checked). progress_of v.meta sizes ≡ Some now)
          (sym (ap (λ (s : Stored). s.valid)
          (one-header sizes image.now stored image.holds.stored is image.holds.held)
          ∙ image.holds.same)) found.passed.conversion.known

      closed : now.plan.zone ≡ 0 → StandsUnder sizes old_key new_key image.now content
      closed none =
          elim stands-now as (λ _. StandsUnder sizes old_key new_key image.now content) [
            | inl stands ↦ stands
            | inr stood ↦ absurd (
                let same = one-progress stood.stored.valid.meta sizes stood.now now stood.known
                (known-too stood.stored stood.header) in
                let zone : stood.now.plan.zone ≡ now.plan.zone =
                ap (λ (p : Progress). p.plan.zone) same in
                let some = stood.some in
                omega (arith, none, zone, some)
                )
          ]

      pub open-now : 0 < now.plan.zone → OpenStandsUnder sizes old_key new_key image.now content
      open-now some =
          elim stands-now as (λ _. OpenStandsUnder sizes old_key new_key image.now content) [
            | inl stands ↦ absurd (open-places stands.stored.valid.meta sizes stands.placement now
                (known-too stands.stored stands.header) some stands.placed)
            | inr stood ↦ stood
          ]

      pub mended-tables : KeepsAtRepair sizes found.header old_key new_key content
          (joined_disk old) mended
      mended-tables =
          tells-read sizes (StandsAtRepair sizes found.header old_key new_key content)
          (joined_disk old) mended (reads-stand found.header held) kept

      -- ---- no zone is open
      pub closed-tables : MayGoOn found.header
          → KeepsContent sizes found.header found.header old_key new_key content (joined_disk old)
          mended mended
      closed-tables may = record {
        at_repair = mended-tables;
        closed = λ _. (refl, refl);
        moves = λ busy. absurd (busy may);
        at_mending = λ busy. absurd (busy may);
      }

      pub closed-armed : MayGoOn found.header
          → StandsArmed sizes found.header old_key new_key content mended
      closed-armed may =
          record { now = image.now; holds = both; long = whole; stands = closed (no-zone may) }

      -- ---- one is
      module _ (result : Result (Unit {0}) Failed) (last : Device)
          (zone : MendsZone sector sealed opened found.header found.keys mended last result) where
        pub some-zone : 0 < now.plan.zone
        some-zone =
            let own = zone.begins.zone in
            let same = one-progress found.header.valid.meta found.header.valid.sizes own.now now
            own.is.known known-own in
            subst (λ (p : Progress). 0 < p.plan.zone) same own.is.some

        pub from : MendsFrom sector sealed opened sizes found.header old_key new_key image.now zone.before
            mended
        from = record {
          mends = zone.is;
          stands = λ by. (content, open-now some-zone);
          loaded = zone.begins.loaded;
          first = zone.begins.first;
          sizes_are = found.passed.sizes_are;
          room = found.passed.room;
          now = now;
          known = found.passed.conversion.known;
          keys = subst (λ (k : Keys C). AreCiphersOf sector sealed opened now old_key new_key k)
              (sym zone.begins.keys_are) the-keys;
          disk = has-mended sizes old read first_run found.repair mended repairs opens.has opens.shows;
          tells = zone.tells;
          holds = holds;
        }

        pub led-tables : KeepsContent sizes found.header zone.after.moved.loaded old_key new_key
            content (joined_disk old) mended last
        led-tables = record {
          at_repair = mended-tables;
          closed = λ may.
              absurd (let none = no-zone may in let some = some-zone in omega (arith, none, some));
          moves = λ busy. (zone.after.moved, zone.moves, refl);
          at_mending = λ busy. led-on;
        }
          where
            told : TellsOn
                (StandsOn sizes found.header zone.before.moved.loaded old_key new_key image.now) mended
                last
            told =
                (laws.stands sizes found.header old_key new_key image.now zone.before zone.after mended
                last (last_of result) from zone.run).0

            led-on : TellsOn
                (StandsAtMending sizes found.header zone.after.moved.loaded old_key new_key content)
                mended last
            led-on =
                subst (λ (next : Stored). TellsOn
                (StandsAtMending sizes found.header next old_key new_key content) mended last)
                (sym (run-moved sealed opened zone.before mended zone.after last (last_of result)
                zone.run)) (λ now is.
                let t = told now is in (
                  t.0,
                  t.1,
                  since-weaker
                      (StandsOn sizes found.header zone.before.moved.loaded old_key new_key image.now)
                      (StandsAtMending sizes found.header zone.before.moved.loaded old_key new_key
                      content)
                      (λ cells stand image spared. stand image spared content (open-now some-zone)) t.0
                      now t.2,
                ))

      module _ (last : Device)
          (zone : MendsZone sector sealed opened found.header found.keys mended last succeeded) where
        pub led-armed : TellsLawfully last → (told : Told) → last.told ≡ Some told
            → StandsArmed sizes zone.before.moved.loaded old_key new_key content last
        led-armed lawful told told_is =
            let origin = from succeeded last zone in
            let turned = (laws.stands sizes found.header old_key new_key image.now zone.before
            zone.after mended last (Ok true) origin zone.run).1 refl told told_is in
            let certain = turned.holds.certain told told_is in
            record {
              now = turned.now;
              holds = record {
                holds = turned.holds;
                copies = ends-both laws.steps laws.areas zone.before zone.after mended last old_key
                    new_key image.now zone.run sizes found.header origin salt turned.now told told_is
                    certain;
              };
              long = ap length (sym certain.holds)
                  ∙ long-joined sizes.atom (length told.now) (currents told.now) certain.even
                  ∙ ap (λ n. n * sizes.atom) (table-long last lawful.alike told told_is);
              stands = turned.stands content (open-now (some-zone succeeded last zone));
            }
