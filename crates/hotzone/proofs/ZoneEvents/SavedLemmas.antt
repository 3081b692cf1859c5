-- What is saved of the parts of a zone is what the volume's worker saves, by what guards the zone.
use Rattle.std.proofs.Common.{◌≡◌, ◌∙◌, ℕ, zero, suc, ◌+◌, ◌-◌, ◌/◌, ◌<◌, ◌≤◌, ◌==◌, min}
use Rattle.std.proofs.Common.{Bool, true, false, List, length, None, Result, cond}
use Rattle.std.proofs.Common.{refl, sym, ap, subst, arith, inl, inr}
use Rattle.std.proofs.lemmas.Bool.{eqb-false, eqb-true, ne_eqb}
use Rattle.base_terms.specs.declared.failed.Failed.{Failed}
use Rattle.crash_laws.specs.HeaderAreas.Headers.{Header, Layout}
use Rattle.sector_disk.proofs.DiskViews.Blockwise.{bytes-take}
use Rattle.sector_disk.specs.DiskViews.Parts.{AreBlocks, block_at}
use Rattle.crash_laws.specs.HotZones.Zones.{Phase, saving}
use Rattle.hotzone.proofs.GuardLemmas.{first-start, saved-each, saved-last, saved-long}
use Rattle.hotzone.proofs.GuardLemmas.{saved-of-part, saved-on, saved-some, saved-within, saved_part}
use Rattle.hotzone.proofs.KnownLemmas.{SealRuns, each-resealed, part-some}
use Rattle.hotzone.specs.Sites.{IsPartStart, bytes_at, count_of, kind_of, part_at, saved_at}
use Rattle.hotzone.specs.Steps.{IsClash, IsSavedText, SavesPart, TellsBy, TellsPart, after_save}
use Rattle.hotzone.specs.Steps.{part_in, resealed}
use Rattle.hotzone.specs.declared.site.Guard.{Guard}
use Rattle.hotzone.specs.declared.site.Guard.TheVariants as guards
use Rattle.hotzone.specs.declared.site.Site.{Site}
use Rattle.hotzone.specs.declared.worker.Headers.{Headers}
use Rattle.hotzone.specs.declared.worker.NextCall.{NextCall}
use Rattle.hotzone.specs.declared.worker.NextCall.TheVariants.{Read, Keep}
use Rattle.hotzone.specs.declared.worker.Worker.{Worker}
use Rattle.sector_disk.specs.Devices.{Device, WriteCall, failed_call, succeeded}
use Rattle.sector_disk.specs.Geometry.{IsAtom}
use Rattle.segment_map.specs.Maps.{most_bytes}
use Rattle.sha2.specs.Sha256.{sha256}
use Rattle.volume_machine.specs.Saved.{TellsApart, saved_before}
use Rattle.volume_machine.specs.Seals.{Seals}
use Rattle.volume_machine.specs.States.{State}
use Rattle.volume_machine.specs.WorkCalls.{SavesPart as SavesText, StepFails, ZoneStep, after_saving}
use Rattle.volume_machine.specs.WorkCalls as calls
use Rattle.volume_machine.specs.WorkSteps.{IsFirstClash}
use Rattle.volume_machine.specs.Works.{Part, Work, fetched, wanted}
use Rattle.volume_machine.specs.declared.keys.Keys.{Keys}
use Rattle.hotzone.proofs.ZoneEvents.CallLemmas.{most-atoms, part-long}
use Rattle.hotzone.proofs.ZoneEvents.HereLemmas.{fits-here}
use Rattle.hotzone.specs.ZoneEvents.Promises.{IsOf}
use Rattle.hotzone.specs.ZoneEvents.Works.{at_hand, led_by, work_by}

-- ---- what is saved of a part
-- by checksum its digests tell its blocks from what they become
tells-by : (g : Guard) (seals : Seals) (atom first count : ℕ) (old : List ℕ)
    → SealRuns atom seals → AreBlocks atom count old
    → TellsBy g atom count old (resealed seals first old)
    → TellsApart (kind_of g) atom count old (λ k. resealed seals (first + k) (block_at atom old k))
tells-by guards.Journal seals atom first count old runs are tells = tt
tells-by guards.Checksum seals atom first count old runs are tells = λ k below same.
    tells k below (same ∙ sym (ap sha256 (each-resealed atom seals first count old k runs are below)))

-- a part at hand of which this is saved
pub record IsTold {C : Type 0} (seals : Seals) (w : Worker C) (done : ℕ) (text : List ℕ) : Type 0
  where
    pub known : IsAtom w.site.atom
    pub start : IsPartStart w.site done
    pub within : done ≤ count_of w.site
    pub room : bytes_at w.site 0 ≤ length w.buffer
    pub runs : SealRuns w.site.atom seals
    pub blocks : AreBlocks w.site.atom (part_at w.site done) (part_in w done)
    pub tells : TellsPart seals w done
    pub saved : IsSavedText w.site.guard w.site.atom (part_at w.site done) (part_in w done) text

pub saves-text : {C : Type 0} (seals : Seals) (layout : Layout) (w : Worker C)
    (opened moved : Header (List ℕ)) (phase : Phase) (part : Part) (done : ℕ) (text : List ℕ)
    → IsTold seals w done text
    → SavesText seals w.site.atom (at_hand layout w opened moved phase part) done
    (part_at w.site done) (part_in w done) text
saves-text seals layout w opened moved phase part done text is =
    let long = part-long w.site w.buffer w.site.atom done refl is.room in
    record {
      size = long;
      is = record {
        size = saved-long w.site.guard w.site.atom (part_at w.site done) (part_in w done) text
            is.saved long;
        of_part = saved-of-part w.site done is.known is.start is.within;
        each = saved-each w.site done is.known is.start is.within (part_in w done) text
            (λ i. block_at w.site.atom (part_in w done) (i - done))
            (λ k below. ap (λ n. block_at w.site.atom (part_in w done) n)
            (let e : k ≡ done + k - done = omega arith in e)) is.saved;
      };
      within = saved-within w.site done is.known is.start is.within;
      tells = tells-by w.site.guard seals w.site.atom (w.site.blocks.start + done)
          (part_at w.site done) (part_in w done) is.runs is.blocks is.tells;
    }

-- behind the first part something is saved
saved-far-by : (g : Guard) (atom first count : ℕ) → IsAtom atom → min (count - 0) (most_bytes / atom) ≤ first
    → first < count → 0 < saved_before (kind_of g) atom first
saved-far-by guards.Journal atom first count (inl is) far below =
    (let far = subst (λ a. min (count - 0) (most_bytes / a) ≤ first) is far in omega (arith, far, below))
saved-far-by guards.Journal atom first count (inr is) far below =
    (let far = subst (λ a. min (count - 0) (most_bytes / a) ≤ first) is far in omega (arith, far, below))
saved-far-by guards.Checksum atom first count (inl is) far below =
    subst (λ a. 0 < first / (a / 32)) (sym is)
    (let far = subst (λ a. min (count - 0) (most_bytes / a) ≤ first) is far in omega (arith, far, below))
saved-far-by guards.Checksum atom first count (inr is) far below =
    subst (λ a. 0 < first / (a / 32)) (sym is)
    (let far = subst (λ a. min (count - 0) (most_bytes / a) ≤ first) is far in omega (arith, far, below))

pub saved-far : (site : Site) (done : ℕ) → IsAtom site.atom → part_at site 0 ≤ done
    → done < count_of site → 0 < saved_at site done
saved-far site done known far below =
    saved-far-by site.guard site.atom done (count_of site) known far below

-- ---- the part at hand is whole atoms
pub part-blocks : {C : Type 0} (sector : C → ℕ) (seals : Seals) (layout : Layout)
    (before : Worker C) (old : State (Keys C)) → IsOf sector seals layout before old → (done : ℕ)
    → AreBlocks before.site.atom (part_at before.site done) (part_in before done)
part-blocks sector seals layout before old of done = record {
  size = part-long before.site before.buffer before.site.atom done refl of.working.room;
  are_bytes = bytes-take (bytes_at before.site done) before.buffer of.bytes;
}

-- ---- the call that saves it
module _ {C : Type 0} (sector : C → ℕ) (seals : Seals) (layout : Layout) (before : Worker C)
    (old : State (Keys C)) (of : IsOf sector seals layout before old)
    (runs : SealRuns before.site.atom seals) (atom : before.site.atom ≡ old.map.atom) where
  known : IsAtom before.site.atom
  known = (fits-here sector seals layout before old of).known

  module _ (new : Device) (result : Result (Unit {0}) Failed) (done : ℕ)
      (below : done < count_of before.site) (start : IsPartStart before.site done)
      (tells : TellsPart seals before done) (saves : SavesPart before done old.disk new result)
      (opened moved : Header (List ℕ)) (phase : Phase) (part : Part) where
    abbrev work : Work
    work = at_hand layout before opened moved phase part

    is-text : SavesText seals before.site.atom work done (part_at before.site done)
        (part_in before done) saves.text
    is-text =
        saves-text seals layout before opened moved phase part done saves.text (record {
          known = known;
          start = start;
          within = omega (arith, below);
          room = of.working.room;
          runs = runs;
          blocks = part-blocks sector seals layout before old of done;
          tells = tells;
          saved = saves.is;
        })

    some-saved : 0 < saved_part before.site done
    some-saved =
        saved-some before.site.guard before.site.atom (part_at before.site done) known
        (part-some before.site done (most-atoms before.site.atom known) below)

    call-here : WriteCall before.site.atom (before.site.store + saved_at before.site done)
        saves.text old.disk new result
    call-here =
        subst (λ a. WriteCall a (before.site.store + saved_at before.site done) saves.text old.disk
        new result) (sym (fits-here sector seals layout before old of).size) saves.call

    pub save-step : result ≡ succeeded
        → ZoneStep seals old.map.atom work old.disk new (saving (saved_at before.site done))
        (fetched done (part_in before done))
        (saving (saved_at before.site done + saved_part before.site done))
        (after_saving (count_of before.site) done (part_at before.site done) (part_in before done))
    save-step is =
        subst (λ a. ZoneStep seals a work old.disk new (saving (saved_at before.site done))
        (fetched done (part_in before done))
        (saving (saved_at before.site done + saved_part before.site done))
        (after_saving (count_of before.site) done (part_at before.site done) (part_in before done)))
        atom
        (calls.saves done (part_at before.site done) (part_in before done) saves.text is-text some-saved
        (subst (λ r. WriteCall before.site.atom (before.site.store + saved_at before.site done)
        saves.text old.disk new r) is call-here))

    pub save-fault : result ≡ failed_call
        → StepFails seals old.map.atom work old.disk new (saving (saved_at before.site done))
        (fetched done (part_in before done)) (saving (saved_at before.site done))
    save-fault is =
        subst (λ a. StepFails seals a work old.disk new (saving (saved_at before.site done))
        (fetched done (part_in before done)) (saving (saved_at before.site done))) atom
        (calls.save_fails done (part_at before.site done) (part_in before done) saves.text is-text
        some-saved
        (subst (λ r. WriteCall before.site.atom (before.site.store + saved_at before.site done)
        saves.text old.disk new r) is call-here))

-- ---- a part of which the digests don't tell a block
pub first-clash : {C : Type 0} (seals : Seals) (layout : Layout) (w : Worker C)
    (opened moved : Header (List ℕ)) (phase : Phase) (part : Part) (done block : ℕ)
    (digest : List ℕ) → SealRuns w.site.atom seals
    → AreBlocks w.site.atom (part_at w.site done) (part_in w done)
    → IsClash seals w done block digest
    → IsFirstClash seals w.site.atom (at_hand layout w opened moved phase part) done
    (part_in w done) block digest
first-clash seals layout w opened moved phase part done block digest runs are clash =
    let atom = w.site.atom in
    let first = w.site.blocks.start + done in
    let lowest = clash.lowest in
    let anew : (k : ℕ) → k < part_at w.site done
    → block_at atom (resealed seals first (part_in w done)) k
    ≡ resealed seals (first + k) (block_at atom (part_in w done) k) =
    λ k below. each-resealed atom seals first _ (part_in w done) k runs are below in
    record {
      by_digests = ap kind_of clash.guard;
      count = part_at w.site done;
      size = are.size;
      k = clash.k;
      within = lowest.within;
      is = clash.is;
      inside = (let is = clash.is in let k = lowest.within in omega (arith, is, k));
      old = sym clash.digest_is;
      new = ap (λ b. sha256 (resealed seals b (block_at atom (part_in w done) clash.k))) clash.is
          ∙ sym (ap sha256 (anew clash.k lowest.within)) ∙ sym lowest.same ∙ sym clash.digest_is;
      lower = λ i below same.
          lowest.lowest i below
          (same ∙ sym (ap sha256 (anew i (let k = lowest.within in omega (arith, below, k)))));
    }

-- ---- what comes behind a part that was saved: of the first one; of a later one
module _ {C : Type 0} (seals : Seals) (layout : Layout) (w : Worker C) (headers : Headers)
    (known : IsAtom w.site.atom) where
  abbrev count : ℕ
  count = count_of w.site

  abbrev first-saved : ℕ
  first-saved = saved_at w.site 0 + saved_part w.site 0

  pub behind-first : work_by seals layout (record w { next = after_save w.site 0 headers })
      (after_save w.site 0 headers) None
      ≡ led_by layout w headers (saving first-saved)
      (after_saving count 0 (part_at w.site 0) (part_in w 0))
  unfolding work_by
  behind-first =
      let zero : 0 + part_at w.site 0 ≡ part_at w.site 0 = omega arith in
      go (after_save w.site 0 headers) (part_at w.site 0 == count) refl
      (ap (λ n. cond (n == count) (Keep headers) (Read n headers)) zero)
    where
      go : (now : NextCall) (b : Bool) → (part_at w.site 0 == count) ≡ b
          → after_save w.site 0 headers
          ≡ cond (part_at w.site 0 == count) (Keep headers) (Read (part_at w.site 0) headers)
          → work_by seals layout (record w { next = now }) (after_save w.site 0 headers) None
          ≡ led_by layout w headers (saving first-saved)
          (cond (part_at w.site 0 == count) (fetched 0 (part_in w 0))
          (wanted (part_at w.site 0)))
      go now true is to =
          let zero : 0 + part_at w.site 0 ≡ part_at w.site 0 = omega arith in
          ap (λ n. work_by seals layout (record w { next = now }) n None)
          (to ∙ ap (λ b. cond b (Keep headers) (Read (part_at w.site 0) headers)) is)
          ∙ ap (λ n. led_by layout w headers (saving n)
          (cond (part_at w.site 0 == count) (fetched 0 (part_in w 0)) (wanted 0)))
          (sym (saved-last w.site 0 known (first-start w.site known) (omega arith)
          (zero ∙ eqb-true (part_at w.site 0) count is)))
          ∙ ap (λ b. led_by layout w headers (saving first-saved)
          (cond b (fetched 0 (part_in w 0)) (wanted 0))) is
          ∙ sym (ap (λ b. led_by layout w headers (saving first-saved)
          (cond b (fetched 0 (part_in w 0)) (wanted (part_at w.site 0)))) is)
      go now false is to =
          let zero : 0 + part_at w.site 0 ≡ part_at w.site 0 = omega arith in
          ap (λ n. work_by seals layout (record w { next = now }) n None)
          (to ∙ ap (λ b. cond b (Keep headers) (Read (part_at w.site 0) headers)) is)
          ∙ ap (λ n. led_by layout w headers (saving n) (wanted (part_at w.site 0)))
          (ap (λ n. saved_at w.site n) (sym zero)
          ∙ saved-on w.site 0 known (first-start w.site known) (omega arith)
          (λ e. eqb-false (part_at w.site 0) count is (sym zero ∙ e)))
          ∙ sym (ap (λ b. led_by layout w headers (saving first-saved)
          (cond b (fetched 0 (part_in w 0)) (wanted (part_at w.site 0)))) is)

  abbrev later-saved : ℕ → ℕ
  later-saved done = saved_at w.site done + saved_part w.site done

  pub behind-later : (done : ℕ) → IsPartStart w.site done → 0 < part_at w.site 0
      → part_at w.site 0 ≤ done → done < count
      → work_by seals layout (record w { next = after_save w.site done headers })
      (after_save w.site done headers) None
      ≡ led_by layout w headers (saving (later-saved done))
      (after_saving count done (part_at w.site done) (part_in w done))
  unfolding work_by
  behind-later zero start some far below = absurd (omega (arith, some, far))
  behind-later (suc done) start some far below =
      go (suc done) (after_save w.site (suc done) headers)
      (suc done + part_at w.site (suc done) == count) refl start far below
    where
      go : (n : ℕ) (now : NextCall) (b : Bool) → (n + part_at w.site n == count) ≡ b
          → IsPartStart w.site n → part_at w.site 0 ≤ n → n < count
          → work_by seals layout (record w { next = now }) (after_save w.site n headers) None
          ≡ led_by layout w headers (saving (later-saved n))
          (cond (n + part_at w.site n == count) (wanted 0) (wanted (n + part_at w.site n)))
      go n now true is start from below =
          ap (λ b. work_by seals layout (record w { next = now })
          (cond b (Keep headers) (Read (n + part_at w.site n) headers)) None) is
          ∙ ap (λ k. led_by layout w headers (saving k)
          (cond (part_at w.site 0 == count) (fetched 0 (part_in w 0)) (wanted 0)))
          (sym (saved-last w.site n known start (omega (arith, below))
          (eqb-true (n + part_at w.site n) count is)))
          ∙ ap (λ b. led_by layout w headers (saving (later-saved n))
          (cond b (fetched 0 (part_in w 0)) (wanted 0)))
          (ne_eqb (part_at w.site 0) count (λ e. absurd (omega (arith, e, from, below))))
          ∙ sym (ap (λ b. led_by layout w headers (saving (later-saved n))
          (cond b (wanted 0) (wanted (n + part_at w.site n)))) is)
      go n now false is start from below =
          ap (λ b. work_by seals layout (record w { next = now })
          (cond b (Keep headers) (Read (n + part_at w.site n) headers)) None) is
          ∙ ap (λ k. led_by layout w headers (saving k) (wanted (n + part_at w.site n)))
          (saved-on w.site n known start (omega (arith, below))
          (eqb-false (n + part_at w.site n) count is))
          ∙ sym (ap (λ b. led_by layout w headers (saving (later-saved n))
          (cond b (wanted 0) (wanted (n + part_at w.site n)))) is)
