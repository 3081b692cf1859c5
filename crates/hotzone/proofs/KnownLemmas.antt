-- What is known of a zone goes on from call to call.
use Rattle.std.proofs.Common.{◌≡◌, ◌∙◌, ℕ, ◌+◌, ◌/◌, ◌%◌, ◌<◌, ◌≤◌, ◌==◌, Bool, true, false, List}
use Rattle.std.proofs.Common.{None, refl, sym, ap, subst, arith, cond}
use Rattle.std.proofs.lemmas.Bool.{eqb-false, eqb-true}
use Rattle.cipher_laws.specs.Bytes.{AreSectors}
use Rattle.cipher_laws.specs.Laws.{GivesBytes, KeepsLengths, UndoesSectors}
use Rattle.crash_laws.specs.HeaderAreas.Headers.{Header, Layout}
use Rattle.sector_disk.proofs.DiskViews.Blockwise.{one_block}
use Rattle.sector_disk.specs.DiskViews.Parts.{block_at, AreBlocks}
use Rattle.sector_disk.specs.DiskViews.Views.{View, IsTried, IsWritten}
use Rattle.crash_laws.specs.HotZones.Calls.{TriesPart, ZoneCall}
use Rattle.crash_laws.specs.HotZones.Calls as calls
use Rattle.crash_laws.specs.HotZones.Zones.{Texts, saving, writing}
use Rattle.hotzone.proofs.GuardLemmas.{saved-each, saved-last, saved-on, saved-some, saved-within}
use Rattle.hotzone.proofs.GuardLemmas.{saved_part, tell-on}
use Rattle.hotzone.specs.Known.{AreTexts, AreTold, HoldsPart, TellBy}
use Rattle.hotzone.specs.Known.{halted_in, part_of, phase_in, zone_by}
use Rattle.hotzone.specs.Sites.{IsPartStart, count_of, part_at, saved_at}
use Rattle.hotzone.specs.Steps.{IsSavedText, TellsBy, after_open, after_save, after_write, resealed}
use Rattle.hotzone.specs.declared.site.Site.{Site}
use Rattle.hotzone.specs.declared.worker.Headers.{Headers}
use Rattle.hotzone.specs.declared.worker.NextCall.{NextCall}
use Rattle.hotzone.specs.declared.worker.NextCall.TheVariants.{Begin, ReadFirst, SaveFirst, Read}
use Rattle.hotzone.specs.declared.worker.NextCall.TheVariants.{Save, Keep, Open, ReadAgain, Write}
use Rattle.hotzone.specs.declared.worker.NextCall.TheVariants.{Settle, Move, Finish, End, Wipe, Rest}
use Rattle.hotzone.specs.declared.worker.NextCall.TheVariants.{Over}
use Rattle.hotzone.proofs.CallLemmas.{HasGot}
use Rattle.sector_disk.specs.Geometry.{IsAtom}
use Rattle.segment_map.specs.Maps.{most_bytes}
use Rattle.segment_map.specs.declared.Side.TheVariants.{Old, New}
use Rattle.volume_machine.proofs.KeyLemmas.{whole-blocks}
use Rattle.volume_machine.specs.Seals.{AreLawful, Seals, number_of, seals_of}
use Rattle.volume_machine.specs.declared.keys.Keys.{Keys}

-- ---- the parts of a zone
-- a part has a block, and lies in the zone
pub part-some : (site : Site) (done : ℕ) → 0 < most_bytes / site.atom → done < count_of site
    → 0 < part_at site done
part-some site done most below = omega (arith, most, below)

pub part-fits : (site : Site) (done : ℕ) → done ≤ count_of site
    → done + part_at site done ≤ count_of site
part-fits site done below = omega (arith, below)

-- how far it is behind a part
pub phase-saved : (site : Site) (done : ℕ) (headers : Headers) → IsAtom site.atom
    → IsPartStart site done → done ≤ count_of site
    → phase_in site (after_save site done headers)
    ≡ saving (saved_at site done + saved_part site done)
phase-saved site done headers known start within =
    go (done + part_at site done == count_of site) refl
  where
    go : (b : Bool) → (done + part_at site done == count_of site) ≡ b
        → phase_in site (cond b (Keep headers) (Read (done + part_at site done) headers))
        ≡ saving (saved_at site done + saved_part site done)
    go true is = ap saving (sym (saved-last site done known start within (eqb-true _ _ is)))
    go false is = ap saving (saved-on site done known start within (eqb-false _ _ is))

pub phase-written : (site : Site) (done : ℕ) (headers : Headers)
    → phase_in site (after_write site done headers) ≡ writing (done + part_at site done)
phase-written site done headers = go (done + part_at site done == count_of site) refl
  where
    go : (b : Bool) → (done + part_at site done == count_of site) ≡ b
        → phase_in site (cond b (Settle headers) (ReadAgain (done + part_at site done) headers))
        ≡ writing (done + part_at site done)
    go true is = ap writing (sym (eqb-true _ _ is))
    go false is = refl

pub phase-opened : (site : Site) (headers : Headers)
    → phase_in site (after_open site headers) ≡ writing 0
phase-opened site headers = go (part_at site 0 == count_of site)
  where
    go : (b : Bool) → phase_in site (cond b (Write 0 headers) (ReadAgain 0 headers)) ≡ writing 0
    go true = refl
    go false = refl

-- of one that isn't halted it is that of the next call
pub phase-runs : (site : Site) (next : NextCall) → halted_in site next None ≡ phase_in site next
phase-runs site Begin = refl
phase-runs site ReadFirst = refl
phase-runs site SaveFirst = refl
phase-runs site (Read done headers) = refl
phase-runs site (Save done headers) = refl
phase-runs site (Keep headers) = refl
phase-runs site (Open headers) = refl
phase-runs site (ReadAgain done headers) = refl
phase-runs site (Write done headers) = refl
phase-runs site (Settle headers) = refl
phase-runs site (Move headers) = refl
phase-runs site Finish = refl
phase-runs site (End ending) = refl
phase-runs site (Wipe done ending) = refl
phase-runs site (Rest ending) = refl
phase-runs site (Over ending) = refl

-- ---- sealed anew, each block is so by itself
pub record SealRuns (atom : ℕ) (seals : Seals) : Type 0 where
  pub lawful : AreLawful atom seals
  pub keeps : (block count : ℕ) (bytes : List ℕ) → AreBlocks atom count bytes
      → AreBlocks atom count (seals.sealed New block bytes)
  pub undone : (block count : ℕ) (bytes : List ℕ) → AreBlocks atom count bytes
      → seals.opened New block (seals.sealed New block bytes) ≡ bytes

pub seal-runs : {C : Type 0} (sector : C → ℕ) (seal unseal : C → ℕ → List ℕ → List ℕ)
    (keys : Keys C) (atom : ℕ) → AreLawful atom (seals_of seal unseal atom keys)
    → ((c : C) → KeepsLengths (sector c) (seal c)) → ((c : C) → GivesBytes (sector c) (seal c))
    → ((c : C) → UndoesSectors (sector c) (unseal c) (seal c)) → atom % sector keys.new ≡ 0
    → SealRuns atom (seals_of seal unseal atom keys)
seal-runs sector seal unseal keys atom lawful lengths gives undoes whole = record {
  lawful = lawful;
  keeps = λ block count bytes are. record {
    size = lengths keys.new (number_of keys atom New block) bytes (sectors count bytes are)
        ∙ are.size;
    are_bytes = gives keys.new (number_of keys atom New block) bytes (sectors count bytes are);
  };
  undone = λ block count bytes are.
      undoes keys.new (number_of keys atom New block) bytes (sectors count bytes are);
}
  where
    sectors : (count : ℕ) (bytes : List ℕ) → AreBlocks atom count bytes
        → AreSectors (sector keys.new) bytes
    sectors count bytes are = record {
      whole = subst (λ n. n % sector keys.new ≡ 0) (sym are.size)
          (whole-blocks count atom (sector keys.new) whole);
      are_bytes = are.are_bytes;
    }

pub each-resealed : (atom : ℕ) (seals : Seals) (first count : ℕ) (bytes : List ℕ) (k : ℕ)
    → SealRuns atom seals → AreBlocks atom count bytes → k < count
    → block_at atom (resealed seals first bytes) k
    ≡ resealed seals (first + k) (block_at atom bytes k)
each-resealed atom seals first count bytes k laws are below =
    let plain = seals.opened Old first bytes in
    let new = seals.sealed New first plain in
    let blocks = laws.lawful.keeps_opened Old first count bytes are in
    let sealed = laws.keeps first count plain blocks in
    let one = one_block atom count new k sealed below in
    sym (laws.lawful.seals_opened New (first + k) (block_at atom new k) one)
    ∙ ap (λ p. seals.sealed New (first + k) p)
    (sym (laws.lawful.each_opened New first count new sealed k below)
    ∙ ap (λ p. block_at atom p k) (laws.undone first count plain blocks)
    ∙ laws.lawful.each_opened Old first count bytes are k below)

-- ---- one call of the laws of zones
module _ (seals : Seals) (layout : Layout) (first middle moved : Header (List ℕ)) (texts : Texts)
    (site : Site) (buffer : List ℕ) where
  -- a part that is saved
  pub saves-part : (done : ℕ) (text : List ℕ) (was is : View) → IsAtom site.atom
      → IsPartStart site done → 0 < part_at site done → done ≤ count_of site
      → AreTexts seals site texts → HoldsPart site buffer texts done
      → IsSavedText site.guard site.atom (part_at site done) (part_of site buffer done) text
      → IsWritten site.atom (site.store + saved_at site done) (saved_part site done) text was is
      → ZoneCall site.atom layout (zone_by site first middle moved) texts was is
      (saving (saved_at site done)) (saving (saved_at site done + saved_part site done))
  saves-part done text was is known start some within are part saved call =
      calls.saves (saved_at site done) (saved_part site done) (record {
        some = saved-some site.guard site.atom (part_at site done) known some;
        within = saved-within site done known start within;
        text = text;
        each = λ j below.
            saved-each site done known start within (part_of site buffer done) text texts.old
            part.each saved j below
            ∙ sym (are.saved (saved_at site done + j));
        call = call;
      })

  -- a write of it that failed
  pub tries-save : (done : ℕ) (text : List ℕ) (was is : View) → IsAtom site.atom
      → IsPartStart site done → 0 < part_at site done → done ≤ count_of site
      → AreTexts seals site texts → HoldsPart site buffer texts done
      → IsSavedText site.guard site.atom (part_at site done) (part_of site buffer done) text
      → IsTried site.atom (site.store + saved_at site done) (saved_part site done) text was is
      → TriesPart site.atom (zone_by site first middle moved).store texts.saved
      (saved_at site done) (saved_part site done) was is
  tries-save done text was is known start some within are part saved call = record {
    some = saved-some site.guard site.atom (part_at site done) known some;
    within = saved-within site done known start within;
    text = text;
    each = λ j below.
        saved-each site done known start within (part_of site buffer done) text texts.old
        part.each saved j below
        ∙ sym (are.saved (saved_at site done + j));
    call = call;
  }

  -- a block of a part that is sealed anew
  pub new-block : (done k : ℕ) → SealRuns site.atom seals → HoldsPart site buffer texts done
      → ((i : ℕ) → i < count_of site
      → texts.new i ≡ resealed seals (site.blocks.start + i) (texts.old i))
      → done + part_at site done ≤ count_of site
      → k < part_at site done
      → block_at site.atom
      (resealed seals (site.blocks.start + done) (part_of site buffer done)) k
      ≡ texts.new (done + k)
  new-block done k laws part anew fits below =
      each-resealed site.atom seals (site.blocks.start + done) _ _ k laws part.blocks below
      ∙ ap (λ n. resealed seals n (block_at site.atom (part_of site buffer done) k))
      (let e : site.blocks.start + done + k ≡ site.blocks.start + (done + k) = omega arith in e)
      ∙ ap (λ b. resealed seals (site.blocks.start + (done + k)) b) (part.each k below)
      ∙ sym (anew (done + k) (omega (arith, fits, below)))

  -- a part that is written anew
  pub writes-part : (done : ℕ) (was is : View) → SealRuns site.atom seals → 0 < part_at site done
      → done ≤ count_of site → AreTexts seals site texts → HoldsPart site buffer texts done
      → IsWritten site.atom (site.own + done) (part_at site done)
      (resealed seals (site.blocks.start + done) (part_of site buffer done)) was is
      → ZoneCall site.atom layout (zone_by site first middle moved) texts was is (writing done)
      (writing (done + part_at site done))
  writes-part done was is laws some within are part call =
      let fits = part-fits site done within in
      calls.writes done (part_at site done) (record {
        some = some;
        within = fits;
        text = resealed seals (site.blocks.start + done) (part_of site buffer done);
        each = λ k below. new-block done k laws part are.new fits below;
        call = call;
      })

  -- a write of it that failed
  pub tries-part : (done : ℕ) (was is : View) → SealRuns site.atom seals → 0 < part_at site done
      → done ≤ count_of site → AreTexts seals site texts → HoldsPart site buffer texts done
      → IsTried site.atom (site.own + done) (part_at site done)
      (resealed seals (site.blocks.start + done) (part_of site buffer done)) was is
      → TriesPart site.atom (zone_by site first middle moved).own texts.new done (part_at site done)
      was is
  tries-part done was is laws some within are part call =
      let fits = part-fits site done within in
      record {
        some = some;
        within = fits;
        text = resealed seals (site.blocks.start + done) (part_of site buffer done);
        each = λ k below. new-block done k laws part are.new fits below;
        call = call;
      }

  -- digests tell the blocks of one more part
  pub tells-more : (done : ℕ) → SealRuns site.atom seals → done ≤ count_of site
      → AreTexts seals site texts → HoldsPart site buffer texts done → TellBy site.guard done texts
      → TellsBy site.guard site.atom (part_at site done) (part_of site buffer done)
      (resealed seals (site.blocks.start + done) (part_of site buffer done))
      → TellBy site.guard (done + part_at site done) texts
  tells-more done laws within are part told tells =
      tell-on site.guard site.atom done (part_at site done) texts (part_of site buffer done)
      (resealed seals (site.blocks.start + done) (part_of site buffer done)) told tells part.each
      (λ k below. new-block done k laws part are.new (part-fits site done within) below)

-- so behind it
pub told-saved : (site : Site) (texts : Texts) (done : ℕ) (headers : Headers)
    → TellBy site.guard (done + part_at site done) texts
    → AreTold site texts (after_save site done headers)
told-saved site texts done headers told = go (done + part_at site done == count_of site) refl
  where
    go : (b : Bool) → (done + part_at site done == count_of site) ≡ b
        → AreTold site texts (cond b (Keep headers) (Read (done + part_at site done) headers))
    go true is = subst (λ n. TellBy site.guard n texts) (eqb-true _ _ is) told
    go false is = told

-- ---- a part that was read is the old atoms
pub got-part : (site : Site) (buffer : List ℕ) (texts : Texts) (done : ℕ) (was : View)
    → HasGot site.atom (site.own + done) (part_at site done) (part_of site buffer done) was
    → ((i : ℕ) → done ≤ i → i < count_of site → was.current (site.own + i) ≡ texts.old i)
    → done ≤ count_of site → HoldsPart site buffer texts done
got-part site buffer texts done was got old within =
    let fits = part-fits site done within in
    record {
      blocks = got.blocks;
      each = λ k below. got.each k below
          ∙ ap (λ p. was.current p)
          (let e : site.own + done + k ≡ site.own + (done + k) = omega arith in e)
          ∙ old (done + k) (omega arith) (omega (arith, fits, below));
    }
