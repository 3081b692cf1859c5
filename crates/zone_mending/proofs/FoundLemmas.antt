-- By checksum: the digests that were read of a part are those of its old atoms, and what is written
-- of it are its new ones.
use Rattle.std.proofs.Common.{◌≡◌, ◌∙◌, ◌⊎◌, inl, inr, ℕ, ◌+◌, ◌-◌, ◌*◌, ◌/◌, ◌<◌, ◌≤◌}
use Rattle.std.proofs.Common.{List, [], ◌∷◌, ◌++◌, length, true, refl, sym, ap, subst, arith}
use Rattle.std.proofs.Math.Nat.{mul_assoc}
use Rattle.std.proofs.lemmas.Grind.{div_ceil_times}
use Rattle.std.proofs.lemmas.List.Elements.{Contains-push_cases}
use Rattle.std.specs.Int.{div_ceil}
use Rattle.std.specs.Prelude.{Contains}
use Rattle.crash_laws.proofs.HeaderAreas.AreaTexts.{area_at}
use Rattle.crash_laws.proofs.HeaderAreas.AreasShown.{text_certain}
use Rattle.crash_laws.specs.HeaderAreas.Areas.{Area, Image, IsAny, IsWhole, text_from}
use Rattle.crash_laws.specs.HeaderAreas.Headers.{Header, Layout}
use Rattle.sector_disk.proofs.DiskViews.Blockwise.{block_at-drop, block_at-front}
use Rattle.sector_disk.specs.DiskViews.Parts.{AreBlocks, block_at}
use Rattle.sector_disk.specs.DiskViews.Views.{View}
use Rattle.crash_laws.specs.HotZones.Standing.{IsKept}
use Rattle.crash_laws.specs.HotZones.Zones.{Hotzone, Is, Texts, found_by}
use Rattle.hotzone.proofs.KnownLemmas.{SealRuns, new-block}
use Rattle.hotzone.proofs.GuardLemmas.{saved_part}
use Rattle.hotzone.proofs.LawLemmas.{some-atom}
use Rattle.hotzone.proofs.SavedLemmas.{InAtoms, in-atoms}
use Rattle.hotzone.specs.Known.{TellBy, part_of}
use Rattle.hotzone.specs.Sites.{IsPartStart, count_of, kind_of, part_at, saved_at}
use Rattle.hotzone.specs.Sites.{saved_count}
use Rattle.hotzone.specs.Steps.{resealed}
use Rattle.hotzone.specs.declared.site.Guard.{Guard}
use Rattle.hotzone.specs.declared.site.Guard.TheVariants as guards
use Rattle.hotzone.specs.declared.site.Site.{Site}
use Rattle.sector_disk.specs.Geometry.{IsAtom}
use Rattle.segment_map.specs.declared.Side.TheVariants.{Old}
use Rattle.sha2.specs.Sha256.{sha256}
use Rattle.volume_laws.proofs.DigestLemmas.{even_atom}
use Rattle.volume_machine.specs.Saved.{saved_atoms, saved_before, saved_hash}
use Rattle.volume_machine.specs.Seals.{Seals}
use Rattle.zone_mending.specs.Known.{HoldsBy, HoldsDigests}
use Rattle.zone_mending.specs.Steps.{IsAnewBy, digests_of}

-- ---- the digests of a part, from its atoms of the area
-- the text of an area whose atoms are those of a text
one-atom : (x value : List ℕ) → Contains (x ∷ []) value → value ≡ x
one-atom x value has = elim (Contains-push_cases [] x value has) as (λ _. value ≡ x) [
  | inl none ↦ absurd (let below = none.1 in omega (arith, below))
  | inr same ↦ sym same
]

area-text : (atom start many : ℕ) (text : List ℕ) (image : Image) → length text ≡ many * atom
    → ((j : ℕ) → j < many → image (start + j) ≡ block_at atom text j)
    → text_from image start many ≡ text
area-text atom start many text image size each =
    text_certain {broken = true} {view = held} atom (record { start = start; count = many }) text
    IsAny image size (record {
      now = λ is i below. absurd cc;
      left = λ i below value has. one-atom (block_at atom text i) value
          (subst (λ p. Contains (block_at atom text p ∷ []) value)
          (let e : start + i - start ≡ i = omega arith in e) has);
    }) (λ i below. (
      0,
      omega arith,
      ap (λ p. block_at atom text p) (let e : start + i - start ≡ i = omega arith in e)
          ∙ sym (each i below),
    ))
  where
    held : View
    held = record { current = image; candidates = λ place. block_at atom text (place - start) ∷ [] }

digests-read : (atom first count total : ℕ) → IsAtom atom → InAtoms atom first count total
    → (saved : ℕ → List ℕ) → IsWhole atom (div_ceil (total * 32) atom) saved → (text : List ℕ)
    → length text ≡ div_ceil (count * 32) atom * atom
    → ((j : ℕ) → j < div_ceil (count * 32) atom
    → saved (first / (atom / 32) + j) ≡ block_at atom text j)
    → (k : ℕ) → k < count
    → block_at 32 text k ≡ block_at 32 (text_from saved 0 (div_ceil (total * 32) atom)) (first + k)
digests-read atom first count total known here saved whole text size each k below =
    let all = div_ceil (total * 32) atom in
    let many = div_ceil (count * 32) atom in
    let area : Area = record { start = first / (atom / 32); count = many } in
    let behind = text_from saved (area.start + area.count) (all - (area.start + area.count)) in
    let room = (div_ceil_times (count * 32) atom (some-atom atom known)).0 in
    let place : first * 32 ≡ area.start * atom =
    ap (λ n. n * 32) (sym here.place) ∙ mul_assoc (first / (atom / 32)) (atom / 32) 32
    ∙ ap (λ a. first / (atom / 32) * a) (even_atom atom known) in
    sym (block_at-front 32 count text behind k below (omega (arith, room, size)))
    ∙ ap (λ t. block_at 32 (t ++ behind) k) (sym (area-text atom area.start many text saved size each))
    ∙ ap (λ t. block_at 32 t k) (sym (area_at atom all saved area (first * 32) whole here.within place))
    ∙ block_at-drop 32 first (text_from saved 0 all) k

pub holds-digests : (site : Site) (zone : Hotzone (List ℕ)) (digests : List ℕ) (texts : Texts)
    (done : ℕ) → IsAtom site.atom → IsPartStart site done → done ≤ count_of site
    → site.guard ≡ guards.Checksum → zone.own.count ≡ count_of site
    → zone.store.count ≡ saved_count site
    → IsKept (kind_of site.guard) saved_hash zone texts
    → IsWhole site.atom (saved_count site) texts.saved
    → AreBlocks site.atom (saved_part site done) (digests_of site digests done)
    → ((j : ℕ) → j < saved_part site done
    → block_at site.atom (digests_of site digests done) j ≡ texts.saved (saved_at site done + j))
    → HoldsDigests site digests texts done
holds-digests site zone digests texts done known start within by own store kept whole blocks each =
    let count = part_at site done in
    let total = count_of site in
    let all : saved_count site ≡ div_ceil (total * 32) site.atom =
    ap (λ g. saved_atoms (kind_of g) site.atom total) by in
    let many : saved_part site done ≡ div_ceil (count * 32) site.atom =
    ap (λ g. saved_atoms (kind_of g) site.atom count) by in
    let at : saved_at site done ≡ done / (site.atom / 32) =
    ap (λ g. saved_before (kind_of g) site.atom done) by in
    let has = subst (λ g. IsKept (kind_of g) saved_hash zone texts) by kept in
    record {
      each = λ k below.
          digests-read site.atom done count total known
          (in-atoms site.atom known done count total start within refl) texts.saved
          (subst (λ n. IsWhole site.atom n texts.saved) all whole)
          (digests_of site digests done) (blocks.size ∙ ap (λ n. n * site.atom) many)
          (λ j few. ap (λ n. texts.saved (n + j)) (sym at)
          ∙ sym (each j (subst (λ n. j < n) (sym many) few))) k below
          ∙ ap (λ n. block_at 32 (text_from texts.saved 0 n) (done + k)) (sym (store ∙ all))
          ∙ has.are (done + k) (omega (arith, below, within, own));
    }

-- so they tell the old atoms from the new ones
pub tell-by : (g : Guard) (zone : Hotzone (List ℕ)) (texts : Texts)
    → IsKept (kind_of g) saved_hash zone texts → TellBy g zone.own.count texts
tell-by guards.Journal zone texts kept = tt
tell-by guards.Checksum zone texts kept = kept.differ

-- ---- an atom in the zone, as a recovery finds it
pub found-either : (g : Guard) (texts : Texts) (i : ℕ) (value : List ℕ) → g ≡ guards.Checksum
    → Is (found_by (kind_of g)) texts i value → (value ≡ texts.old i) ⊎ (value ≡ texts.new i)
found-either guards.Journal texts i value by is = absurd cc
found-either guards.Checksum texts i value by is = is

-- ---- what is written of a part
module _ (seals : Seals) (layout : Layout) (first middle moved : Header (List ℕ)) (texts : Texts)
    (site : Site) (buffer digests text : List ℕ) (done : ℕ) (runs : SealRuns site.atom seals)
    (anew : (i : ℕ) → i < count_of site
    → texts.new i ≡ resealed seals (site.blocks.start + i) (texts.old i))
    (fits : done + part_at site done ≤ count_of site) where
  abbrev IsText : Guard → Type 0
  IsText g =
      IsAnewBy g seals site.atom (site.blocks.start + done) (part_at site done)
      (digests_of site digests done) (part_of site buffer done) text

  pub anew-block : (g : Guard) (k : ℕ) → IsText g → HoldsBy g site buffer digests texts done
      → TellBy g (count_of site) texts → k < part_at site done
      → block_at site.atom text k ≡ texts.new (done + k)
  anew-block guards.Journal k is part told below =
      ap (λ t. block_at site.atom t k) is
      ∙ new-block seals layout first middle moved texts site buffer done k runs part anew fits below
  anew-block guards.Checksum k is part told below =
      let inside : done + k < count_of site = omega (arith, fits, below) in
      elim (part.each k below) [
        | inl old ↦
            is.old k below (ap sha256 old ∙ sym (part.told.each k below))
            ∙ ap (λ b. resealed seals (site.blocks.start + done + k) b) old
            ∙ ap (λ n. resealed seals n (texts.old (done + k)))
            (let e : site.blocks.start + done + k ≡ site.blocks.start + (done + k) = omega arith in e)
            ∙ sym (anew (done + k) inside)
        | inr new ↦
            is.new k below
            (λ same. told (done + k) inside
            (sym (part.told.each k below) ∙ sym same ∙ ap sha256 new))
            ∙ new
      ]

  pub anew-long : (g : Guard) → IsText g → HoldsBy g site buffer digests texts done
      → length text ≡ part_at site done * site.atom
  anew-long guards.Journal is part =
      let start = site.blocks.start + done in
      ap length is
      ∙ (runs.keeps start _ _ (runs.lawful.keeps_opened Old start _ (part_of site buffer done)
      part.blocks)).size
  anew-long guards.Checksum is part = is.size ∙ part.blocks.size
