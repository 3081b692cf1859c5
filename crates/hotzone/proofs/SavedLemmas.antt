-- What is saved of the parts of a zone: how many atoms it has, where they lie, and what they are.
use Rattle.std.proofs.Common.{◌≡◌, ◌∙◌, ℕ, zero, suc, ◌+◌, ◌-◌, ◌*◌, ◌/◌, ◌%◌, ◌<◌, ◌≤◌, min, List}
use Rattle.std.proofs.Common.{◌++◌, length, take, drop, replicate, refl, sym, ap, ap₂, subst, arith}
use Rattle.std.proofs.Common.{inl, inr, length-drop}
use Rattle.std.proofs.Math.Nat.{mul-le-mul_right, mul_assoc}
use Rattle.std.proofs.Math.Seq.{take-add}
use Rattle.std.proofs.lemmas.Bool.{cases_lt}
use Rattle.std.proofs.lemmas.Grind.{div_ceil_times}
use Rattle.std.proofs.lemmas.List.{drop-drop, drop-take, nil_from_length}
use Rattle.std.proofs.lemmas.List.{take-append-drop, take-replicate}
use Rattle.std.specs.Int.{div_ceil}
use Rattle.sector_disk.proofs.DiskViews.Blockwise.{block_at-first, block_at-next, block_at-part, block_end}
use Rattle.sector_disk.proofs.DiskViews.Blockwise.{blocks_end, length-block_at}
use Rattle.sector_disk.specs.DiskViews.Parts.{block_at}
use Rattle.sector_disk.specs.Geometry.{IsAtom}
use Rattle.segment_map.specs.Maps.{most_bytes}
use Rattle.resil_checksum.specs.Digests.{AreSaved, saved_len}
use Rattle.sha2.specs.Sha256.{sha256}
use Rattle.volume_laws.proofs.DigestLemmas.{even_atom}
use Rattle.volume_machine.specs.Saved.{digest_atom, digests, digests_in}

-- ---- by checksum, where atoms have 512 or 4096 bytes
-- Behind a part that begins behind whole ones: its digests lie in atoms of their own, behind which
-- those of the next part begin, or none.
pub record InAtoms (atom first count total : ℕ) : Type 0 where
  pub within : first / (atom / 32) + div_ceil (count * 32) atom ≤ div_ceil (total * 32) atom
  pub last : first + count ≡ total
      → first / (atom / 32) + div_ceil (count * 32) atom ≡ div_ceil (total * 32) atom
  pub on : (first + count ≡ total → ⊥)
      → (first + count) / (atom / 32) ≡ first / (atom / 32) + div_ceil (count * 32) atom
  pub starts : (first + count ≡ total → ⊥) → (first + count) % (most_bytes / atom) ≡ 0
  pub whole : (first + count ≡ total → ⊥) → count ≡ (most_bytes / atom / (atom / 32)) * (atom / 32)
  pub place : first / (atom / 32) * (atom / 32) ≡ first

in-small : (first count total : ℕ) → first % 2048 ≡ 0 → first ≤ total
    → count ≡ min (total - first) 2048 → InAtoms 512 first count total
in-small first count total start below part = record {
  within = omega (arith, start, below, part);
  last = λ ends. omega (arith, start, below, part, ends);
  on = λ far. omega (arith, start, below, part, far);
  starts = λ far. omega (arith, start, below, part, far);
  whole = λ far. omega (arith, start, below, part, far);
  place = omega (arith, start);
}

in-large : (first count total : ℕ) → first % 256 ≡ 0 → first ≤ total
    → count ≡ min (total - first) 256 → InAtoms 4096 first count total
in-large first count total start below part = record {
  within = omega (arith, start, below, part);
  last = λ ends. omega (arith, start, below, part, ends);
  on = λ far. omega (arith, start, below, part, far);
  starts = λ far. omega (arith, start, below, part, far);
  whole = λ far. omega (arith, start, below, part, far);
  place = omega (arith, start);
}

abbrev pub AreInAtoms : ℕ → Type 0
AreInAtoms atom =
    (first count total : ℕ) → first % (most_bytes / atom) ≡ 0 → first ≤ total
    → count ≡ min (total - first) (most_bytes / atom) → InAtoms atom first count total

pub in-atoms : (atom : ℕ) → IsAtom atom → AreInAtoms atom
in-atoms atom (inl is) = subst AreInAtoms (sym is) in-small
in-atoms atom (inr is) = subst AreInAtoms (sym is) in-large

-- ---- digests one behind the other
laid-digests : (old : ℕ → List ℕ) (first n : ℕ) (text : List ℕ)
    → ((k : ℕ) → k < n → block_at 32 text k ≡ sha256 (old (first + k))) → n * 32 ≤ length text
    → take (n * 32) text ≡ digests old first n
unfolding digests
laid-digests old first zero text each room = refl
laid-digests old first (suc n) text each room =
    ap (λ m. take m text) (let e : suc n * 32 ≡ 32 + n * 32 = omega arith in e)
    ∙ take-add 32 (n * 32) text
    ∙ ap₂ (λ one rest. one ++ rest)
    (sym (block_at-first 32 text) ∙ each 0 (omega arith)
    ∙ ap (λ k. sha256 (old k)) (let e : first + 0 ≡ first = omega arith in e))
    (laid-digests old (suc first) n (drop 32 text)
    (λ k below. block_at-next 32 text k ∙ each (suc k) (omega (arith, below))
    ∙ ap (λ j. sha256 (old j)) (let e : first + suc k ≡ suc first + k = omega arith in e))
    (let left = length-drop 32 text in omega (arith, left, room)))

-- ---- an atom of what is saved of a part
module _ (atom first count total : ℕ) (known : IsAtom atom) (here : InAtoms atom first count total)
    (fits : first + count ≤ total) where
  abbrev per : ℕ
  per = atom / 32

  abbrev in_atom : ℕ → ℕ
  in_atom j = digests_in atom total (first / per + j)

  some-atom : 0 < atom
  some-atom = go known
    where
      go : IsAtom atom → 0 < atom
      go (inl is) = omega (arith, is)
      go (inr is) = omega (arith, is)

  -- so many digests come before it in what is saved of the part
  all-before : (j : ℕ) → j * atom ≡ (j * per) * 32
  all-before j = ap (λ a. j * a) (sym (even_atom atom known)) ∙ sym (mul_assoc j per 32)

  place-of : (j : ℕ) → (first / per + j) * per ≡ first + j * per
  place-of j = (let sum = blocks_end per (first / per) j in let p = here.place in omega (arith, sum, p))

  some-before : (j : ℕ) → j < div_ceil (count * 32) atom → j * per < count
  some-before j below =
      let ceil = div_ceil_times (count * 32) atom some-atom in
      let less = ceil.1 in
      let more = mul-le-mul_right atom below in
      let end = block_end atom j in
      let all = all-before j in
      omega (arith, less, more, end, all)

  -- those in it are the part's
  few : (j : ℕ) → j < div_ceil (count * 32) atom → j * per + in_atom j ≤ count
  few j below = elim (cases_lt (first + count) total) [
    | inl far ↦
        let is = here.whole (λ same. omega (arith, far, same)) in
        let before = some-before j below in
        let next : suc j * per ≤ (most_bytes / atom / per) * per =
        mul-le-mul_right per (less_of j (most_bytes / atom / per) (omega (arith, is, before))) in
        let end = block_end per j in
        omega (arith, is, next, end)
    | inr last ↦
        (let place = place-of j in
        let before = some-before j below in omega (arith, last, fits, place, before))
  ]
    where
      less_of : (a b : ℕ) → a * per < b * per → a < b
      less_of a b less = elim (cases_lt a b) [
        | inl is ↦ is
        | inr far ↦ absurd (let more = mul-le-mul_right per far in omega (arith, less, more))
      ]

  -- an atom with room for more is the last one, and has the last ones
  ends : (j : ℕ) → j < div_ceil (count * 32) atom → in_atom j < per → j * per + in_atom j ≡ count
  ends j below room = elim (cases_lt (first + count) total) [
    | inl far ↦ absurd
        (let is = here.whole (λ same. omega (arith, far, same)) in
        let place = place-of j in
        let had = few j below in
        omega (arith, is, place, had, far, room))
    | inr last ↦
        (let place = place-of j in
        let before = some-before j below in omega (arith, last, fits, place, room, before))
  ]

  -- so it holds no digest of another part
  pub atom-of-part : (j : ℕ) → j < div_ceil (count * 32) atom
      → (first ≤ (first / per + j) * per) × ((first / per + j) * per + in_atom j ≤ first + count)
  atom-of-part j below =
      let place = place-of j in
      let had = few j below in (omega (arith, place), omega (arith, place, had))

  module _ (part text : List ℕ) (old : ℕ → List ℕ)
      (each : (k : ℕ) → k < count → block_at atom part k ≡ old (first + k))
      (saved : AreSaved atom count part text) (size : length text ≡ saved_len count atom) where
    part-of : (j : ℕ) → block_at atom text j ≡ take (per * 32) (drop ((j * per) * 32) text)
    part-of j =
        ap (λ a. take a (drop (j * atom) text)) (sym (even_atom atom known))
        ∙ ap (λ n. take (per * 32) (drop n text)) (all-before j)

    long : (j : ℕ) → j < div_ceil (count * 32) atom → length (block_at atom text j) ≡ atom
    long j below =
        length-block_at atom (div_ceil (count * 32) atom) text j below (omega (arith, size))

    front-is : (j : ℕ) → j < div_ceil (count * 32) atom
        → take (in_atom j * 32) (block_at atom text j) ≡ digests old ((first / per + j) * per) (in_atom j)
    front-is j below =
        let room = few j below in
        laid-digests old ((first / per + j) * per) (in_atom j) (block_at atom text j)
        (λ k inside.
        ap (λ xs. block_at 32 xs k) (part-of j)
        ∙ block_at-part 32 (j * per) per text k (omega (arith, inside))
        ∙ saved.digests (j * per + k) (omega (arith, inside, room))
        ∙ ap sha256 (each (j * per + k) (omega (arith, inside, room)))
        ∙ ap (λ i. sha256 (old i))
        (let place = place-of j in
        let e : first + (j * per + k) ≡ (first / per + j) * per + k = omega (arith, place) in e))
        (let size = long j below in let even = even_atom atom known in omega (arith, size, even))

    rest-is : (j : ℕ) → j < div_ceil (count * 32) atom
        → drop (in_atom j * 32) (block_at atom text j) ≡ replicate (atom - in_atom j * 32) 0
    rest-is j below = elim (cases_lt (in_atom j) per) [
      | inl room ↦
          let even = even_atom atom known in
          let last = ends j below room in
          let all = all-before j in
          let m = atom - in_atom j * 32 in
          let split : atom ≡ in_atom j * 32 + m = omega (arith, room, even) in
          let place : j * atom + in_atom j * 32 ≡ count * 32 = omega (arith, last, all) in
          ap (λ a. drop (in_atom j * 32) (take a (drop (j * atom) text))) split
          ∙ drop-take (in_atom j * 32) m (drop (j * atom) text)
          ∙ ap (take m) (drop-drop (in_atom j * 32) (j * atom) text
          ∙ ap (λ n. drop n text) place ∙ saved.zeros)
          ∙ take-replicate m (length text - count * 32) 0
          (let more = mul-le-mul_right atom below in
          let end = block_end atom j in
          omega (arith, more, end, size, place, split))
      | inr full ↦
          let even = even_atom atom known in
          let size = long j below in
          let none : atom - in_atom j * 32 ≡ 0 = omega (arith, full, even) in
          nil_from_length _ (let left = length-drop (in_atom j * 32) (block_at atom text j) in
          omega (arith, left, size, none))
          ∙ sym (ap (λ n. replicate n 0) none)
    ]

    pub saved-digests : (j : ℕ) → j < div_ceil (count * 32) atom
        → block_at atom text j ≡ digest_atom atom total old (first / per + j)
    saved-digests j below =
        sym (take-append-drop (in_atom j * 32) (block_at atom text j))
        ∙ ap₂ (λ xs ys. xs ++ ys) (front-is j below) (rest-is j below)
