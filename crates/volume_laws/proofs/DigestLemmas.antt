-- The digests that are saved of a zone's atoms, as they are found in the text of their area.
use Rattle.std.proofs.Common.{List, ap, arith, inl, inr, length, length-append, refl, replicate}
use Rattle.std.proofs.Common.{suc, sym, zero, ℕ, ◌*◌, ◌++◌, ◌+◌, ◌-◌, ◌<◌, ◌∙◌, ◌≡◌, ◌≤◌}
use Rattle.std.proofs.lemmas.Bool.{cases_lt}
use Rattle.std.proofs.lemmas.List.{length-replicate}
use Rattle.sector_disk.specs.DiskViews.Parts.{block_at}
use Rattle.std.proofs.Math.Nat.{le-min, min-le_left, mul_assoc}
use Rattle.std.specs.Prelude.{◌/◌}
use Rattle.crash_laws.specs.HeaderAreas.Areas.{text_from}
use Rattle.sector_disk.proofs.DiskViews.Blockwise.{block_at-behind, block_at-front, block_at-one, block_end}
use Rattle.sector_disk.specs.Geometry.{IsAtom}
use Rattle.sha2.proofs.Facts256.{length-sha256}
use Rattle.sha2.specs.Sha256.{sha256}
use Rattle.volume_machine.specs.Saved.{digest_atom, digests, digests_in}

-- an atom has room for whole digests
pub even_atom : (atom : ℕ) → IsAtom atom → (atom / 32) * 32 ≡ atom
even_atom atom (inl is) = rw is refl
even_atom atom (inr is) = rw is refl

no_more : (a b : ℕ) → a ≡ b → b ≤ a
no_more a b same = omega (arith, same)

-- ---- digests one behind the other
length-digests : (old : ℕ → List ℕ) (first n : ℕ) → length (digests old first n) ≡ n * 32
unfolding digests
length-digests old first zero = refl
length-digests old first (suc n) =
    length-append (sha256 (old first)) (digests old (suc first) n)
    ∙ (let one = length-sha256 (old first) in let rest = length-digests old (suc first) n in
    omega (arith, one, rest))

digest_among : (old : ℕ → List ℕ) (first n r : ℕ) → r < n
    → block_at 32 (digests old first n) r ≡ sha256 (old (first + r))
unfolding digests
digest_among old first zero r below = absurd (omega (arith, below))
digest_among old first (suc n) zero below =
    let one = length-sha256 (old first) in
    block_at-front 32 1 (sha256 (old first)) (digests old (suc first) n) 0 (omega arith)
    (omega (arith, one))
    ∙ block_at-one 32 (sha256 (old first)) (omega (arith, one))
    ∙ ap (λ k. sha256 (old k)) (let e : first ≡ first + 0 = omega arith in e)
digest_among old first (suc n) (suc r) below =
    let one = length-sha256 (old first) in
    ap (λ k. block_at 32 (sha256 (old first) ++ digests old (suc first) n) k)
    (let e : suc r ≡ 1 + r = omega arith in e)
    ∙ block_at-behind 32 1 (sha256 (old first)) (digests old (suc first) n) r (omega (arith, one))
    ∙ digest_among old (suc first) n r (omega (arith, below))
    ∙ ap (λ k. sha256 (old k)) (let e : suc first + r ≡ first + suc r = omega arith in e)

-- ---- in atoms
sum_to : (n per atom front behind total : ℕ) → total ≡ front + behind → front ≡ n * 32
    → behind ≡ atom - n * 32 → n ≤ per → per * 32 ≡ atom → total ≡ atom
sum_to n per atom front behind total sum first rest few even =
    omega (arith, sum, first, rest, few, even)

module _ (atom count : ℕ) (old : ℕ → List ℕ) (even : (atom / 32) * 32 ≡ atom) where
  length-digest_atom : (j : ℕ) → length (digest_atom atom count old j) ≡ atom
  length-digest_atom j =
      let n = digests_in atom count j in
      sum_to n (atom / 32) atom _ _ _
      (length-append (digests old (j * (atom / 32)) n) (replicate (atom - n * 32) 0))
      (length-digests old (j * (atom / 32)) n) (length-replicate (atom - n * 32) 0)
      (min-le_left (atom / 32) (count - j * (atom / 32))) even

  digest_in : (j r : ℕ) → r < digests_in atom count j
      → block_at 32 (digest_atom atom count old j) r ≡ sha256 (old (j * (atom / 32) + r))
  digest_in j r below =
      let n = digests_in atom count j in
      block_at-front 32 n (digests old (j * (atom / 32)) n) (replicate (atom - n * 32) 0) r below
      (no_more _ _ (length-digests old (j * (atom / 32)) n))
      ∙ digest_among old (j * (atom / 32)) n r below

  -- behind the first atoms of the area
  told_at : (saved : ℕ → List ℕ) → ((j : ℕ) → saved j ≡ digest_atom atom count old j)
      → (from n i : ℕ) → i < n * (atom / 32) → from * (atom / 32) + i < count
      → block_at 32 (text_from saved from n) i ≡ sha256 (old (from * (atom / 32) + i))
  unfolding text_from
  told_at saved are from zero i below inside = absurd (omega (arith, below))
  told_at saved are from (suc n) i below inside =
      let size : length (saved from) ≡ (atom / 32) * 32 =
      ap (λ text. length text) (are from) ∙ length-digest_atom from ∙ sym even in
      elim (cases_lt i (atom / 32)) [
        | inl here ↦
            block_at-front 32 (atom / 32) (saved from) (text_from saved (suc from) n) i here
            (no_more _ _ size)
            ∙ ap (λ text. block_at 32 text i) (are from)
            ∙ digest_in from i (le-min here (omega (arith, inside)))
        | inr behind ↦
            ap (λ k. block_at 32 (saved from ++ text_from saved (suc from) n) k)
            (let e : i ≡ (atom / 32) + (i - (atom / 32)) = omega (arith, behind) in e)
            ∙ block_at-behind 32 (atom / 32) (saved from) (text_from saved (suc from) n)
            (i - (atom / 32)) size
            ∙ told_at saved are (suc from) n (i - (atom / 32))
            (omega (arith, below, behind, block_end (atom / 32) n))
            (omega (arith, inside, behind, block_end (atom / 32) from))
            ∙ ap (λ k. sha256 (old k)) (let e : suc from * (atom / 32) + (i - (atom / 32))
            ≡ from * (atom / 32) + i = omega (arith, behind, block_end (atom / 32) from) in e)
      ]

  -- each digest in an area that has room for all
  pub digests_told : (saved : ℕ → List ℕ) → ((j : ℕ) → saved j ≡ digest_atom atom count old j)
      → (n i : ℕ) → count * 32 ≤ n * atom → i < count
      → block_at 32 (text_from saved 0 n) i ≡ sha256 (old i)
  digests_told saved are n i room below =
      let all : n * atom ≡ (n * (atom / 32)) * 32 =
      ap (λ a. n * a) (sym even) ∙ sym (mul_assoc n (atom / 32) 32) in
      told_at saved are 0 n i (omega (arith, room, below, all)) (omega (arith, below))
      ∙ ap (λ k. sha256 (old k)) (let e : 0 * (atom / 32) + i ≡ i = omega arith in e)
