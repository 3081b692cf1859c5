-- The digests that were saved of a zone, read from an area that is longer than they are.
use Rattle.std.proofs.Common.{◌≡◌, ◌∙◌, ◌+◌, ◌-◌, ◌*◌, ◌<◌, ◌≤◌, inl, inr, ℕ, zero, suc, ◌++◌, length}
use Rattle.std.proofs.Common.{take, drop, ap, ap₂, arith, refl, sym}
use Rattle.std.proofs.lemmas.Bool.{cases_lt}
use Rattle.crash_laws.specs.HeaderAreas.Areas.{Image, text_from}
use Rattle.sector_disk.specs.DiskViews.Parts.{block_at}
use Rattle.luks_store.proofs.CopyLemmas.{front-part}
use Rattle.image_laws.proofs.Opened.AtomLemmas.{front-text}

-- the text of atoms that are the same
pub same-text : (one other : Image) → ((place : ℕ) → one place ≡ other place) → (start n : ℕ)
    → text_from one start n ≡ text_from other start n
unfolding text_from
same-text one other same start zero = refl
same-text one other same start (suc n) =
    ap₂ (λ a b. a ++ b) (same start) (same-text one other same (suc start) n)

-- a digest that lies in the first atoms is one of a longer text
longer : (atom start n k i : ℕ) (image : Image)
    → ((place : ℕ) → start ≤ place → place < start + n → length (image place) ≡ atom)
    → i * 32 + 32 ≤ n * atom
    → block_at 32 (text_from image start n) i ≡ block_at 32 (text_from image start (n + k)) i
longer atom start n k i image whole fits =
    ap (λ text. take 32 (drop (i * 32) text)) (sym (front-text atom start n k image whole))
    ∙ front-part (n * atom) (i * 32) 32 (text_from image start (n + k)) fits

pub same-digest : (atom start n m i : ℕ) (image : Image)
    → ((place : ℕ) → start ≤ place → place < start + n → length (image place) ≡ atom)
    → i * 32 + 32 ≤ n * atom → i * 32 + 32 ≤ m * atom
    → block_at 32 (text_from image start n) i ≡ block_at 32 (text_from image start m) i
same-digest atom start n m i image whole fits also = elim (cases_lt n m) [
  | inl below ↦
      longer atom start n (m - n) i image whole fits
      ∙ ap (λ c. block_at 32 (text_from image start c) i) (let e : n + (m - n) ≡ m = omega (arith, below) in e)
  | inr far ↦
      sym (longer atom start m (n - m) i image
      (λ place from below. whole place from (omega (arith, below, far))) also
      ∙ ap (λ c. block_at 32 (text_from image start c) i) (let e : m + (n - m) ≡ n = omega (arith, far) in e))
]
