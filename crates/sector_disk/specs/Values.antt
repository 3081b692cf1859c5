-- The current bytes of a disk, as one text, and what reads and writes do to them where they are
-- told.
use Rattle.std.specs.Prelude.{ℕ, ◌≡◌, ◌+◌, ◌*◌, List, length, take, drop, Option, Some, Result}
use Rattle.std.specs.Prelude.{MatchResult, OnOk}
use Rattle.base_terms.specs.declared.failed.Failed.{Failed}
use Rattle.base_terms.specs.Blocks.{pasted}

-- a read that succeeds gives the bytes of its place
abbrev pub Reads : {T : Type 0} → ℕ → ℕ → Option (List ℕ) → List ℕ → Result T Failed → Type 0
Reads atom at values buf result =
    (bytes : List ℕ) → values ≡ Some bytes
    → OnOk result (buf ≡ take (length buf) (drop (at * atom) bytes))

-- two texts differ at most in `len` bytes from `from` on
pub record SameOutside (from len : ℕ) (old new : List ℕ) : Type 0 where
  pub before : take from new ≡ take from old
  pub behind : drop (from + len) new ≡ drop (from + len) old

-- a write that succeeds puts the bytes at their place; one that fails leaves what lies outside of
-- it
abbrev pub Writes : {T : Type 0} → ℕ → ℕ → List ℕ → Option (List ℕ) → Option (List ℕ)
    → Result T Failed → Type 0
Writes atom at body old new result =
    (bytes : List ℕ) → old ≡ Some bytes →
    MatchResult result (λ _. new ≡ Some (pasted bytes (at * atom) body))
    (λ _. (left : List ℕ) × (new ≡ Some left) × SameOutside (at * atom) (length body) bytes left)
