-- A list that is overwritten from its front, place by place.
use Rattle.std.proofs.Common.{◌≡◌, ℕ, zero, suc, ◌<◌, List, [], ◌∷◌, ◌++◌, length, take, drop, set}
use Rattle.std.proofs.Common.{get_or, refl, ap, arith}
use Rattle.std.proofs.lemmas.List.{take_all, drop_all, append-nil}

-- the old value at the next place is still there
pub get_or-overwritten : (old new : List ℕ) (i : ℕ) → length new ≡ length old → i < length old
    → get_or (take i new ++ drop i old) i 0 ≡ get_or old i 0
get_or-overwritten [] new i same h = absurd (omega arith)
get_or-overwritten (x ∷ xs) [] i same h = absurd (omega arith)
get_or-overwritten (x ∷ xs) (y ∷ ys) zero same h = refl
get_or-overwritten (x ∷ xs) (y ∷ ys) (suc i) same h =
    get_or-overwritten xs ys i (omega arith) (omega arith)

-- one more place
pub set-overwritten : (old new : List ℕ) (i : ℕ) → length new ≡ length old → i < length old
    → set (take i new ++ drop i old) i (get_or new i 0) ≡ take (suc i) new ++ drop (suc i) old
set-overwritten [] new i same h = absurd (omega arith)
set-overwritten (x ∷ xs) [] i same h = absurd (omega arith)
set-overwritten (x ∷ xs) (y ∷ ys) zero same h = refl
set-overwritten (x ∷ xs) (y ∷ ys) (suc i) same h =
    ap (λ (zs : List ℕ). y ∷ zs) (set-overwritten xs ys i (omega arith) (omega arith))

-- all places
pub overwritten : (old new : List ℕ) (i : ℕ) → length new ≡ length old → i ≡ length old
    → take i new ++ drop i old ≡ new
overwritten old new i same end =
    rw (take_all i new (omega arith), drop_all i old (omega arith), append-nil new)
