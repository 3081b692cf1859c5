-- The first place at which a test passes.
use Rattle.std.proofs.Common.{◌≡◌, ℕ, suc, ◌+◌, ◌<◌, Bool, true, false, ◌||◌, not, cond, List, []}
use Rattle.std.proofs.Common.{◌∷◌, length, Some, None, position, arith, nat_lt}
use Rattle.std.proofs.lemmas.Bool.{lt-ltb}
use Rattle.std.specs.List.{list_any, position_or_len}

step : (here rest : Bool) (n m : ℕ) → (rest ≡ true → n < m) → (here || rest) ≡ true
    → cond (not here) (1 + n) 0 < suc m
step true rest n m below any = omega arith
step false rest n m below any = let lt = below any in omega (arith, lt)

-- where some element passes, the first one is there
pub position_or_len-below : {X : Type 0} (p : X → Bool) (xs : List X) → list_any p xs ≡ true
    → position_or_len p xs < length xs
position_or_len-below p [] any = absurd (cc)
position_or_len-below p (x ∷ xs) any =
    step (p x) (list_any p xs) (position_or_len p xs) (length xs) (position_or_len-below p xs) any

chosen : (here : Bool) (n i : ℕ) → cond here (Some n) None ≡ Some i → i ≡ n
chosen true n i is = cc
chosen false n i is = absurd (cc)

missed : (here : Bool) (n : ℕ) → here ≡ true → cond here (Some n) None ≡ None → ⊥
missed true n is none = cc
missed false n is none = cc

pub position-found : {X : Type 0} (p : X → Bool) (xs : List X) (i : ℕ) → position p xs ≡ Some i
    → i ≡ position_or_len p xs
position-found p xs i is =
    chosen (nat_lt (position_or_len p xs) (length xs)) (position_or_len p xs) i is

pub position-missed : {X : Type 0} (p : X → Bool) (xs : List X) → list_any p xs ≡ true
    → position p xs ≡ None → ⊥
position-missed p xs any none =
    missed (nat_lt (position_or_len p xs) (length xs)) (position_or_len p xs)
    (lt-ltb _ _ (position_or_len-below p xs any)) none
