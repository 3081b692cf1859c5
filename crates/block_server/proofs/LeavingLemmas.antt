-- Sessions that left a port without an answer.
use Rattle.std.proofs.Common.{◌≡◌, ◌≢◌, ◌⊎◌, inl, inr, ℕ, List, [], ◌∷◌, ◌++◌, Option, Some, None, refl}
use Rattle.std.proofs.Common.{◌∙◌, ap, sym}
use Rattle.block_server.specs.Sessions.{HasNumber, LeavesBy, Played}

pub HasNumber-first : (n : ℕ) (xs ys : List Played) → HasNumber n xs → HasNumber n (xs ++ ys)
unfolding HasNumber
HasNumber-first n [] ys has = absurd has
HasNumber-first n (x ∷ xs) ys (inl is) = inl is
HasNumber-first n (x ∷ xs) ys (inr among) = inr (HasNumber-first n xs ys among)

pub HasNumber-rest : (n : ℕ) (xs ys : List Played) → HasNumber n ys → HasNumber n (xs ++ ys)
unfolding HasNumber
HasNumber-rest n [] ys has = has
HasNumber-rest n (x ∷ xs) ys has = inr (HasNumber-rest n xs ys has)

HasNumber-own : (one : Played) → HasNumber one.end.number (one ∷ [])
unfolding HasNumber
HasNumber-own one = inl refl

pub leaves-same : (played : List Played) (was is : Option ℕ) → is ≡ was → LeavesBy played was is
leaves-same played was is same = inl same

-- one session
pub leaves-one : (one : Played) (number : ℕ) (was mid is : Option ℕ) → one.end.number ≡ number
    → mid ≡ was → (is ≡ mid) ⊎ ((mid ≡ None) × (is ≡ Some number))
    → LeavesBy (one ∷ []) was is
leaves-one one number was mid is own begun (inl same) = inl (same ∙ begun)
leaves-one one number was mid is own begun (inr by) = inr (
  sym begun ∙ by.0,
  (one.end.number, by.1 ∙ ap (λ n. Some n) (sym own), HasNumber-own one),
)

some-is_left : {was is : Option ℕ} → was ≢ None → is ≡ was → is ≢ None
some-is_left left same = λ none. left (sym same ∙ none)

-- what was left is left
pub still-left : (played : List Played) (was is : Option ℕ) → LeavesBy played was is → was ≢ None
    → is ≢ None
still-left played was is (inl same) left = some-is_left left same
still-left played was is (inr by) left = absurd (left by.0)

-- first some sessions, and then others
pub leaves-joined : (xs ys : List Played) (a b c : Option ℕ) → LeavesBy xs a b → LeavesBy ys b c
    → LeavesBy (xs ++ ys) a c
leaves-joined xs ys a b c (inl one) (inl two) = inl (two ∙ one)
leaves-joined xs ys a b c (inl one) (inr two) = inr (
  sym one ∙ two.0,
  (two.1.0, two.1.1, HasNumber-rest two.1.0 xs ys two.1.2),
)
leaves-joined xs ys a b c (inr one) (inl two) = inr (
  one.0,
  (one.1.0, two ∙ one.1.1, HasNumber-first one.1.0 xs ys one.1.2),
)
leaves-joined xs ys a b c (inr one) (inr two) =
    absurd (none-some one.1.0 (sym two.0 ∙ one.1.1))
  where
    none-some : (n : ℕ) → None ≡ Some n → ⊥
    none-some n same = cc
