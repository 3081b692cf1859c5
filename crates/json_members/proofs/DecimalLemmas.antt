use Rattle.std.proofs.Common.{◌≡◌, ℕ, ◌^◌, ◌<◌, List, Bool, true, false, cond, ◌&&◌, nat_lt, Some}
use Rattle.std.proofs.Common.{None, Result, Ok, codes, bytes_eq, decimal, refl, sym, ap, subst, ◌∙◌}
use Rattle.std.proofs.Common.{arith}
use Rattle.std.proofs.lemmas.Bool.{ltb-true}
use Rattle.std.proofs.lemmas.Slice.Eq.{bytes_eq-Decides}
use Rattle.std.proofs.lemmas.Fmt.{decimal_is_IsNumeral, parse-decimal}
use Rattle.std.specs.Str.Parse.{digits_value, AllDigits, ParsesUnsigned}
use Rattle.json_members.specs.Decimals.{number_of}

-- ---- a value under a test
pub refused_from : {X : Type 0} (b : Bool) (x : X) → (b ≡ true → ⊥) → cond b (Some x) None ≡ None
refused_from true x h = absurd (h refl)
refused_from false x h = refl

pub taken_from : {X : Type 0} (b : Bool) (x : X) → b ≡ true → cond b (Some x) None ≡ Some x
taken_from true x h = refl
taken_from false x h = cc

pub chosen_from : {X : Type 0} (b : Bool) (x y : X) → cond b (Some x) None ≡ Some y
    → (b ≡ true) × (x ≡ y)
chosen_from true x y h = (refl, cc)
chosen_from false x y h = cc

pub both : (a b : Bool) → a && b ≡ true → (a ≡ true) × (b ≡ true)
both true true h = (refl, refl)
both true false h = cc
both false b h = cc

pub all : (a b : Bool) → a ≡ true → b ≡ true → a && b ≡ true
all true true p q = refl
all true false p q = q
all false b p q = p

-- a text that is the decimal form of no number
pub number_of-None : (text : List ℕ) → ((n : ℕ) → n < 2 ^ 64 → text ≡ decimal n → ⊥)
    → number_of text ≡ None
unfolding number_of
number_of-None text h = refused_from _ _ (λ b.
    let t = both _ _ b in
    h (digits_value 10 text) (ltb-true _ _ t.0) (sym ((bytes_eq-Decides _ _).0 t.1)))

small-true : (n : ℕ) → n < 2 ^ 64 → nat_lt n (2 ^ 64) ≡ true
small-true n small = grind arith

-- the decimal form of a number
pub number_of-decimal : (n : ℕ) → n < 2 ^ 64 → number_of (decimal n) ≡ Some n
unfolding number_of
number_of-decimal n small =
    let v : digits_value 10 (decimal n) ≡ n = (decimal_is_IsNumeral n small).1 in
    taken_from _ _
    (all _ _ (small-true _ (subst (λ (m : ℕ). m < 2 ^ 64) (sym v) small))
    ((bytes_eq-Decides _ _).1 (ap decimal v))) ∙ ap Some v

-- a parsed text that another parse would have given
pub number_of-apart : {E : Type 0} (text : List ℕ) (r : Result ℕ E) → ParsesUnsigned 64 10 text r
    → ((n : ℕ) → r ≡ Ok n → text ≡ decimal n → ⊥) → number_of text ≡ None
number_of-apart text r parsed h =
    number_of-None text (λ n small is. h n (parse-decimal 64 n text r small small is parsed) is)

differ : (xs ys : List ℕ) (b : Bool) → bytes_eq xs ys ≡ b → (xs ≡ ys → ⊥) → b ≡ false
differ xs ys true e other = absurd (other ((bytes_eq-Decides xs ys).0 e))
differ xs ys false e other = refl

-- a number is no word
pub decimal-dynamic : (n : ℕ) → n < 2 ^ 64 → bytes_eq (decimal n) (codes "dynamic") ≡ false
decimal-dynamic n small =
    differ (decimal n) (codes "dynamic") _ refl
    (λ same. omega (arith, (subst (AllDigits 10) same (decimal_is_IsNumeral n small).0.1).0))

-- a text that is a number's is its decimal form
pub number_of-exact : (text : List ℕ) (n : ℕ) → number_of text ≡ Some n
    → (n < 2 ^ 64) × (text ≡ decimal n)
unfolding number_of
number_of-exact text n h =
    let t = chosen_from _ _ _ h in
    let b = both _ _ t.0 in (
      subst (λ (m : ℕ). m < 2 ^ 64) t.1 (ltb-true _ _ b.0),
      sym ((bytes_eq-Decides _ _).0 b.1) ∙ ap decimal t.1,
    )
