-- Lists that begin with one another, and seats of a list that has changed in one place.
use Rattle.std.proofs.Common.{◌≡◌, ℕ, zero, suc, ◌<◌, ◌≤◌, ◌⊎◌, inl, inr, Bool, true, false}
use Rattle.std.proofs.Common.{if◌then◌else◌, List, [], ◌∷◌, ◌++◌, length, get_or, drop, refl, sym}
use Rattle.std.proofs.Common.{ap, ◌∙◌, append_assoc, append-nil, length-append, nat_lt, arith}
use Rattle.std.proofs.lemmas.Bool.{ltb-true, lt-ltb}
use mathlib.Core.Option.{some, some-injective, some-ne-none}
use lib.ListN.{get_elem?}
use Rattle.volume_cell.specs.Histories.{Begins}
use Rattle.volume_cell.specs.Knowing.{longer, shorter}

module _ {X : Type 0} where
  pub begins_same : (xs : List X) → Begins xs xs
  begins_same xs = record { rest = []; is = sym (append-nil xs) }

  pub begins_all : (xs : List X) → Begins [] xs
  begins_all xs = record { rest = xs; is = refl }

  pub begins_more : (xs ys zs : List X) → Begins xs ys → Begins xs (ys ++ zs)
  begins_more xs ys zs b =
      record { rest = b.rest ++ zs; is = ap (λ l. l ++ zs) b.is ∙ append_assoc xs b.rest zs }

  pub begins_through : (xs ys zs : List X) → Begins xs ys → Begins ys zs → Begins xs zs
  begins_through xs ys zs b c =
      record {
        rest = b.rest ++ c.rest;
        is =
            c.is ∙ (ap (λ l. l ++ c.rest) b.is ∙ append_assoc xs b.rest c.rest);
      }

  -- of two beginnings of one list, the shorter begins the longer
  shorter_begins : (xs ys r s : List X) → xs ++ r ≡ ys ++ s → length xs ≤ length ys → Begins xs ys
  shorter_begins [] ys r s e short = begins_all ys
  shorter_begins (x ∷ xs) [] r s e short = absurd (omega arith)
  shorter_begins (x ∷ xs) (y ∷ ys) r s e short =
      let head : x ≡ y = ap (λ l. get_or l 0 x) e in
      let tail = shorter_begins xs ys r s (ap (drop 1) e) (omega arith) in
      record { rest = tail.rest; is = λ i. sym head i ∷ tail.is i }

  pub shorter-of : (xs ys zs : List X) → Begins xs zs → Begins ys zs → length xs ≤ length ys
      → Begins xs ys
  shorter-of xs ys zs b c short = shorter_begins xs ys b.rest c.rest (sym b.is ∙ c.is) short

  less-not : (xs ys : List X) → nat_lt (length xs) (length ys) ≡ false → length xs < length ys → ⊥
  less-not xs ys is l = let t : true ≡ false =
      sym (lt-ltb (length xs) (length ys) l) ∙ is in absurd (cc)

  not-less : (xs ys : List X) → nat_lt (length xs) (length ys) ≡ false → length ys ≤ length xs
  not-less xs ys is = omega (arith, less-not xs ys is)

  -- of the longer of two beginnings of one list
  module _ (xs ys zs : List X) (P : List X → Type 0) where
    choose : (b : Bool) → nat_lt (length xs) (length ys) ≡ b → (Begins ys xs → P xs)
        → (Begins xs ys → P ys) → Begins xs zs → Begins ys zs → P (if b then ys else xs)
    choose true is here there b c =
        there (shorter-of xs ys zs b c
        (let l = ltb-true (length xs) (length ys) is in omega (arith, l)))
    choose false is here there b c = here (shorter-of ys xs zs c b (not-less xs ys is))

    pub either_longer : Begins xs zs → Begins ys zs → (Begins ys xs → P xs) → (Begins xs ys → P ys)
        → P (longer xs ys)
    either_longer b c here there = choose (nat_lt (length xs) (length ys)) refl here there b c

  pub longer_begins : (xs ys zs : List X) → Begins xs zs → Begins ys zs → Begins (longer xs ys) zs
  longer_begins xs ys zs b c = either_longer xs ys zs (λ l. Begins l zs) b c (λ _. b) (λ _. c)

  pub begins_longer : (xs ys zs : List X) → Begins xs zs → Begins ys zs → Begins xs (longer xs ys)
  begins_longer xs ys zs b c =
      either_longer xs ys zs (λ l. Begins xs l) b c (λ _. begins_same xs) (λ d. d)

  pub begins_longer_too : (xs ys zs : List X) → Begins xs zs → Begins ys zs
      → Begins ys (longer xs ys)
  begins_longer_too xs ys zs b c =
      either_longer xs ys zs (λ l. Begins ys l) b c (λ d. d) (λ _. begins_same ys)

  pub shorter_begins-longer : (xs ys zs : List X) → Begins xs zs → Begins ys zs
      → Begins (shorter xs ys) (longer xs ys)
  shorter_begins-longer xs ys zs b c = by (nat_lt (length xs) (length ys)) refl
    where
      by : (less : Bool) → nat_lt (length xs) (length ys) ≡ less
          → Begins (if less then xs else ys) (if less then ys else xs)
      by true is =
          shorter-of xs ys zs b c (let l = ltb-true (length xs) (length ys) is in omega (arith, l))
      by false is = shorter-of ys xs zs c b (not-less xs ys is)

  -- both lists begin the longer one where the shorter does
  pub both_begin : (xs ys : List X) → Begins (shorter xs ys) (longer xs ys)
      → Begins xs (longer xs ys) × Begins ys (longer xs ys)
  both_begin xs ys = by (nat_lt (length xs) (length ys))
    where
      by : (less : Bool) → Begins (if less then xs else ys) (if less then ys else xs)
          → Begins xs (if less then ys else xs) × Begins ys (if less then ys else xs)
      by true b = (b, begins_same ys)
      by false b = (begins_same xs, b)

  -- a place of a list with one more at its end
  pub at_end : (l : List X) (a b : X) (j : ℕ) → get_elem? (l ++ a ∷ []) j ≡ some b
      → (get_elem? l j ≡ some b) ⊎ ((j ≡ length l) × (a ≡ b))
  at_end [] a b zero e = inr (refl, some-injective a b e)
  at_end [] a b (suc j) e = absurd (some-ne-none b (sym e))
  at_end (x ∷ xs) a b zero e = inl e
  at_end (x ∷ xs) a b (suc j) e = after (at_end xs a b j e)
    where
      after : (get_elem? xs j ≡ some b) ⊎ ((j ≡ length xs) × (a ≡ b))
          → (get_elem? xs j ≡ some b) ⊎ ((suc j ≡ length (x ∷ xs)) × (a ≡ b))
      after (inl there) = inl there
      after (inr here) = let n = here.0 in inr (omega arith, here.1)

  -- two lists of which one ends with a single element: either both end there, or the other goes on
  -- within it
  pub ends_alike : (xs ys : List X) (k m : X) (more : List X) → xs ++ k ∷ more ≡ ys ++ m ∷ []
      → ((xs ≡ ys) × (k ≡ m)) ⊎ ((rest : List X) × (ys ≡ xs ++ k ∷ rest))
  ends_alike [] [] k m more e = inl (refl, ap (λ l. get_or l 0 k) e)
  ends_alike [] (y ∷ ys) k m more e = let head : k ≡ y =
      ap (λ l. get_or l 0 k) e in inr (ys, λ i. sym head i ∷ ys)
  ends_alike (x ∷ xs) [] k m more e =
      absurd (let l = ap length e in omega (arith, length-append xs (k ∷ more)))
  ends_alike (x ∷ xs) (y ∷ ys) k m more e = further (ends_alike xs ys k m more (ap (drop 1) e))
    where
      head : x ≡ y
      head = ap (λ l. get_or l 0 x) e

      further : ((xs ≡ ys) × (k ≡ m)) ⊎ ((rest : List X) × (ys ≡ xs ++ k ∷ rest))
          → ((x ∷ xs ≡ y ∷ ys) × (k ≡ m)) ⊎ ((rest : List X) × (y ∷ ys ≡ (x ∷ xs) ++ k ∷ rest))
      further (inl both) = inl ((λ i. head i ∷ both.0 i), both.1)
      further (inr goes) = inr (goes.0, λ i. sym head i ∷ goes.1 i)
