-- Looking for an entry by its name, one after the other.
use Rattle.std.proofs.Common.{◌≡◌, ◌≢◌, ℕ, ◌<◌, ◌++◌, ◌∙◌, Bool, true, false, not, if◌then◌else◌}
use Rattle.std.proofs.Common.{Option, None, List, [], ◌∷◌, length, get_or, take, drop, ap, refl}
use Rattle.std.proofs.Common.{sym}
use Rattle.std.proofs.lemmas.List.{get_or_default}
use Rattle.std.proofs.lemmas.Slice.Eq.{bytes_eq-Decides}
use Rattle.std.proofs.Math.Seq.{drop-cons}
use Rattle.std.specs.Str.{bytes_eq}
use Rattle.std.specs.String.{string_bytes}
use Rattle.std.specs.declared.string.String.{String}
use Rattle.bays.specs.Names.{StandsAt, named, without}

-- where the entries before don't have the name and this one does, it is the first of the name
pub stands_here : {Y X : Type 0} (name : List ℕ) (entries : List (String Y × X)) (i : ℕ)
    (entry : String Y × X) → i < length entries →
    named name entries ≡ named name (drop i entries) →
    without name entries ≡ take i entries ++ without name (drop i entries) →
    bytes_eq (string_bytes (get_or entries i entry).0) name ≡ true → StandsAt name entries i
stands_here {Y = Y} {X = X} name entries i entry within first others is = record {
  within = within;
  first = λ d. first ∙ rw (drop-cons entries i d within, has d) refl;
  others = others ∙ ap (λ rest. take i entries ++ rest)
      (rw (drop-cons entries i entry within, is) refl);
}
  where
    has : (d : String Y × X) → bytes_eq (string_bytes (get_or entries i d).0) name ≡ true
    has d = rw (get_or_default entries i d entry within) is

-- a test that is the negation of another is negated by it
pub not_swapped : (a b : Bool) → a ≡ not b → b ≡ not a
not_swapped a true is = rw is refl
not_swapped a false is = rw is refl

-- an entry that passes neither test is passed over by both
both_differ : (key name other : List ℕ) → other ≢ name → bytes_eq key name ≡ true →
    bytes_eq key other ≡ false
both_differ key name other differ is = by_test (bytes_eq key other) refl
  where
    by_test : (b : Bool) → bytes_eq key other ≡ b → b ≡ false
    by_test true same = absurd
        (differ (sym ((bytes_eq-Decides key other).0 same) ∙ (bytes_eq-Decides key name).0 is))
    by_test false same = refl

named_other_step : {Y X : Type 0} (name other : List ℕ) (entry : String Y × X)
    (entries : List (String Y × X)) → other ≢ name →
    named other (without name entries) ≡ named other entries → (has_name has_other : Bool) →
    bytes_eq (string_bytes entry.0) name ≡ has_name →
    bytes_eq (string_bytes entry.0) other ≡ has_other →
    named other (without name (entry ∷ entries)) ≡ named other (entry ∷ entries)
named_other_step name other entry entries differ rest true has_other is same =
    rw (is, both_differ (string_bytes entry.0) name other differ is) refl
named_other_step name other entry entries differ rest false true is same = rw (is, same) refl
named_other_step name other entry entries differ rest false false is same = rw (is, same) rest

-- without the first thing of one name, another name has the same thing
pub named_other : {Y X : Type 0} (name other : List ℕ) (entries : List (String Y × X)) →
    other ≢ name →
    named other (without name entries) ≡ named other entries
named_other name other [] differ = refl
named_other name other (entry ∷ entries) differ =
    named_other_step name other entry entries differ (named_other name other entries differ) _ _
    refl refl

-- what is told of one address alone is the same of all others
pub others_untold : {T : Type 0} (address mine other : List ℕ) (x y : Option T) →
    bytes_eq address mine ≡ true → other ≢ address →
    (if bytes_eq other mine then x else None) ≡ (if bytes_eq other mine then y else None)
others_untold {T} address mine other x y is differ = by_test (bytes_eq other mine) refl
  where
    by_test : (b : Bool) → bytes_eq other mine ≡ b →
        (if b then x else None) ≡ (if b then y else None)
    by_test true same = absurd
        (differ ((bytes_eq-Decides other mine).0 same ∙ sym ((bytes_eq-Decides address mine).0 is)))
    by_test false same = refl
