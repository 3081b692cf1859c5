-- Decimal digits as a number.
use Rattle.std.proofs.Common.{◌≡◌, ◌+◌, ◌-◌, ◌*◌, ◌^◌, ◌<◌, ◌≤◌, ℕ, length, Bool, true, false}
use Rattle.std.proofs.Common.{cond, fold, rules, refl, ap, arith, Option, Some, None, option_map}
use Rattle.std.proofs.Common.{[], ◌∷◌, inl, inr, ◌↔◌, ◌==◌, List}
use Rattle.std.proofs.lemmas.Bool.{cases_lt, leb-true, le-leb}
use Rattle.std.proofs.lemmas.Str.Parse.{IsNumeralModel, numerals_by_fold, parse_digits}
use Rattle.std.specs.Prelude.{Result, Ok, Err, IsOk, is_ok}
use Rattle.std.specs.Char.{is_ascii_digit}
use Rattle.std.specs.List.{list_all}
use Rattle.std.specs.Result.{OkIff}
use Rattle.std.specs.Str.Parse.{ParsesUnsigned}
use Rattle.clap.proofs.WalkLemmas.{both}
use Rattle.clap.specs.Walk.{Text}
use Rattle.uuid.specs.Text.{parsed as identifier_of}
use Rattle.command_line.specs.Formats.{identifier_in}
use Rattle.command_line.specs.Values.{is_number, number_of, number_within}

refused_by : {X : Type 0} (b : Bool) (x : X) → (b ≡ true → ⊥) → cond b (Some x) None ≡ None
refused_by true x = λ no. absurd (no refl)
refused_by false x = λ no. refl

own : IsNumeralModel (λ digits. list_all is_ascii_digit digits ≡ true) number_of
own = numerals_by_fold _ (search rules)
    (λ n digits. fold (λ number digit. number * 10 + (digit - 48)) n digits) (search rules)

-- a number is what parsing it gives, unless it has more than 64 bits
pub parsed : {E : Type 0} (word : Text) (r : Result ℕ E) → ParsesUnsigned 64 10 word r →
    is_number word ≡ true → OkIff r ((0 < length word) × (number_of word < 2 ^ 64)) (number_of word)
parsed word r parses number = parse_digits own 64 word r parses (both _ _ (both _ _ number).1).1

-- a number within the bounds, below them and above them
pub inside : (least most : ℕ) (word : Text) → is_number word ≡ true → least ≤ number_of word →
    number_of word ≤ most → number_within least most word ≡ Some (number_of word)
unfolding number_within
inside least most word number low high = rw (number, le-leb _ _ low, le-leb _ _ high) refl

pub below : (least most : ℕ) (word : Text) → number_of word < least →
    number_within least most word ≡ None
unfolding number_within
below least most word low = refused_by _ _ (λ t.
    let high : least ≤ number_of word = leb-true _ _ (both _ _ (both _ _ t).1).0 in omega arith)

pub above : (least most : ℕ) (word : Text) → most < number_of word →
    number_within least most word ≡ None
unfolding number_within
above least most word high = refused_by _ _ (λ t.
    let low : number_of word ≤ most = leb-true _ _ (both _ _ (both _ _ t).1).1 in omega arith)

pub is_some_text : (word : Text) → is_number word ≡ true → 0 < length word
is_some_text [] number = cc
is_some_text (x ∷ xs) number = omega arith

-- what `parse` refuses is too large
pub too_large : {E : Type 0} (least most : ℕ) (word : Text) (r : Result ℕ E) →
    ParsesUnsigned 64 10 word r → is_number word ≡ true → most < 2 ^ 64 →
    ((n : ℕ) → r ≡ Ok n → ⊥) → number_within least most word ≡ None
too_large least most word (Ok n) parses number small none = absurd (none n refl)
too_large least most word (Err e) parses number small none =
    elim (cases_lt most (number_of word)) [
      | inl high ↦ above least most word high
      | inr low ↦
          let fits : number_of word < 2 ^ 64 = omega arith in
          absurd (parsed word (Err e) parses number (is_some_text word number, fits))
    ]

-- the number that `parse` gives
pub same : {E : Type 0} (word : Text) (r : Result ℕ E) (n : ℕ) → ParsesUnsigned 64 10 word r →
    is_number word ≡ true → r ≡ Ok n → n ≡ number_of word
same {E} word (Ok m) n parses number is = let found : m ≡ number_of word =
    (parsed {E = E} word (Ok m) parses number).1 in cc
same {E} word (Err e) n parses number is = search

-- a text that can't be parsed is no identifier
pub no_identifier : {E : Type 0} (word : Text) (r : Result (List ℕ) E) (e : E) →
    (IsOk r ↔ ((u : List ℕ) × (identifier_of word ≡ Some u))) → r ≡ Err e →
    identifier_in (Some word) ≡ None
unfolding identifier_in
no_identifier word r e parses is = by_case (identifier_of word) refl
  where
    no_more : (b : Bool) (o : Option (List ℕ)) → o ≡ None →
        cond b (option_map Some o) None ≡ None
    no_more true o none = ap (option_map Some) none
    no_more false o none = refl

    by_case : (o : Option (List ℕ)) → identifier_of word ≡ o →
        cond (length word == 36) (option_map Some (identifier_of word)) None ≡ None
    by_case None none = no_more (length word == 36) (identifier_of word) none
    by_case (Some u) some =
        absurd (let ok : is_ok r ≡ true = parses.1 (u, some) in
        let no : is_ok r ≡ false = ap is_ok is in cc)
