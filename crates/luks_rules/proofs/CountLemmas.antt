-- Counts of numbers that are listed, each once.
use Rattle.std.proofs.Common.{◌≡◌, ◌∙◌, ◌<◌, ◌+◌, ◌||◌, ℕ, List, length, get_or, take, Bool, true}
use Rattle.std.proofs.Common.{false, cond, eqb, sym, ap, refl, arith}
use Rattle.std.proofs.lemmas.Bool.{eqb-true}
use Rattle.std.proofs.lemmas.List.Folds.{list_any_more}
use Rattle.luks_rules.specs.References.{lists}

abbrev pub bit : Bool → ℕ
bit b = cond b 1 0

joined : (p q : Bool) (before old new : ℕ) → old ≡ before + bit p → (q ≡ true → p ≡ false)
    → new ≡ old + bit q → new ≡ before + bit (p || q)
joined true true before old new was apart now = absurd (both (apart refl))
  where
    both : true ≡ false → ⊥
    both h = cc
joined true false before old new was apart now = omega arith
joined false true before old new was apart now = omega arith
joined false false before old new was apart now = omega arith

same : (p q : Bool) (before old : ℕ) → old ≡ before + bit p → (q ≡ true → p ≡ true)
    → old ≡ before + bit (p || q)
same true q before old was within = was
same false true before old was within = absurd (both (within refl))
  where
    both : false ≡ true → ⊥
    both h = cc
same false false before old was within = was

-- a number that is listed for the first time
pub counted_more : (xs : List ℕ) (i n before old new : ℕ) → i < length xs
    → old ≡ before + bit (lists (take i xs) n) → lists (take i xs) (get_or xs i 0) ≡ false
    → new ≡ old + bit (eqb (get_or xs i 0) n) → new ≡ before + bit (lists (take (i + 1) xs) n)
counted_more xs i n before old new h was first now =
    joined (lists (take i xs) n) (eqb (get_or xs i 0) n) before old new was
    (λ e. ap (lists (take i xs)) (sym (eqb-true (get_or xs i 0) n e)) ∙ first) now
    ∙ ap (λ b. before + bit b) (sym (list_any_more (λ number. eqb number n) xs i 0 h))

-- and one that is listed again
pub counted_again : (xs : List ℕ) (i n before old : ℕ) → i < length xs
    → old ≡ before + bit (lists (take i xs) n) → lists (take i xs) (get_or xs i 0) ≡ true
    → old ≡ before + bit (lists (take (i + 1) xs) n)
counted_again xs i n before old h was again =
    same (lists (take i xs) n) (eqb (get_or xs i 0) n) before old was
    (λ e. ap (lists (take i xs)) (sym (eqb-true (get_or xs i 0) n e)) ∙ again)
    ∙ ap (λ b. before + bit b) (sym (list_any_more (λ number. eqb number n) xs i 0 h))
