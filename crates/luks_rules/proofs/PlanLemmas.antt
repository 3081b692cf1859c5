-- Live segments that are parts one after another, part by part.
use Rattle.std.proofs.Common.{◌≡◌, ◌∙◌, ◌<◌, ◌≤◌, ◌+◌, ◌&&◌, ℕ, List, [], ◌∷◌, length, get_or, drop}
use Rattle.std.proofs.Common.{drop-cons, add-one, true, false, cond, eqb, sym, ap, refl, arith}
use Rattle.std.proofs.lemmas.Bool.{eq-eqb, ne_eqb, and_left}
use Rattle.std.proofs.lemmas.List.{drop_all}
use Rattle.luks_rules.specs.Plans.{begins, is_nothing, laid_out, rest_of}
use Rattle.luks_rules.specs.Shapes.{numbered}
use Rattle.luks_rules.specs.declared.extents.Extent.{Extent}
use Rattle.luks_rules.specs.declared.plan.Part.{Part}

by_part : (atom : ℕ) (parts : List Part) (i : ℕ) (d : Part) (live : List Extent) → i < length parts
    → laid_out atom (drop i parts) live
    ≡ cond (eqb (get_or parts i d).blocks 0) (laid_out atom (drop (i + 1) parts) live)
    (begins atom (get_or parts i d) live && laid_out atom (drop (i + 1) parts) (rest_of live))
unfolding laid_out
by_part atom parts i d live h = rw (drop-cons parts i d h, add-one) refl

pub part_fails : (atom : ℕ) (parts : List Part) (i : ℕ) (d : Part) (live all : List Extent)
    → i < length parts → ((get_or parts i d).blocks ≡ 0 → ⊥)
    → false ≡ begins atom (get_or parts i d) live
    → laid_out atom (drop i parts) live ≡ laid_out atom parts all → false ≡ laid_out atom parts all
part_fails atom parts i d live all h some never before =
    sym (sym before ∙ by_part atom parts i d live h
    ∙ ap (λ b. cond b (laid_out atom (drop (i + 1) parts) live)
    (begins atom (get_or parts i d) live && laid_out atom (drop (i + 1) parts) (rest_of live)))
    (ne_eqb _ _ some)
    ∙ and_left _ _ (sym never))

pub part_goes : (atom : ℕ) (parts : List Part) (i : ℕ) (d : Part) (live all : List Extent)
    → i < length parts → ((get_or parts i d).blocks ≡ 0 → ⊥)
    → true ≡ begins atom (get_or parts i d) live
    → laid_out atom (drop i parts) live ≡ laid_out atom parts all
    → laid_out atom (drop (i + 1) parts) (rest_of live) ≡ laid_out atom parts all
part_goes atom parts i d live all h some so before =
    sym (by_part atom parts i d live h
    ∙ ap (λ b. cond b (laid_out atom (drop (i + 1) parts) live)
    (begins atom (get_or parts i d) live && laid_out atom (drop (i + 1) parts) (rest_of live)))
    (ne_eqb _ _ some)
    ∙ ap (λ b. b && laid_out atom (drop (i + 1) parts) (rest_of live)) (sym so)) ∙ before

pub part_skips : (atom : ℕ) (parts : List Part) (i : ℕ) (d : Part) (live all : List Extent)
    → i < length parts → (get_or parts i d).blocks ≡ 0
    → laid_out atom (drop i parts) live ≡ laid_out atom parts all
    → laid_out atom (drop (i + 1) parts) live ≡ laid_out atom parts all
part_skips atom parts i d live all h none before =
    sym (by_part atom parts i d live h
    ∙ ap (λ b. cond b (laid_out atom (drop (i + 1) parts) live)
    (begins atom (get_or parts i d) live && laid_out atom (drop (i + 1) parts) (rest_of live)))
    (eq-eqb _ _ none)) ∙ before

nothing : (es : List Extent) → eqb (length es) 0 ≡ is_nothing es
nothing [] = refl
nothing (e ∷ es) = ne_eqb (length (e ∷ es)) 0 (λ h. absurd (omega (arith, h)))

pub parts_end : (atom : ℕ) (parts : List Part) (i : ℕ) (live all : List Extent) → length parts ≤ i
    → laid_out atom (drop i parts) live ≡ laid_out atom parts all
    → eqb (length live) 0 ≡ laid_out atom parts all
unfolding laid_out
parts_end atom parts i live all h before =
    nothing live ∙ sym (ap (λ rest. laid_out atom rest live) (drop_all i parts h)) ∙ before

-- ---- numbers from 0 on
by_number : (es : List Extent) (i n : ℕ) (d : Extent) → i < length es
    → numbered n (drop i es) ≡ (eqb (get_or es i d).number n && numbered (n + 1) (drop (i + 1) es))
unfolding numbered
by_number es i n d h =
    ap (numbered n) (drop-cons es i d h ∙ ap (λ k. get_or es i d ∷ drop k es) (sym (add-one i)))

pub number_fails : (es : List Extent) (i n : ℕ) (d : Extent) → i < length es
    → ((get_or es i d).number ≡ n → ⊥) → numbered n (drop i es) ≡ numbered 0 es
    → false ≡ numbered 0 es
number_fails es i n d h never before =
    sym (sym before ∙ by_number es i n d h ∙ and_left _ _ (ne_eqb _ _ never))

pub number_goes : (es : List Extent) (i n : ℕ) (d : Extent) → i < length es
    → (get_or es i d).number ≡ n → numbered n (drop i es) ≡ numbered 0 es
    → numbered (n + 1) (drop (i + 1) es) ≡ numbered 0 es
number_goes es i n d h is before =
    sym (by_number es i n d h ∙ ap (λ b. b && numbered (n + 1) (drop (i + 1) es)) (eq-eqb _ _ is))
    ∙ before

pub numbers_end : (es : List Extent) (i n : ℕ) → length es ≤ i
    → numbered n (drop i es) ≡ numbered 0 es → true ≡ numbered 0 es
unfolding numbered
numbers_end es i n h before = sym (ap (numbered n) (drop_all i es h)) ∙ before
