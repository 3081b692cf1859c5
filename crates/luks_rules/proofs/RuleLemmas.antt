-- The first of some rules' faults, and then of further ones.
use Rattle.std.proofs.Common.{◌≡◌, ◌∙◌, List, [], ◌∷◌, ◌++◌, Option, Some, None, refl, sym, ap}
use Rattle.base_terms.specs.declared.disk_sizes.Sizes.{Sizes}
use Rattle.luks_meta.specs.declared.meta.Parts.{Parts}
use Rattle.luks_rules.specs.Rules.{first_or, first_of, first_fault, rules_of_places, rules_of_sizes}
use Rattle.luks_rules.specs.Rules.{rules_of_conversion}
use Rattle.luks_rules.specs.declared.fault.RuleFault.{RuleFault}

first_of-append : (xs ys : List (Option RuleFault))
    → first_of (xs ++ ys) ≡ first_or (first_of xs) (first_of ys)
first_of-append [] ys = refl
first_of-append (None ∷ xs) ys = first_of-append xs ys
first_of-append (Some f ∷ xs) ys = refl

pub by_groups : (m : Parts) (sizes : Sizes)
    → first_fault m sizes
    ≡ first_or (first_or (first_of (rules_of_places m sizes)) (first_of (rules_of_sizes m sizes)))
    (first_of (rules_of_conversion m sizes))
unfolding first_fault
by_groups m sizes =
    first_of-append (rules_of_places m sizes ++ rules_of_sizes m sizes)
    (rules_of_conversion m sizes)
    ∙ ap (λ f. first_or f (first_of (rules_of_conversion m sizes)))
    (first_of-append (rules_of_places m sizes) (rules_of_sizes m sizes))

pub at_places : (m : Parts) (sizes : Sizes) (f : RuleFault)
    → Some f ≡ first_of (rules_of_places m sizes) → first_fault m sizes ≡ Some f
at_places m sizes f here =
    by_groups m sizes
    ∙ ap (λ p. first_or (first_or p (first_of (rules_of_sizes m sizes)))
    (first_of (rules_of_conversion m sizes))) (sym here)

pub at_sizes : (m : Parts) (sizes : Sizes) (f : RuleFault)
    → None ≡ first_of (rules_of_places m sizes) → Some f ≡ first_of (rules_of_sizes m sizes)
    → first_fault m sizes ≡ Some f
at_sizes m sizes f places here =
    by_groups m sizes
    ∙ ap (λ p. first_or (first_or p (first_of (rules_of_sizes m sizes)))
    (first_of (rules_of_conversion m sizes))) (sym places)
    ∙ ap (λ p. first_or p (first_of (rules_of_conversion m sizes))) (sym here)

-- none of the first two groups: what the third says
pub at_conversion : (m : Parts) (sizes : Sizes) (f : Option RuleFault)
    → None ≡ first_of (rules_of_places m sizes) → None ≡ first_of (rules_of_sizes m sizes)
    → f ≡ first_of (rules_of_conversion m sizes)
    → first_fault m sizes ≡ f
at_conversion m sizes f places at here =
    by_groups m sizes
    ∙ ap (λ p. first_or (first_or p (first_of (rules_of_sizes m sizes)))
    (first_of (rules_of_conversion m sizes))) (sym places)
    ∙ ap (λ p. first_or p (first_of (rules_of_conversion m sizes))) (sym at) ∙ sym here
