use Rattle.std.proofs.Common.{◌≡◌, List, subst, ◌∙◌, ap, rules}
use Rattle.std.proofs.lemmas.List.Elements.{filter_from_retain}
use Rattle.std.proofs.lemmas.List.Sorted.{IsNonDecreasingBy-from_sort_by_key}
use Rattle.std.specs.List.{filter}
use Rattle.std.specs.List.Sorted.{IsPermutation}
use Rattle.luks_slots.specs.Gaps.{taken}
use Rattle.luks_rules.specs.Overlaps.{has_bytes}
use Rattle.luks_rules.specs.declared.areas.Area.{Area}
use Rattle.luks_slots.proofs.gap.areas_in_order.Goals as goal

pub returns : goal.returns
returns c =
    let all : c.extend_from_slice.new.self.items ≡ taken c.args.parts.now c.args.besides.now =
    search rules in
    record {
      same = subst (λ (areas : List Area). IsPermutation areas c.sort_by_key.new.self.items)
          (filter_from_retain _ has_bytes (λ p x b q k. search rules) _ _ _
          c.retain.ensures.filtered
          ∙ ap (filter has_bytes) all)
          c.sort_by_key.ensures.permutation;
      rising =
          IsNonDecreasingBy-from_sort_by_key (λ a. a.offset) _ c.in_ok-sort_by_key.ensures.sorted
          (λ a r q k. search rules);
    }
