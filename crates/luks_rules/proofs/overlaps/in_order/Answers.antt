use Rattle.std.proofs.Common.{List, subst, rules}
use Rattle.std.specs.List.Sorted.{IsPermutation}
use Rattle.std.proofs.lemmas.List.Sorted.{IsNonDecreasingBy-from_sort_by_key}
use Rattle.luks_rules.specs.declared.areas.Area.{Area}
use Rattle.luks_rules.proofs.overlaps.in_order.Goals as goal

pub returns : goal.returns
returns c = record {
  same = subst (λ (areas : List Area). IsPermutation areas c.sort_by_key.new.self.items)
      c.in_ok-sorted.ensures c.sort_by_key.ensures.permutation;
  rising =
      IsNonDecreasingBy-from_sort_by_key (λ a. a.offset) _ c.in_ok-sort_by_key.ensures.sorted
      (λ a r q k. search rules);
}
