use Rattle.std.proofs.Common.{◌<◌, ◌≤◌, ltb, rules}
use Rattle.std.proofs.lemmas.Bool.{ltb-true, ltb-false}
use Rattle.std.proofs.lemmas.List.Sorted.{IsPartitionPoint-from_clause, IsPartitionedBy-ltb}
use Rattle.range_lock.proofs.Kept.{starts-rise}
use Rattle.range_lock.proofs.Lists.{all-below, all-behind}
use Rattle.range_lock.specs.declared.ranked.Ranked.{Ranked}
use Rattle.range_lock.proofs.ranked.place_for.Goals as goal

pub returns : goal.returns
returns c =
    let items = c.args.sorted.now in
    let block = c.args.block in
    let parted = IsPartitionedBy-ltb (λ (r : Ranked). r.entry.range.start) items block
    (starts-rise items c.requires) in
    let point = IsPartitionPoint-from_clause (λ (r : Ranked). ltb r.entry.range.start block) _ _
    c.partition_point.ensures.partitioned parted (λ a r q k. search rules) in
    record {
      within = c.partition_point.ensures.bound;
      before = all-below (λ (r : Ranked). r.entry.range.start < block) c.partition_point.result items
          c.partition_point.ensures.bound
          (λ k d low high. ltb-true _ _ (point.0 k d low high));
      behind = all-behind (λ (r : Ranked). block ≤ r.entry.range.start) c.partition_point.result
          items (λ k d low high. ltb-false _ _ (point.1 k d low high));
    }
