use Rattle.std.proofs.Common.{◌≡◌, ◌<◌, true, List, length, get_or, map, sym, subst, ap, ◌∙◌, arith}
use Rattle.std.specs.List.{list_any, remove}
use Rattle.range_lock.specs.Locks.{Locks, has_entry, without}
use Rattle.range_lock.specs.Ranks.{AreKept, by_rank, is_for, lowered}
use Rattle.range_lock.specs.declared.ranked.Ranked.{Ranked}
use Rattle.range_lock.proofs.Kept.{kept-left}
use Rattle.range_lock.proofs.Shown.{has_entry-by_rank, by_rank-left}
use Rattle.range_lock.proofs.table.Table.leave.Goals as goal
use Rattle.range_lock.proofs.table.Table.leave.Goals.{After-close_gap}

pub place_of-place-requires : goal.place_of-place-requires
place_of-place-requires c =
    ap (list_any (is_for c.args.lane)) c.as_slice.ensures.value
    ∙ (sym (has_entry-by_rank c.args.lane c.self.inside.sorted.items)
    ∙ subst (λ (t : Locks). has_entry c.args.lane t.entries ≡ true) (sym c.self.view_is) c.requires)

-- the place is one of them
within : (c : After-close_gap) → c.place_of-place.result < length c.self.inside.sorted.items
within c = subst (λ (l : List Ranked). c.place_of-place.result < length l) c.as_slice.ensures.value
    c.place_of-place.ensures.within

-- what left is the lane's
mine : (c : After-close_gap) → is_for c.args.lane c.remove-left.result ≡ true
mine c =
    let left = c.remove-left.result in
    subst (λ (r : Ranked). is_for c.args.lane r ≡ true)
    (sym (c.remove-left.ensures.value
    ∙ ap (λ (l : List Ranked). get_or l c.place_of-place.result left)
    (sym c.as_slice.ensures.value)))
    (c.place_of-place.ensures.of_lane left)

-- what is left
rest : (c : After-close_gap) → c.close_gap.new.sorted.items
    ≡ map (lowered c.remove-left.result.rank)
    (remove c.self.inside.sorted.items c.place_of-place.result)
rest c = c.close_gap.ensures.items
    ∙ ap (map (lowered c.remove-left.result.rank)) c.remove-left.ensures.items

pub invariant_of-self : goal.invariant_of-self
invariant_of-self c =
    let gone = c.remove-left.ensures in
    let closed = c.close_gap.ensures in
    let was = c.self.invariant in (
      omega (arith, gone.len, closed.len, was.0),
      omega (arith, gone.capacity, closed.capacity, was.1),
      subst AreKept (sym (rest c))
          (kept-left c.self.inside.sorted.items c.place_of-place.result c.remove-left.result was.2
          (within c) gone.value),
    )

pub returns : goal.returns
returns c = record {
  room = ap (λ (t : Locks). t.room) c.self.view_is;
  left = ap by_rank (rest c)
      ∙ (by_rank-left c.args.lane c.self.inside.sorted.items c.place_of-place.result
      c.remove-left.result c.self.invariant.2 (within c) c.remove-left.ensures.value (mine c)
      ∙ ap (λ (t : Locks). without c.args.lane t.entries) c.self.view_is);
}
