use Rattle.std.proofs.Common.{◌≡◌, true, sym, ap, subst, ◌∙◌}
use Rattle.std.specs.List.{list_any}
use Rattle.range_lock.specs.Locks.{Locks, has_entry}
use Rattle.range_lock.specs.Ranks.{AreInOrder, is_for}
use Rattle.range_lock.proofs.Shown.{has_entry-by_rank}
use Rattle.range_lock.proofs.Standings.{standing-told}
use Rattle.range_lock.proofs.table.Table.ask.Goals as goal

pub place_of-place-requires : goal.place_of-place-requires
place_of-place-requires c =
    ap (list_any (is_for c.args.lane)) c.as_slice-sorted.ensures.value
    ∙ (sym (has_entry-by_rank c.args.lane c.self.inside.sorted.items)
    ∙ subst (λ (t : Locks). has_entry c.args.lane t.entries ≡ true) (sym c.self.view_is) c.requires)

pub standing_at-requires : goal.standing_at-requires
standing_at-requires c =
    subst AreInOrder (sym c.as_slice-sorted.ensures.value) c.self.invariant.2.order

pub returns : goal.returns
returns c =
    rw (← c.self.view_is)
    (standing-told c.args.lane c.self.inside.sorted.items c.as_slice-sorted.result.now
    c.place_of-place.result _ c.standing_at.result c.self.invariant.2 c.as_slice-sorted.ensures.value
    c.place_of-place.ensures.within c.place_of-place.ensures.of_lane c.standing_at.ensures)
