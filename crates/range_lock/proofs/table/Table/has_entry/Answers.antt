use Rattle.std.proofs.Common.{sym, ap, ◌∙◌}
use Rattle.std.specs.List.{list_any}
use Rattle.range_lock.specs.Ranks.{is_for}
use Rattle.range_lock.proofs.Shown.{has_entry-by_rank}
use Rattle.range_lock.proofs.table.Table.has_entry.Goals as goal

pub returns : goal.returns
returns c =
    rw (← c.self.view_is)
    (c.has_lane.ensures
    ∙ (ap (list_any (is_for c.args.lane)) c.as_slice.ensures.value
    ∙ sym (has_entry-by_rank c.args.lane c.self.inside.sorted.items)))
