use Rattle.range_lock.proofs.Standings.{standing-near}
use Rattle.range_lock.proofs.ranked.standing_at.Goals as goal

pub returns : goal.returns
returns c =
    standing-near c.args.sorted.now c.place_for-near.result c.args.entry.now c.args.rank
    c.standing_among.result c.place_for-near.ensures.behind c.standing_among.ensures
