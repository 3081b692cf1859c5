use Rattle.std.proofs.Common.{refl}
use Rattle.range_lock.proofs.RankOrder.{after-above, after-upto}
use Rattle.range_lock.proofs.ranked.lower.Goals as goal

pub returns-then-gone-ranked : goal.returns-then-gone-ranked
returns-then-gone-ranked c =
    rw (after-above c.args.gone c.args.ranked.now.rank c.if-gone-ranked.true) refl

pub returns-else-gone-ranked : goal.returns-else-gone-ranked
returns-else-gone-ranked c =
    rw (after-upto c.args.gone c.args.ranked.now.rank c.if-gone-ranked.false) refl
