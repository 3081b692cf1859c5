use Rattle.std.proofs.Common.{refl, sym, subst, arith}
use Rattle.range_lock.specs.Ranks.{AreKept}
use Rattle.range_lock.proofs.Kept.{kept-none}
use Rattle.range_lock.proofs.Shown.{by_rank-none}
use Rattle.range_lock.proofs.table.Table.with_room.Goals as goal

pub invariant_of-result : goal.invariant_of-result
invariant_of-result c =
    let made = c.in_ok-with_capacity.ensures in (
      omega (arith, made.len),
      omega (arith, made.exact),
      subst AreKept (sym made.items) kept-none,
    )

pub returns : goal.returns
returns c = (refl, by_rank-none _ c.in_ok-with_capacity.ensures.items)
