use Rattle.std.proofs.Common.{inl, inr, arith}
use Rattle.memory_disks.specs.Images.{added}
use Rattle.memory_disks.proofs.ReplayLemmas.{changed_step, changed_end, one_less}
use Rattle.memory_disks.proofs.replay.add_values.Goals as goal

pub loop-left-preserved : goal.loop-left-preserved
loop-left-preserved c = record {
  changes =
      rw (c.in_ok-add.ensures, c.split_at.ensures.front, c.split_at.ensures.back)
      (changed_step (added c.args.is_current) c.loop-left.cells c.loop-left.place c.args.atom
      c.loop-left.left
      c.loop-left.rest.now _ c.index-cells-place.result
      c.if-place-cells.true c.loop-left-test.true c.loop-left.invariant.changes);
  enough =
      let less = one_less c.loop-left.left c.args.atom c.loop-left-test.true in
      omega (arith, c.split_at.ensures.back_len, c.loop-left.invariant.enough);
}

pub returns-else-place-cells : goal.returns-else-place-cells
returns-else-place-cells c =
    changed_end _ _ _ _ _ _ _ c.loop-left.invariant.changes (inr (omega arith))

pub returns-after-loop-left : goal.returns-after-loop-left
returns-after-loop-left c =
    changed_end _ _ _ _ _ _ _ c.loop-left.invariant.changes (inl (omega arith))
