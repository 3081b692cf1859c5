use Rattle.std.proofs.Common.{arith}
use Rattle.memory_disks.proofs.ReplayLemmas.{sures_step, sures_end, one_less}
use Rattle.memory_disks.proofs.replay.atoms_of_content.Goals as goal

pub loop-left-preserved : goal.loop-left-preserved
loop-left-preserved c = record {
  made =
      rw (
        c.in_ok-push.ensures.items,
        c.in_ok-new.ensures,
        c.split_at.ensures.front,
        c.split_at.ensures.back,
      )
      (sures_step _ _ _ _ _ c.loop-left.invariant.made c.loop-left-test.true);
  enough =
      let less = one_less c.loop-left.left c.args.atom c.loop-left-test.true in
      omega (arith, c.split_at.ensures.back_len, c.loop-left.invariant.enough);
}

pub returns : goal.returns
returns c = sures_end _ _ _ _ _ c.loop-left.invariant.made (omega arith)
