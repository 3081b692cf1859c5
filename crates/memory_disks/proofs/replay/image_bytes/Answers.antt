use Rattle.std.proofs.Common.{arith}
use Rattle.memory_disks.proofs.ReplayLemmas.{image_step, image_end}
use Rattle.memory_disks.proofs.replay.image_bytes.Goals as goal

pub loop-i-preserved : goal.loop-i-preserved
loop-i-preserved c =
    let step = image_step c.args.choice.now c.args.cells.now c.loop-i.i c.index-cells-i.result
    c.loop-i.bytes.items _ c.loop-i-test.true c.loop-i.invariant in
    rw (
      c.in_ok-extend_from_slice.ensures.items,
      c.candidate.ensures,
      c.place_in-place.ensures.place,
      c.count.ensures.count,
      c.index-cells-i.is,
    ) step

pub returns : goal.returns
returns c = image_end _ _ _ _ _ (omega arith) c.loop-i.invariant
