use Rattle.std.proofs.Common.{ap}
use Rattle.sector_disk.specs.JoinedDisks.Counts.{joint_in}
use Rattle.sector_disk.specs.JoinedDisks.Joined.{in_front}
use Rattle.resume_disk.proofs.RunLemmas.{finished_by, same_blocks, unfinished_by}
use Rattle.resume_disk.proofs.resuming.resume_conversion.Goals as goal

-- its worker ended by Finished
pub returns-in-Ok-clause-finished : goal.returns-in-Ok-clause-finished
returns-in-Ok-clause-finished g c =
    let back = c.into_disk.result in
    finished_by _ _ _ g.D.Disk.device c.args.disk c.args.pass.now c.in-Ok.volume
    c.in-Ok.ensures.taken
    c.finish_conversion-end.result c.finish_conversion-end.new.volume
    c.finish_conversion-end.ensures.converted c.finish_conversion-end.ensures.read
    c.finish_conversion-end.ensures.order (joint_in back) c.into_disk.ensures.disk
    c.parts-header.result.0 c.parts-header.result.1 (record {
      size = back.atom;
      main = ap g.D.Disk.device c.parts-header.ensures.main;
      head = ap (in_front g.D.Disk.device back.atom) c.parts-header.ensures.head;
    })
    c.parts-header.ensures.alone _ (same_blocks c.progress-blocks.ensures)
    c.conclude.result c.conclude.ensures.finished

-- it ended otherwise
pub returns-in-Ok-clause-unfinished : goal.returns-in-Ok-clause-unfinished
returns-in-Ok-clause-unfinished g c =
    let back = c.into_disk.result in
    unfinished_by _ _ _ g.D.Disk.device c.args.disk c.args.pass.now c.in-Ok.volume
    c.in-Ok.ensures.taken
    c.finish_conversion-end.result c.finish_conversion-end.new.volume
    c.finish_conversion-end.ensures.converted c.finish_conversion-end.ensures.read
    c.finish_conversion-end.ensures.order (joint_in back) c.into_disk.ensures.disk
    c.parts-header.result.0 c.parts-header.result.1 (record {
      size = back.atom;
      main = ap g.D.Disk.device c.parts-header.ensures.main;
      head = ap (in_front g.D.Disk.device back.atom) c.parts-header.ensures.head;
    })
    c.parts-header.ensures.alone _ (same_blocks c.progress-blocks.ensures)
    c.conclude.result c.conclude.ensures.halted
