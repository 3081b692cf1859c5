use Rattle.std.proofs.Common.{Some, ap}
use Rattle.command_line.specs.Formats.{formatting}
use Rattle.sector_disk.specs.JoinedDisks.Counts.{joint_in}
use Rattle.sector_disk.specs.JoinedDisks.Joined.{in_front}
use Rattle.reenc_tool.specs.Making.{wish_of}
use Rattle.reenc_tool.proofs.MakingLemmas.{ended_without, is_on_two, sizes_told}
use Rattle.reenc_tool.proofs.making.make_on_two.Goals as goal

pub returns-clause-made : goal.returns-clause-made
returns-clause-made g c =
    let device = g.D.Disk.device in
    let joined = c.with-joined.result in
    let after = c.make_on-line.new.disk in
    let header = c.parts-header.result.0 in
    let back = c.parts-header.result.1 in
    let cause = c.make_on-line.result.0 in
    let told = c.sizes-sizes.ensures in
    let begun = c.with-joined.ensures.joint in
    is_on_two device joint_in (wish_of (formatting c.args.words.now)) c.sizes-sizes.result _ _
    c.args.head c.args.disk joined after header back cause _ _ begun
    (sizes_told joined c.sizes-sizes.result (device c.args.head) (device c.args.disk) told.is
    c.with-joined.ensures.head begun told.atom told.all)
    c.make_on-line.ensures (record {
      size = after.atom;
      main = ap device c.parts-header.ensures.main;
      head = ap (in_front device after.atom) c.parts-header.ensures.head;
    })
    (ended_without cause _ _ (Some back) header _ c.ended.ensures.outcome c.none-sessions.ensures
    c.new.ensures.items)
