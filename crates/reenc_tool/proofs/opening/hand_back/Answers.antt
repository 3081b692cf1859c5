use Rattle.std.proofs.Common.{Some, ap, refl}
use Rattle.sector_disk.specs.JoinedDisks.Counts.{joint_in}
use Rattle.sector_disk.specs.JoinedDisks.Joined.{in_front}
use Rattle.reenc_tool.specs.Outcomes.{came_of, ended_by}
use Rattle.reenc_tool.proofs.RunLemmas.{passed}
use Rattle.reenc_tool.proofs.opening.hand_back.Goals as goal

pub returns-clause-back : goal.returns-clause-back
returns-clause-back g c = record {
  disk = c.parts-header.result.1;
  header = c.parts-header.result.0;
  is = passed (ended_by (came_of c.args.sessions) (Some c.parts-header.result.1)
      c.parts-header.result.0) _ _ c.of_encrypted.ensures;
  joint = joint_in c.args.joined;
  shows = refl;
  are = record {
    size = c.args.joined.atom;
    main = ap g.D.Disk.device c.parts-header.ensures.main;
    head = ap (in_front g.D.Disk.device c.args.joined.atom) c.parts-header.ensures.head;
  };
  tables = c.parts-header.ensures.alone;
}
