use Rattle.volume_laws.proofs.BesideLanes.Beside.{are_alone_beside, event_more, next_meets_beside, work_more}
use Rattle.volume_laws.proofs.lanes_beside.laws.lanes_are_alone_beside.Goals as goal

pub returns : goal.returns
returns c _ = record {
  deeds = are_alone_beside;
  next = next_meets_beside;
  more = event_more;
  works = work_more;
}
