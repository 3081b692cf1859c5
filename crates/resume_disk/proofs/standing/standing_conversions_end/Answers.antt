use Rattle.resume_disk.proofs.CompleteLemmas.{unfinished_wants}
use Rattle.resume_disk.proofs.standing.standing_conversions_end.Goals as goal

pub returns : goal.returns
returns g c disk pass first content left told tried stands converts unfinished still =
    unfinished_wants _ _ _ g.D.Disk.device disk pass left unfinished
    (c.standing_conversions_are_led_on.ensures disk pass first content left told tried stands converts
    unfinished)
    still
