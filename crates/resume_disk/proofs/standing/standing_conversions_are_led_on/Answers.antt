use Rattle.resume_disk.proofs.StandingLemmas.{unfinished_cut}
use Rattle.resume_disk.proofs.standing.standing_conversions_are_led_on.Goals as goal

pub returns : goal.returns
returns g c disk pass first content left told tried stands converts unfinished =
    unfinished_cut _ _ _ g.D.Disk.device disk pass first content told
    (g.met.D.Disk.whole disk first told) tried stands converts left unfinished
