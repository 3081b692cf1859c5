use Rattle.volume_opening.proofs.ShortLemmas.{refused_short}
use Rattle.volume_opening.proofs.standing.standing_volumes_are_opened.Goals as goal

pub returns : goal.returns
returns g c disk back pass first content refusal header told tried stands rests unopened =
    refused_short g.D.Disk.device disk back pass first content told
    (g.met.D.Disk.whole disk first told) tried stands rests refusal header unopened
