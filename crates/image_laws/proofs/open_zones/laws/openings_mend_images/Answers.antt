use Rattle.image_laws.proofs.Opened.OpeningLemmas.{disk-mended, joined-mended}
use Rattle.image_laws.proofs.open_zones.laws.openings_mend_images.Goals as goal

pub returns-clause-joined : goal.returns-clause-joined
returns-clause-joined c =
    joined-mended c.gaps_keep_contents.ensures.fronts c.fronts_keep_images.ensures
    c.openings_keep_headers.ensures.joined_mended

pub returns-clause-disk : goal.returns-clause-disk
returns-clause-disk c =
    disk-mended c.gaps_keep_contents.ensures.fronts c.fronts_keep_images.ensures
    c.openings_keep_headers.ensures.disk_mended
