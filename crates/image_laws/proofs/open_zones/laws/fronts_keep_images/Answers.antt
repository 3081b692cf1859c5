use Rattle.image_laws.proofs.Opened.FrontLemmas.{fronts-keep-images}
use Rattle.image_laws.proofs.open_zones.laws.fronts_keep_images.Goals as goal

pub returns : goal.returns
returns c =
    fronts-keep-images c.gaps_keep_contents.ensures.fronts c.keys_are_behind_headers.ensures
