use Rattle.image_laws.proofs.Led.LedLemmas.{leadings-keep}
use Rattle.image_laws.proofs.zone_images.laws.leadings_keep_images.Goals as goal

pub returns : goal.returns
returns c =
    leadings-keep c.zones_keep_contents.ensures.stands c.zones_keep_contents.ensures.taken
    c.images_are_taken.ensures c.copies_are_read.ensures c.metadata_go_by_meaning.ensures.loads
