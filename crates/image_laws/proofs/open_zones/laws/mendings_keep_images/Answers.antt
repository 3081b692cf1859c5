use Rattle.image_laws.proofs.Opened.MendingLemmas.{mendings-keep}
use Rattle.image_laws.proofs.open_zones.laws.mendings_keep_images.Goals as goal

pub returns : goal.returns
returns c =
    mendings-keep c.zones_keep_contents.ensures.stands c.zones_keep_contents.ensures.taken
    c.images_are_taken.ensures c.copies_are_read.ensures c.metadata_go_by_meaning.ensures.loads
