use Rattle.image_laws.proofs.Led.LawLemmas.{both-stand, mendings-stand, mendings-stand-for}
use Rattle.image_laws.proofs.zone_images.laws.mendings_stand.Goals as goal

pub returns : goal.returns
returns g c =
    let cipher = g.C.SectorCipher in
    let mending = c.mendings_are_of_zones.ensures in
    let both = both-stand cipher.sector cipher.sealed cipher.opened (record {
      starts = mending.starts;
      goes = mending.goes;
      ends = mending.ends;
      fails = mending.fails;
      zones = c.zones_keep_contents.ensures.stands;
      zone_taken = c.zones_keep_contents.ensures.taken;
      is_reader = c.copies_are_read.ensures;
      taken = c.images_are_taken.ensures;
      loads = c.metadata_go_by_meaning.ensures.loads;
      both = c.used_copies_are_headers.ensures.both;
      given = c.used_copies_are_headers.ensures.given;
      one = c.images_stand_for_one_content.ensures.keys;
    }) c.headers_stand_in_front.ensures.areas in
    record {
      keys = mendings-stand cipher.sector cipher.sealed cipher.opened both;
      passphrase = mendings-stand-for cipher.sector cipher.sealed cipher.opened both;
    }
