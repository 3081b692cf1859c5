use Rattle.recovery_laws.proofs.Resumed.ChainLemmas.{ChainLaws, stops-stand}
use Rattle.recovery_laws.proofs.Resumed.SideLemmas.{sides-tell-keys}
use Rattle.recovery_laws.proofs.resumed_volumes.laws.stopped_conversions_may_be_resumed.Goals as goal
use Rattle.volume_laws.proofs.HeadersTell.{tells_beside}
use Rattle.volume_laws.proofs.VolumesKept.{deeds_in_order}

pub returns : goal.returns
returns g c =
    let cipher = g.C.SectorCipher in
    let laws : ChainLaws cipher.sector cipher.sealed cipher.opened = record {
      start = c.begun_conversions_start.ensures;
      lawfully = c.keys_seal_lawfully.ensures;
      stops = c.conversions_keep_content.ensures.stops;
      serves = c.every_conversion_is_served.ensures;
      tells = tells_beside;
      orders = deeds_in_order;
      leaves = c.works_leave_the_rest.ensures;
      reader = c.copies_are_read.ensures;
      images = c.images_are_taken.ensures;
      spelt = c.copies_are_spelt.ensures;
      given = c.used_copies_are_headers.ensures.given;
      sides = sides-tell-keys c.sides_are_told.ensures;
    } in
    stops-stand laws
