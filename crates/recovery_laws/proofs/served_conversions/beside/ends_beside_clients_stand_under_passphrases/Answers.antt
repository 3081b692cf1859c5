use Rattle.recovery_laws.proofs.Served.EndLemmas.{ends-for-newest}
use Rattle.recovery_laws.proofs.served_conversions.beside.ends_beside_clients_stand_under_passphrases.Goals as goal
use Rattle.recovery_laws.proofs.Resumed.SideLemmas.{sides-tell-keys}
use Rattle.recovery_laws.proofs.Resumed.TakenForLemmas.{SlotLaws}
use Rattle.recovery_laws.proofs.Served.AgainLemmas.{StopLaws}
use Rattle.volume_laws.proofs.HeadersTell.{tells_beside}
use Rattle.volume_laws.proofs.VolumesKept.{deeds_in_order}

pub returns : goal.returns
returns g c =
    let cipher = g.C.SectorCipher in
    let laws : StopLaws cipher.sector cipher.sealed cipher.opened = record {
      start = c.begun_conversions_start.ensures;
      lawfully = c.keys_seal_lawfully.ensures;
      stops = c.conversions_stand_where_they_stop.ensures.stops;
      serves = c.every_conversion_is_served.ensures;
      tells = tells_beside;
      orders = deeds_in_order;
      leaves = c.deeds_leave_the_rest.ensures;
      reader = c.copies_are_read.ensures;
      images = c.images_are_taken.ensures;
      spelt = c.copies_are_spelt.ensures;
      given = c.used_copies_are_headers.ensures.given;
      sides = sides-tell-keys c.sides_are_told.ensures;
    } in
    let slots : SlotLaws _ = record {
      leaves = c.deeds_leave_the_rest.ensures;
      areas = c.headers_stand_in_front.ensures.areas;
      told = c.sides_are_told.ensures;
      given = c.sides_give_their_keys.ensures.given;
    } in
    ends-for-newest laws slots c.conversions_end_beside_clients.ensures
