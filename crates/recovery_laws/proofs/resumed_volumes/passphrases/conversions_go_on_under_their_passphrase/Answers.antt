use Rattle.recovery_laws.proofs.Resumed.ChainLemmas.{ChainLaws}
use Rattle.recovery_laws.proofs.Resumed.EndForLemmas.{finished-for}
use Rattle.recovery_laws.proofs.Resumed.OpenForLemmas.{ForLaws}
use Rattle.recovery_laws.proofs.Resumed.RepeatForLemmas.{any-times-for, once-for}
use Rattle.recovery_laws.proofs.Resumed.SideLemmas.{sides-tell-keys}
use Rattle.recovery_laws.proofs.Resumed.TakenForLemmas.{SlotLaws, taken-begin-for}
use Rattle.recovery_laws.proofs.resumed_volumes.passphrases.conversions_go_on_under_their_passphrase.Goals as goal
use Rattle.volume_laws.proofs.HeadersTell.{tells_beside}
use Rattle.volume_laws.proofs.VolumesKept.{deeds_in_order}

pub returns : goal.returns
returns g c =
    let cipher = g.C.SectorCipher in
    let mending = c.mendings_are_of_zones.ensures in
    let laws : ForLaws cipher.sector cipher.sealed cipher.opened = record {
      opening = record {
        reads = c.openings_keep_images.ensures.reads;
        keeps = c.openings_keep_images.ensures.repairs;
        mends = c.openings_mend_images.ensures.joined;
        stands = c.mendings_stand.ensures.keys;
        steps = record {
          starts = mending.starts;
          goes = mending.goes;
          ends = mending.ends;
          fails = mending.fails;
          zones = c.zones_keep_contents.ensures.stands;
          zone_taken = c.zones_keep_contents.ensures.taken;
          is_reader = c.copies_are_read.ensures;
          taken = c.images_are_taken.ensures;
          loads = c.metadata_go_by_meaning.ensures.loads;
          both = c.used_copies_are_headers.ensures.both;
          given = c.used_copies_are_headers.ensures.given;
          one = c.images_stand_for_one_content.ensures.keys;
        };
        areas = c.headers_stand_in_front.ensures.areas;
        spelt = c.copies_are_spelt.ensures;
        mean = c.copies_mean_what_they_share.ensures;
        used = c.used_copies_are_headers.ensures.stands;
      };
      mending = c.mendings_stand.ensures.passphrase;
      behind = c.keys_are_behind_headers.ensures;
      way = c.images_stand_for_one_content.ensures.way;
    } in
    let chain : ChainLaws cipher.sector cipher.sealed cipher.opened = record {
      start = c.begun_conversions_start.ensures;
      lawfully = c.keys_seal_lawfully.ensures;
      stops = c.conversions_keep_content.ensures.stops;
      serves = c.every_conversion_is_served.ensures;
      tells = tells_beside;
      orders = deeds_in_order;
      leaves = c.works_leave_the_rest.ensures;
      reader = c.copies_are_read.ensures;
      images = c.images_are_taken.ensures;
      spelt = c.copies_are_spelt.ensures;
      given = c.used_copies_are_headers.ensures.given;
      sides = sides-tell-keys c.sides_are_told.ensures;
    } in
    let slots : SlotLaws _ = record {
      leaves = c.deeds_leave_the_rest.ensures;
      areas = c.headers_stand_in_front.ensures.areas;
      told = c.sides_are_told.ensures;
      given = c.sides_give_their_keys.ensures.given;
    } in
    let begins = c.resumed_conversions_keep_content.ensures.begins in
    let once = once-for laws begins chain slots in
    record {
      begins = taken-begin-for laws begins;
      stops = once;
      repeated = any-times-for once;
      finished = finished-for laws begins chain slots c.conversions_keep_content.ensures.finished;
    }
