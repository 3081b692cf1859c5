use Rattle.recovery_laws.proofs.Resumed.OpenedLemmas.{openings-keep, unopened-keep}
use Rattle.recovery_laws.proofs.Resumed.OpeningLemmas.{OpeningLaws}
use Rattle.recovery_laws.proofs.resumed_volumes.laws.openings_of_conversions_keep_content.Goals as goal

pub returns : goal.returns
returns g c =
    let cipher = g.C.SectorCipher in
    let mending = c.mendings_are_of_zones.ensures in
    let laws : OpeningLaws cipher.sector cipher.sealed cipher.opened = record {
      reads = c.openings_keep_images.ensures.reads;
      keeps = c.openings_keep_images.ensures.repairs;
      mends = c.openings_mend_images.ensures.joined;
      stands = c.mendings_stand.ensures.keys;
      steps = record {
        starts = mending.starts;
        goes = mending.goes;
        ends = mending.ends;
        fails = mending.fails;
        zones = c.zones_keep_contents.ensures.stands;
        zone_taken = c.zones_keep_contents.ensures.taken;
        is_reader = c.copies_are_read.ensures;
        taken = c.images_are_taken.ensures;
        loads = c.metadata_go_by_meaning.ensures.loads;
        both = c.used_copies_are_headers.ensures.both;
        given = c.used_copies_are_headers.ensures.given;
        one = c.images_stand_for_one_content.ensures.keys;
      };
      areas = c.headers_stand_in_front.ensures.areas;
      spelt = c.copies_are_spelt.ensures;
      mean = c.copies_mean_what_they_share.ensures;
      used = c.used_copies_are_headers.ensures.stands;
    } in
    record { opened = openings-keep laws; unopened = unopened-keep laws }
