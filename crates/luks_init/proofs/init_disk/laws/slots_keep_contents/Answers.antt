use Rattle.luks_init.proofs.DiskInit.LawLemmas.{slots_keep}
use Rattle.luks_init.proofs.init_disk.laws.slots_keep_contents.Goals as goal

pub returns : goal.returns
returns c =
    slots_keep (record {
      gaps = c.gaps_keep_contents.ensures.keeps;
      spares = c.gaps_keep_contents.ensures.gaps;
      started = c.started_volumes_stand.ensures;
      may = c.begun_conversions_may_start.ensures;
      keeps = c.slot_commits_keep_headers.ensures.keeps;
      ends = c.slot_commits_keep_headers.ensures.ends;
      areas = c.headers_stand_in_front.ensures.areas;
      spelt = c.copies_are_spelt.ensures;
    }) c.openings_mend_headers.ensures.disk
