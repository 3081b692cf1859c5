use Rattle.recovery_laws.proofs.Resumed.ResumeLemmas.{resumed-keep, resumed-stand, taken-begin}
use Rattle.recovery_laws.proofs.resumed_volumes.laws.resumed_conversions_keep_content.Goals as goal

pub returns : goal.returns
returns g c =
    let keeps = c.openings_of_conversions_keep_content.ensures.opened in
    let start = c.begun_conversions_start.ensures in
    let reader = c.copies_are_read.ensures in
    record {
      begins = taken-begin keeps start reader;
      finished = resumed-keep keeps start reader c.conversions_keep_content.ensures.finished;
      stops = resumed-stand keeps start reader c.conversions_keep_content.ensures.stops;
    }
