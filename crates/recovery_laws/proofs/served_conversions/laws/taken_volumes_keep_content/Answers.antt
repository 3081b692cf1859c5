use Rattle.recovery_laws.proofs.Served.ServeLemmas.{ServingLaws, taken-keep}
use Rattle.recovery_laws.proofs.Served.StartLemmas.{taken-idle}
use Rattle.recovery_laws.proofs.served_conversions.laws.taken_volumes_keep_content.Goals as goal

pub returns : goal.returns
returns g c =
    let cipher = g.C.SectorCipher in
    let laws : ServingLaws cipher.sector cipher.sealed cipher.opened = record {
      keeps = c.openings_of_conversions_keep_content.ensures.opened;
      begins = c.resumed_conversions_keep_content.ensures.begins;
      start = c.begun_conversions_start.ensures;
      rest = c.runs_leave_the_rest.ensures;
      goes = c.failures_go_by_events.ensures.along;
      tables = c.tables_are_of_events.ensures;
      areas = c.headers_stand_in_front.ensures.areas;
      fronts = c.headers_stand_in_front.ensures.loads;
    } in
    record {
      idle = taken-idle cipher.sector cipher.sealed cipher.opened;
      keeps = taken-keep laws;
    }
