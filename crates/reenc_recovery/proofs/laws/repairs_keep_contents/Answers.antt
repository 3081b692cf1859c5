use Rattle.reenc_recovery.proofs.BeginLemmas.{begins}
use Rattle.reenc_recovery.proofs.RepairGoesLemmas.{repair_goes_on}
use Rattle.reenc_recovery.proofs.RepairLemmas.{repair_holds}
use Rattle.reenc_recovery.proofs.laws.repairs_keep_contents.Goals as goal

pub returns-clause-begins : goal.returns-clause-begins
returns-clause-begins c =
    λ sizes layout size first cells header bad certain laid stands.
    begins sizes layout size first cells certain laid header bad stands

pub returns-clause-goes_on : goal.returns-clause-goes_on
returns-clause-goes_on c =
    λ sizes layout header bad first old new laid count.
    repair_goes_on c.repairs_keep_headers.ensures.goes sizes layout header bad first old new laid
    count

pub returns-clause-each : goal.returns-clause-each
returns-clause-each c =
    λ sizes stored header layout handed bad written broken first cells image repaired shows sized
    left is_stored held.
    repair_holds sizes stored header layout handed bad written broken first cells image repaired
    shows sized left c.copies_are_read.ensures c.images_are_taken.ensures
    c.repairs_keep_headers.ensures.gives c.metadata_go_by_meaning.ensures.loads is_stored held
