use Rattle.resume_disk.proofs.OpenedMidway.StepLemmas.{goes_by, leads_closed}
use Rattle.resume_disk.proofs.midway.stepping.lead.Goals as goal

pub write_again-requires-clause-goes : goal.write_again-requires-clause-goes
write_again-requires-clause-goes g c = λ κs lives.
    let begins = rw c.in-Open.is at c.requires.begins.1 in
    goes_by c.requires.begins.0 c.in-Open.mending begins

pub write_again-requires-clause-sizes : goal.write_again-requires-clause-sizes
write_again-requires-clause-sizes g c = λ κs lives. rw c.in-Open.is at c.requires.sizes

pub returns-in-Closed-clause-leads : goal.returns-in-Closed-clause-leads
returns-in-Closed-clause-leads g c = λ keys begins.
    rw c.in-Closed.is (leads_closed g.C.SectorCipher.sector g.C.SectorCipher.sealed g.C.SectorCipher.opened c.in-Closed.header
    _ keys (rw c.in-Closed.is at begins))

pub returns-in-Closed-clause-sizes : goal.returns-in-Closed-clause-sizes
returns-in-Closed-clause-sizes g c = rw c.in-Closed.is at c.requires.sizes

pub returns-in-Closed-clause-may : goal.returns-in-Closed-clause-may
returns-in-Closed-clause-may g c = rw c.in-Closed.is at c.requires.begins.1

pub returns-in-Closed-clause-fits : goal.returns-in-Closed-clause-fits
returns-in-Closed-clause-fits g c = λ keys begins fits. rw c.in-Closed.is at fits

pub returns-in-Open-clause-leads : goal.returns-in-Open-clause-leads
returns-in-Open-clause-leads g c = rw c.in-Open.is c.write_again.ensures.leads

pub returns-in-Open-clause-same : goal.returns-in-Open-clause-same
returns-in-Open-clause-same g c = rw c.in-Open.is c.write_again.ensures.same

pub returns-in-Open-clause-fits : goal.returns-in-Open-clause-fits
returns-in-Open-clause-fits g c = rw c.in-Open.is c.write_again.ensures.fits

pub returns-in-Open-clause-failed : goal.returns-in-Open-clause-failed
returns-in-Open-clause-failed g c = rw c.in-Open.is c.write_again.ensures.failed
