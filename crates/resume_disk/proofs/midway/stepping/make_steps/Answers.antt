use Rattle.resume_disk.proofs.OpenedMidway.StepLemmas.{comes_last, comes_on, fewer_by_test}
use Rattle.resume_disk.proofs.OpenedMidway.StepLemmas.{has_begun}
use Rattle.resume_disk.proofs.OpenedMidway.StepLemmas.{same_last, same_stopped, stops, tells}
use Rattle.resume_disk.proofs.midway.stepping.make_steps.Goals as goal

pub steps-init : goal.steps-init
steps-init g c =
    has_begun g.C.SectorCipher.sealed g.C.SectorCipher.opened _ _ c.requires.goes c.requires.sizes

pub step-requires-clause-goes : goal.step-requires-clause-goes
step-requires-clause-goes g c = λ κs lives. c.steps.invariant.goes

pub step-requires-clause-sizes : goal.step-requires-clause-sizes
step-requires-clause-sizes g c = λ κs lives. c.steps.invariant.sizes

pub steps-preserved : goal.steps-preserved
steps-preserved g c =
    let law = c.disks_tell_lawfully-in-Ok-false.ensures in
    comes_on g.C.SectorCipher.sealed g.C.SectorCipher.opened _ c.steps.mending c.step.new.self _ _
    _ c.steps.invariant (tells _ law.agrees law.even law.bytes law.sized)
    c.in-Ok-false.field-0 c.in-Ok-false.field-0-test c.in-Ok-false.ensures.steps
    c.in-Ok-false.ensures.left c.step.ensures.sizes

pub steps-smaller : goal.steps-smaller
steps-smaller g c =
    fewer_by_test g.C.SectorCipher.sector c.steps.mending c.step.new.self c.is_mending.ensures _ _ _
    c.in-Ok-false.field-0 c.in-Ok-false.field-0-test c.in-Ok-false.ensures.steps

pub returns-in-Ok-true-clause-run : goal.returns-in-Ok-true-clause-run
returns-in-Ok-true-clause-run g c =
    let law = c.disks_tell_lawfully.ensures in
    comes_last g.C.SectorCipher.sealed g.C.SectorCipher.opened _ c.steps.mending c.step.new.self _ _
    _ c.steps.invariant (tells _ law.agrees law.even law.bytes law.sized)
    c.in-Ok-true.field-0 c.in-Ok-true.field-0-test c.in-Ok-true.ensures.steps

pub returns-in-Ok-true-clause-done : goal.returns-in-Ok-true-clause-done
returns-in-Ok-true-clause-done g c =
    rw c.in-Ok-true.field-0-test at c.in-Ok-true.ensures.left

pub returns-in-Ok-true-clause-loaded : goal.returns-in-Ok-true-clause-loaded
returns-in-Ok-true-clause-loaded g c =
    let law = c.disks_tell_lawfully.ensures in
    (same_last g.C.SectorCipher.sealed g.C.SectorCipher.opened _ c.steps.mending c.step.new.self _ _
    _ c.steps.invariant (tells _ law.agrees law.even law.bytes law.sized)
    c.in-Ok-true.field-0 c.in-Ok-true.ensures.steps).loaded

pub returns-in-Ok-true-clause-keys : goal.returns-in-Ok-true-clause-keys
returns-in-Ok-true-clause-keys g c =
    let law = c.disks_tell_lawfully.ensures in
    (same_last g.C.SectorCipher.sealed g.C.SectorCipher.opened _ c.steps.mending c.step.new.self _ _
    _ c.steps.invariant (tells _ law.agrees law.even law.bytes law.sized)
    c.in-Ok-true.field-0 c.in-Ok-true.ensures.steps).keys

pub returns-in-Err-clause-run : goal.returns-in-Err-clause-run
returns-in-Err-clause-run g c =
    let law = c.disks_tell_lawfully-in-Err.ensures in
    stops g.C.SectorCipher.sealed g.C.SectorCipher.opened _ c.steps.mending c.step.new.self _ _ _
    c.steps.invariant (tells _ law.agrees law.even law.bytes law.sized) _ c.in-Err.ensures.steps

pub returns-in-Err-clause-loaded : goal.returns-in-Err-clause-loaded
returns-in-Err-clause-loaded g c =
    let law = c.disks_tell_lawfully-in-Err.ensures in
    (same_stopped g.C.SectorCipher.sealed g.C.SectorCipher.opened _ c.steps.mending c.step.new.self _
    _ _ c.steps.invariant (tells _ law.agrees law.even law.bytes law.sized)
    c.in-Err.ensures.steps).loaded

pub returns-in-Err-clause-keys : goal.returns-in-Err-clause-keys
returns-in-Err-clause-keys g c =
    let law = c.disks_tell_lawfully-in-Err.ensures in
    (same_stopped g.C.SectorCipher.sealed g.C.SectorCipher.opened _ c.steps.mending c.step.new.self _
    _ _ c.steps.invariant (tells _ law.agrees law.even law.bytes law.sized)
    c.in-Err.ensures.steps).keys
