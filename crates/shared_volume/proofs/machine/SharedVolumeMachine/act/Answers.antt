use Rattle.std.proofs.Common.{refl}
use Rattle.shared_volume.proofs.Standing.{stands-meets, stands-more, stands-worked}
use Rattle.shared_volume.proofs.machine.SharedVolumeMachine.act.Goals as goal

pub make_call-requires-clause-meets : goal.make_call-requires-clause-meets
make_call-requires-clause-meets g c =
    let (history, name, stands, fits) = c.requires.stands in
    stands-meets _ _ _ history stands name c.in-Client.field-0 (rw c.in-Client.is at fits)

pub returns-in-Client-clause-stands : goal.returns-in-Client-clause-stands
returns-in-Client-clause-stands g c = λ history name stands fits.
    rw c.in-Client.is (stands-more _ _ _ history stands name c.in-Client.field-0
    (rw c.in-Client.is at fits) _ c.make_call.result c.make_call.ensures.step
    c.make_call.ensures.answers)

pub returns-in-Worker-clause-stands : goal.returns-in-Worker-clause-stands
returns-in-Worker-clause-stands g c = λ history name stands fits.
    rw c.in-Worker.is (stands-worked _ _ c.args.self.now.opening.value _ _ history name
    c.in-Worker.lane stands (rw c.in-Worker.is at fits) (λ atom keys. rw (atom, keys) refl)
    c.make_step.result c.make_step.ensures.step c.make_step.ensures.read
    c.make_step.ensures.armed c.make_step.ensures.converted)
