use Rattle.std.proofs.Common.{refl}
use Rattle.volume_machine.specs.Steps.{Can, Step}
use Rattle.volume_core.proofs.CodeSteps.{ends-inside, locked-entry}
use Rattle.volume_core.proofs.volume.Volume.ask.Goals as goal

pub open_of-open-requires : goal.open_of-open-requires
unfolding Can
open_of-open-requires g c =
    let (o, is, has) = (rw (← c.self.view_is) at c.requires).can in (o, rw c.deref.ensures.value is)

pub ask-requires : goal.ask-requires
unfolding Can
ask-requires g c =
    let (o, is, has) = (rw (← c.self.view_is) at c.requires).can in
    locked-entry _ c.args.lane c.self.invariant.sound o is has

pub invariant_of-result : goal.invariant_of-result
invariant_of-result g c =
    let is = rw c.deref.ensures.value at c.open_of-open.ensures in
    record { inside = ends-inside _ c.args.lane c.self.invariant.sound _ is }

pub returns-in-Held : goal.returns-in-Held
unfolding Step
returns-in-Held g c =
    let is = rw c.deref.ensures.value at c.open_of-open.ensures in
    rw (← c.self.view_is)
    ((c.open_of-open.result, is, (c.in-Held.ensures, record { map = refl; range_is = refl })), refl)

pub returns-in-Waiting : goal.returns-in-Waiting
unfolding Step
returns-in-Waiting g c =
    let is = rw c.deref.ensures.value at c.open_of-open.ensures in
    rw (← c.self.view_is) ((c.open_of-open.result, is, c.in-Waiting.ensures), refl)
