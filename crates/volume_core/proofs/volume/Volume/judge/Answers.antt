use Rattle.volume_core.proofs.CodeAdmit.{admit-broken, admit-refused, is-proper}
use Rattle.volume_core.proofs.volume.Volume.judge.Goals as goal

pub returns-in-Some-clause-refused : goal.returns-in-Some-clause-refused
returns-in-Some-clause-refused g c = λ lane session.
    let is = rw c.from.ensures at c.wrong.ensures in
    rw (← c.self.view_is) (admit-refused _ lane session c.args.ask c.wrong.result
    c.in-Some.number is c.in-Some.is)

pub returns-then-self-clause-refused : goal.returns-then-self-clause-refused
returns-then-self-clause-refused g c = λ lane session.
    let is = rw c.from.ensures at c.wrong.ensures in
    rw (← c.self.view_is) (admit-broken _ lane session c.args.ask
    (is-proper _ _ c.args.ask c.wrong.result is c.in_default.not-Some) c.if-self.true)
