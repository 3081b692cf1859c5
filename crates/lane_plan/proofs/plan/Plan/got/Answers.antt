use Rattle.std.proofs.Common.{ap, arith, subst}
use Rattle.volume_machine.specs.Seals.{seals_of}
use Rattle.lane_plan.specs.Plans.{Awaits}
use Rattle.lane_plan.specs.declared.{plan.Plan.Plan, plan.Shape.Shape}
use Rattle.lane_plan.proofs.PlanBegins.{goes-by, told-by}
use Rattle.lane_plan.proofs.PlanMoves.{back-got, fewer-moved, got-here, has-place, safe, told-got}
use Rattle.lane_plan.proofs.plan.Plan.got.Goals as goal

pub unreachable-requires : goal.unreachable-requires
unreachable-requires g c = let (map, piece, it) = told-got _ _ _ _ c.requires.told in
    c.in_default.not-Moving map piece it.awaits.moves.stage

pub unseal_front-requires-clause-known : goal.unseal_front-requires-clause-known
unseal_front-requires-clause-known g c κs within =
    (safe g.C.SectorCipher.sector c.args.keys.now c.requires.fits
    (got-here _ _ _ _ c.requires.told c.in-Moving.is).awaits).known

pub unseal_front-requires-clause-fits : goal.unseal_front-requires-clause-fits
unseal_front-requires-clause-fits g c κs within =
    (safe g.C.SectorCipher.sector c.args.keys.now c.requires.fits
    (got-here _ _ _ _ c.requires.told c.in-Moving.is).awaits).fits

pub unseal_front-requires-clause-size : goal.unseal_front-requires-clause-size
unseal_front-requires-clause-size g c κs within =
    (got-here _ _ _ _ c.requires.told c.in-Moving.is).size

pub unseal_front-requires-clause-front : goal.unseal_front-requires-clause-front
unseal_front-requires-clause-front g c κs within =
    (got-here _ _ _ _ c.requires.told c.in-Moving.is).within

pub take_in-requires : goal.take_in-requires
take_in-requires g c =
    let here = got-here _ _ _ _ c.requires.told c.in-Moving.is in
    let it = safe g.C.SectorCipher.sector c.args.keys.now c.requires.fits here.awaits in
    record { order = it.order; front = omega (arith, here.within); part = has-place here }

pub moved-self-requires : goal.moved-self-requires
moved-self-requires g c = let few = (safe g.C.SectorCipher.sector c.args.keys.now c.requires.fits
    (got-here _ _ _ _ c.requires.told c.in-Moving.is).awaits).few in omega arith

pub go_on-requires-clause-back : goal.go_on-requires-clause-back
go_on-requires-clause-back g c κs within = told-by _ c.args.self.now
    _ _ c.in-Moving.map (back-got _ c.args.self.now c.take_in.new.self c.in-Moving.map
    c.in-Moving.piece c.moved-self.result c.args.buffer c.unseal_front.new.buffer c.args.len
    c.in-Moving.is c.unseal_front.ensures.front c.unseal_front.ensures.length c.take_in.ensures.only
    c.take_in.ensures.part c.take_in.ensures.same c.moved-self.ensures) c.requires.told

pub returns-clause-goes : goal.returns-clause-goes
returns-clause-goes g c = goes-by _ c.args.self.now _
    c.go_on.new.self _ c.in-Moving.map c.go_on.result (back-got _ c.args.self.now c.take_in.new.self
    c.in-Moving.map c.in-Moving.piece c.moved-self.result c.args.buffer c.unseal_front.new.buffer
    c.args.len c.in-Moving.is c.unseal_front.ensures.front c.unseal_front.ensures.length
    c.take_in.ensures.only c.take_in.ensures.part c.take_in.ensures.same c.moved-self.ensures)
    (λ op alone back. subst (λ (shape : Shape). Awaits (seals_of g.C.SectorCipher.sealed
    g.C.SectorCipher.opened shape.atom c.args.keys.now) c.go_on.new.self op alone c.go_on.result)
    (ap (λ (p : Plan). p.shape) c.take_in.ensures.same) (c.go_on.ensures.awaits op alone back))

pub returns-clause-fewer : goal.returns-clause-fewer
returns-clause-fewer g c =
    fewer-moved c.go_on.new.self (got-here _ _ _ _ c.requires.told c.in-Moving.is).awaits
    (rw (c.moved-self.ensures, ap (λ (p : Plan). p.operation) c.take_in.ensures.same)
    at c.go_on.ensures.fewer)
