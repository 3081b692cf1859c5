use Rattle.std.proofs.Common.{ap, arith, subst}
use Rattle.volume_machine.specs.Seals.{seals_of}
use Rattle.lane_plan.specs.Plans.{Awaits}
use Rattle.lane_plan.specs.declared.{plan.Plan.Plan, plan.Shape.Shape}
use Rattle.lane_plan.proofs.PlanBegins.{goes-by, told-by}
use Rattle.lane_plan.proofs.PlanMoves.{back-put, fewer-moved, safe, told-written, written-here}
use Rattle.lane_plan.proofs.plan.Plan.written.Goals as goal

pub unreachable-requires : goal.unreachable-requires
unreachable-requires g c = let (map, piece, it) = told-written _ _ _ c.requires.told in
    c.in_default.not-Moving map piece it.moves.stage

pub put_back-requires : goal.put_back-requires
put_back-requires g c = (safe g.C.SectorCipher.sector c.args.keys.now c.requires.fits
    (written-here _ _ _ c.requires.told c.in-Moving.is)).order

pub moved-self-requires : goal.moved-self-requires
moved-self-requires g c = let few = (safe g.C.SectorCipher.sector c.args.keys.now c.requires.fits
    (written-here _ _ _ c.requires.told c.in-Moving.is)).few in omega arith

pub go_on-requires-clause-back : goal.go_on-requires-clause-back
go_on-requires-clause-back g c κs within =
    told-by _ c.args.self.now _ _ c.in-Moving.map (back-put _ c.args.self.now c.put_back.new.self
    c.in-Moving.map c.in-Moving.piece c.moved-self.result c.args.buffer c.in-Moving.is
    c.put_back.ensures.part c.put_back.ensures.same c.moved-self.ensures) c.requires.told

pub returns-clause-goes : goal.returns-clause-goes
returns-clause-goes g c = goes-by _
    c.args.self.now _ c.go_on.new.self _ c.in-Moving.map c.go_on.result (back-put _ c.args.self.now
    c.put_back.new.self c.in-Moving.map c.in-Moving.piece c.moved-self.result c.args.buffer
    c.in-Moving.is c.put_back.ensures.part c.put_back.ensures.same c.moved-self.ensures)
    (λ op alone back. subst (λ (shape : Shape). Awaits (seals_of g.C.SectorCipher.sealed
    g.C.SectorCipher.opened shape.atom c.args.keys.now) c.go_on.new.self op alone c.go_on.result)
    (ap (λ (p : Plan). p.shape) c.put_back.ensures.same) (c.go_on.ensures.awaits op alone back))

pub returns-clause-fewer : goal.returns-clause-fewer
returns-clause-fewer g c =
    fewer-moved c.go_on.new.self (written-here _ _ _ c.requires.told c.in-Moving.is)
    (rw (c.moved-self.ensures, ap (λ (p : Plan). p.operation) c.put_back.ensures.same)
    at c.go_on.ensures.fewer)
