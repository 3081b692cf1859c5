use Rattle.std.proofs.Common.{refl}
use Rattle.lane_plan.proofs.PlanCourse.{next-read, next-write, piece-fits, source-fits}
use Rattle.lane_plan.proofs.PlanMoves.{fewer-next}
use Rattle.lane_plan.proofs.plan.Plan.go_on.Goals as goal

pub returns-in-Read-clause-awaits : goal.returns-in-Read-clause-awaits
returns-in-Read-clause-awaits g c = λ op alone back.
    next-read back (rw c.rest.ensures at c.next_piece-piece.ensures) (rw c.in-Read.is tt) refl
    c.lent.ensures.part c.lent.ensures.whole c.lent.ensures.same

pub returns-in-Read-clause-fewer : goal.returns-in-Read-clause-fewer
returns-in-Read-clause-fewer g c = fewer-next c.args.self.now c.lent.new.self c.lent.ensures.same

pub prepared-requires-clause-whole : goal.prepared-requires-clause-whole
prepared-requires-clause-whole g c κs within =
    let (op, alone, back) = c.requires.back in
    source-fits c.source_of-from.result _ back (rw c.rest.ensures at c.next_piece-piece.ensures)
    (rw c.in-Write.is tt) c.source_of-from.ensures refl

pub prepared-requires-clause-part : goal.prepared-requires-clause-part
prepared-requires-clause-part g c κs within = λ other.
    let (op, alone, back) = c.requires.back in
    piece-fits _ back (rw c.rest.ensures at c.next_piece-piece.ensures) refl other

-- a cipher that goes to threads has its laws wherever they run; here where the caller does
pub returns-in-Write-clause-awaits : goal.returns-in-Write-clause-awaits
returns-in-Write-clause-awaits g c =
    λ op alone back. next-write g.C.SectorCipher.sector g.C.SectorCipher.sealed
    g.C.SectorCipher.opened c.args.keys.now c.args.self.now c.prepared.new.self
    op alone c.args.map c.next_piece-piece.result c.prepared.result c.source_of-from.result
    _ (g.met.C.SectorCipher g.world.𝓛 g.world.𝓜 g.world.𝓡
    ((λ s x. x), (λ x. x), (λ x. x), λ x. x)).unseal_undoes_seal c.requires.fits back
    (rw c.rest.ensures at c.next_piece-piece.ensures) (rw c.in-Write.is tt)
    c.source_of-from.ensures refl
    c.prepared.ensures.bytes c.prepared.ensures.length c.prepared.ensures.are_bytes
    c.prepared.ensures.plain c.prepared.ensures.room c.prepared.ensures.rest c.prepared.ensures.same

pub returns-in-Write-clause-fewer : goal.returns-in-Write-clause-fewer
returns-in-Write-clause-fewer g c = fewer-next c.args.self.now c.prepared.new.self
    c.prepared.ensures.same
