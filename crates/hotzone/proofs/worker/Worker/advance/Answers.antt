use Rattle.std.proofs.Common.{sym, subst}
use Rattle.hotzone.proofs.AskLemmas.{may-make}
use Rattle.hotzone.proofs.GuardLemmas.{room-later}
use Rattle.hotzone.proofs.LaidLemmas.{sealed-put}
use Rattle.hotzone.proofs.StepLemmas.{made-on, stepped-by}
use Rattle.hotzone.proofs.WorkingLemmas.{known-atom}
use Rattle.hotzone.proofs.SliceLemmas.{begun-put}
use Rattle.hotzone.specs.Laid.{IsBegun, IsSealed}
use Rattle.luks_rules.specs.States.{IsSound}
use Rattle.luks_rules.specs.declared.valid.Checked.{Checked}
use Rattle.volume_machine.specs.Seals.{seals_of}
use Rattle.hotzone.proofs.worker.Worker.advance.Goals as goal

pub make-next-requires-clause-may : goal.make-next-requires-clause-may
make-next-requires-clause-may g c =
    let next = c.take_next-call.ensures in
    let may = may-make g.C.SectorCipher.sector c.args.self.now c.requires.working
    (subst (λ (x : Checked). IsSound x.meta x.sizes) c.valid.ensures c.is_sound.ensures) _
    c.requires.sizes c.requires.runs c.requires.next in
    rw (next.rest, next.next) (λ κs lives. may)

pub returns-clause-stepped : goal.returns-clause-stepped
returns-clause-stepped g c =
    let next = c.take_next-call.ensures in
    stepped-by g.C.SectorCipher.sector _ _ _ c.args.self.now c.requires.working c.requires.runs
    c.requires.sizes c.make-next.new.self _ c.make-next.result.next c.make-next.result.answer _
    (made-on _ _ _ c.args.self.now c.make-next.new.self _ c.make-next.result next.next
    (rw next.rest at c.make-next.ensures.makes)) c.put_answer.ensures

pub returns-clause-room : goal.returns-clause-room
returns-clause-room g c =
    let next = c.take_next-call.ensures in
    let stepped = stepped-by g.C.SectorCipher.sector _ _ _ c.args.self.now c.requires.working
    c.requires.runs c.requires.sizes c.make-next.new.self _ c.make-next.result.next
    c.make-next.result.answer _
    (made-on _ _ _ c.args.self.now c.make-next.new.self _ c.make-next.result next.next
    (rw next.rest at c.make-next.ensures.makes)) c.put_answer.ensures in
    room-later c.args.self.now.site _ c.args.scratch.now c.make-next.new.scratch
    (known-atom g.C.SectorCipher.sector c.args.self.now c.requires.working) stepped.site
    c.make-next.ensures.scratch c.requires.room

pub make-next-requires-clause-sealed : goal.make-next-requires-clause-sealed
make-next-requires-clause-sealed g c κs lives =
    subst (λ w. IsSealed (seals_of g.C.SectorCipher.sealed g.C.SectorCipher.opened w.site.atom w.keys)
    w c.args.scratch.now) (sym c.take_next-call.ensures.rest) c.requires.sealed

pub returns-clause-sealed : goal.returns-clause-sealed
returns-clause-sealed g c =
    sealed-put (seals_of g.C.SectorCipher.sealed g.C.SectorCipher.opened) c.make-next.new.self _
    c.make-next.result.next c.make-next.result.answer _ c.make-next.new.scratch
    c.put_answer.ensures c.make-next.ensures.sealed

pub make-next-requires-clause-begun : goal.make-next-requires-clause-begun
make-next-requires-clause-begun g c κs lives =
    subst (λ w. IsBegun (seals_of g.C.SectorCipher.sealed g.C.SectorCipher.opened w.site.atom w.keys)
    w c.args.scratch.now) (sym c.take_next-call.ensures.rest) c.requires.begun

pub returns-clause-begun : goal.returns-clause-begun
returns-clause-begun g c =
    begun-put (seals_of g.C.SectorCipher.sealed g.C.SectorCipher.opened) c.make-next.new.self _
    c.make-next.result.next c.make-next.result.answer _ c.make-next.new.scratch
    c.put_answer.ensures c.make-next.ensures.begun
