use Rattle.std.proofs.Common.{rules, ◌∷◌, refl, sym, ap, ◌∙◌}
use Rattle.atomic_table.specs.Table.{rest}
use Rattle.volume_cell.proofs.Asked.{can-now, has-acted}
use Rattle.volume_cell.proofs.cell.Cell+M.act.Goals as goal

pub slot_mut-held-requires : goal.slot_mut-held-requires
slot_mut-held-requires g c = let t =
    c.requires.can in (c.requires.table, (t.held, t.is ∙ ap (λ l. (0, t.held) ∷ rest l) (sym t.is)))

pub act-requires : goal.act-requires
act-requires g c = let k =
    can-now g.M.Machine.start g.M.Machine.stands_for 0 g.M.Machine.fits c.args.pass.now c.args.event
    c.slot_mut-held.result.now c.requires.can c.slot_mut-held.ensures.value in
    (search rules, (c.args.pass.now.me.0.history, c.args.pass.now.me.0.name, k.0, k.1))

pub returns : goal.returns
returns g c = let k =
    can-now g.M.Machine.start g.M.Machine.stands_for 0 g.M.Machine.fits c.args.pass.now c.args.event
    c.slot_mut-held.result.now c.requires.can c.slot_mut-held.ensures.value in
    has-acted g.M.Machine.start g.M.Machine.stands_for 0 c.args.pass.now _ c.args.event _
    c.slot_mut-held.result.now c.act.new.self refl refl k.3 c.act.ensures.noted
    (c.act.ensures.stands c.args.pass.now.me.0.history c.args.pass.now.me.0.name k.0 k.1) k.2
    c.act.ensures.start
