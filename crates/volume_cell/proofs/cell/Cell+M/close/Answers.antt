use Rattle.std.proofs.Common.{arith, ap}
use Rattle.volume_cell.proofs.Turns.{retires, closes-told}
use Rattle.volume_cell.proofs.cell.Cell+M.close.Goals as goal

pub split_seat-told-requires : goal.split_seat-told-requires
split_seat-told-requires g c = (
  c.requires.pass.table,
  omega (arith, c.args.self.sizes.0),
  retires g.M.Machine.start g.M.Machine.stands_for _ _ _,
)

pub returns : goal.returns
returns g c = let p = c.requires.pass in let e = c.split_seat-told.ensures in
    let told =
    closes-told g.M.Machine.start g.M.Machine.stands_for _ _ c.args.pass.me.0 _
    c.split_seat-told.result.me.0 _ _ c.close_with-closed.ensures.values.2 (ap (λ m. m.0) e.2)
    (ap (λ m. m.0) e.4) p.ready c.requires.first c.requires.whole
    _ c.take-held.ensures.value _ c.into_machine.ensures in
    record { pass = ap (λ m. m.0) e.4; stands = told.0; start = told.1; law = told.2 }
