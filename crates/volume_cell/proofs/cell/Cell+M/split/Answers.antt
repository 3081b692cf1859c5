use Rattle.std.proofs.Common.{arith, ap, ◌∙◌}
use Rattle.volume_cell.proofs.Turns.{splits}
use Rattle.volume_cell.proofs.cell.Cell+M.split.Goals as goal

pub split_seat-requires : goal.split_seat-requires
split_seat-requires g c = (
  c.requires.pass.table,
  omega (arith, c.args.self.now.sizes.0),
  splits g.M.Machine.start g.M.Machine.stands_for _ _ _ c.requires.pass.ready,
)

pub returns : goal.returns
returns g c = let p = c.requires.pass in let e = c.split_seat.ensures in record {
  pass = (
    record {
      table = e.0 ∙ p.table;
      ready = ap (λ m. m.0.stage) e.2 ∙ p.ready;
      empty =
          ap (λ m. m.1) e.2 ∙ p.empty;
    },
    ap (λ m. m.0) e.2,
  );
  new = (
    record
        { table = e.3 ∙ p.table; ready = ap (λ m. m.0.stage) e.4; empty = ap (λ m. m.1) e.4 },
    ap (λ m. m.0) e.4,
  );
}
