use Rattle.std.proofs.Common.{arith, ap, ◌∙◌}
use Rattle.volume_cell.proofs.Turns.{joins, confirms_it, joined-told}
use Rattle.volume_cell.proofs.cell.Cell+M.join.Goals as goal

pub join_seat-requires : goal.join_seat-requires
join_seat-requires g c = let p = c.requires.passes.0 in let o = c.requires.passes.1 in (
  p.table,
  o.table,
  o.empty,
  omega (arith, c.args.self.now.sizes.0),
  joins g.M.Machine.start g.M.Machine.stands_for _ _ _ _ _ p.ready o.ready c.requires.whole,
)

pub load-requires : goal.load-requires
load-requires g c = let p = c.requires.passes.0 in let j = c.join_seat.ensures in (
  j.0 ∙ p.table,
  omega (arith, c.args.self.now.sizes.0),
  confirms_it g.M.Machine.start g.M.Machine.stands_for _ _ _ _ (ap (λ m. m.0.stage) j.2 ∙ p.ready),
)

pub returns : goal.returns
returns g c = let p = c.requires.passes.0 in let j = c.join_seat.ensures in
    let told =
    joined-told g.M.Machine.start g.M.Machine.stands_for 0 c.args.pass.now.me.0 c.args.other.me.0 _
    _ _ j.2 p.empty c.load.ensures.2 in record {
      pass = (
        record {
          table = c.load.ensures.0 ∙ (j.0 ∙ p.table);
          ready =
              ap (λ m. m.0.stage) told.0 ∙ p.ready;
          empty = ap (λ m. m.1) told.0;
        },
        ap (λ m. m.0) told.0,
      );
      own = told.1;
      its = told.2;
      calls = told.3;
    }
