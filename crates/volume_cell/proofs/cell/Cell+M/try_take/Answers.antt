use Rattle.std.proofs.Common.{◌+◌, ◌<◌, ◌/◌, arith, refl, subst}
use Rattle.volume_cell.proofs.Turns.{exchanges}
use Rattle.volume_cell.proofs.Asked.{tried}
use Rattle.volume_cell.proofs.cell.Cell+M.try_take.Goals as goal

pub compare_exchange-found-requires : goal.compare_exchange-found-requires
compare_exchange-found-requires g c = (
  c.requires.table,
  omega (arith, c.args.self.now.sizes.0),
  exchanges g.M.Machine.start g.M.Machine.stands_for _ _ _ _ c.requires.ready c.args.word _
      c.if-word-eq0.true
      (subst (λ n. c.args.word / 2 < n) c.args.self.now.terms.0 c.if-word-self.true) refl,
)

pub returns-then-word-self : goal.returns-then-word-self
returns-then-word-self g c = let e = c.compare_exchange-found.ensures in
    tried g.M.Machine.start g.M.Machine.stands_for _ c.args.pass.now
    c.compare_exchange-found.new.seat c.args.self.now.table.shared.table_id.slots c.args.word
    (c.args.word + 1) c.compare_exchange-found.result c.requires.empty e.2 e.0 c.if-word-self.true
