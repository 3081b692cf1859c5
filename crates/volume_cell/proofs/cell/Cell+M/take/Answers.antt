use Rattle.std.proofs.Common.{arith, ap, ◌∙◌}
use Rattle.volume_cell.proofs.Turns.{loads}
use Rattle.volume_cell.proofs.Asked.{no-look, looked-on, full-now, full-still, still-twice}
use Rattle.volume_cell.proofs.Asked.{looked-pass, taken-later}
use Rattle.volume_cell.proofs.cell.Cell+M.take.Goals as goal

pub loop-init : goal.loop-init
loop-init g c = no-look _ _ c.requires

pub load-word-requires : goal.load-word-requires
load-word-requires g c = let l = c.loop.invariant in (
  l.table ∙ c.requires.table,
  omega (arith, c.args.self.now.sizes.0),
  loads g.M.Machine.start g.M.Machine.stands_for _ _ _ _
      (ap (λ m. m.0.stage) l.is ∙ c.requires.ready),
)

pub returns-then-word-self : goal.returns-then-word-self
returns-then-word-self g c =
    full-still _ _ _ (still-twice _ _ _ c.mark_again.ensures c.wake.ensures) _
    (full-now c.args.pass.now c.loop.pass c.load-word.new.seat c.load-word.result c.loop.invariant
    c.load-word.ensures.2 c.load-word.ensures.0 c.args.self.now.limit c.if-word-self.true)

pub try_take-requires : goal.try_take-requires
try_take-requires g c =
    looked-pass _ _ _ c.requires
    (looked-on c.args.pass.now c.loop.pass c.load-word.new.seat c.load-word.result c.loop.invariant
    c.load-word.ensures.2 c.load-word.ensures.0)

pub returns-then-try_take : goal.returns-then-try_take
returns-then-try_take g c =
    taken-later g.M.Machine.start g.M.Machine.stands_for _ c.args.pass.now c.load-word.new.seat
    c.try_take.new.pass c.mark_again-then-try_take.new.pass
    (looked-on c.args.pass.now c.loop.pass c.load-word.new.seat c.load-word.result c.loop.invariant
    c.load-word.ensures.2 c.load-word.ensures.0) c.if-try_take.ensures
    c.mark_again-then-try_take.ensures
