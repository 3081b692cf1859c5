use Rattle.std.proofs.Common.{◌≡◌}
use Rattle.volume_cell.specs.Knowing.{IsWhole}
use Rattle.volume_cell.specs.Passes.{known, IsPassOf}
use Rattle.unit_tests.proofs.cells.ask_often.Given as goal

abbrev pub invariant-loop : goal.invariant-loop
invariant-loop g l =
    IsPassOf l.fn.cell l.pass × IsWhole (known l.pass)
    × ((known l.pass).name ≡ (known l.initial.pass).name)
