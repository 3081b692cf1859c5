use Rattle.std.proofs.Common.{◌+◌, ◌*◌}
use Rattle.unit_tests.proofs.cells.+tree.Given as goal

abbrev pub decreases-ask_in_tree : goal.decreases-ask_in_tree
decreases-ask_in_tree g l = 2 * l.levels + 1

abbrev pub decreases-ask_left : goal.decreases-ask_left
decreases-ask_left g l = 2 * l.levels

abbrev pub decreases-ask_right : goal.decreases-ask_right
decreases-ask_right g l = 2 * l.levels
