use Rattle.std.proofs.Common.{◌≡◌, map, take}
use Rattle.reenc_meta.proofs.runs.list_sides.Given as goal

abbrev pub invariant-loop-run : goal.invariant-loop-run
invariant-loop-run l = l.sides.items ≡ map (λ run. run.side) (take l.run-index l.runs)
