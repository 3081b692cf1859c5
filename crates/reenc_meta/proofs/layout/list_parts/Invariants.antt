use Rattle.std.proofs.Common.{◌≡◌, take}
use Rattle.reenc_meta.specs.Layouts.{parts_by}
use Rattle.reenc_meta.proofs.layout.list_parts.Given as goal

abbrev pub invariant-loop-run : goal.invariant-loop-run
invariant-loop-run l = l.parts.items ≡ parts_by l.atom l.progress (take l.run-index l.runs)
