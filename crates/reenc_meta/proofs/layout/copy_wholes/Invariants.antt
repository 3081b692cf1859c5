use Rattle.std.proofs.Common.{◌≡◌, map, take}
use Rattle.reenc_meta.proofs.layout.copy_wholes.Given as goal

abbrev pub invariant-loop-segment : goal.invariant-loop-segment
invariant-loop-segment l =
    l.wholes.items ≡ map (λ s. s.1) (take l.segment-index l.segment-items)
