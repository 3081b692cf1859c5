use Rattle.std.proofs.Common.{◌≡◌, ◌++◌, drop, map}
use Rattle.std.specs.List.{filter}
use Rattle.reenc_meta.specs.Finishes.{finished_segment, is_new_whole}
use Rattle.reenc_meta.proofs.finishing.keep_segment.Given as goal

abbrev pub invariant-loop-segment : goal.invariant-loop-segment
invariant-loop-segment l =
    l.kept.items ++ map (finished_segment l.sizes l.progress)
    (filter (is_new_whole l.progress) (drop l.segment-index l.segments))
    ≡ map (finished_segment l.sizes l.progress) (filter (is_new_whole l.progress) l.segments)
