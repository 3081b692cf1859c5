use Rattle.std.proofs.Common.{◌≡◌, ◌++◌, drop, map, not}
use Rattle.std.specs.List.{filter}
use Rattle.reenc_meta.specs.Finishes.{finished_digest, is_old_digest}
use Rattle.reenc_meta.proofs.finishing.keep_digests.Given as goal

abbrev pub invariant-loop-digest : goal.invariant-loop-digest
invariant-loop-digest l =
    l.kept.items ++ map (finished_digest l.progress)
    (filter (λ d. not (is_old_digest l.progress d)) (drop l.digest-index l.digests))
    ≡ map (finished_digest l.progress)
    (filter (λ d. not (is_old_digest l.progress d)) l.digests)
