use Rattle.std.proofs.Common.{◌≡◌, ◌++◌, drop, map, not}
use Rattle.std.specs.List.{filter}
use Rattle.serde_json.specs.View.{view}
use Rattle.reenc_meta.specs.Finishes.{is_dropped, names_dropped}
use Rattle.reenc_meta.proofs.token.keep_values.Given as goal

abbrev pub invariant-loop-value : goal.invariant-loop-value
invariant-loop-value l =
    map view l.kept.items
    ++ filter (λ d. not (names_dropped (is_dropped l.progress l.digests) d))
    (map view (drop l.value-index l.values))
    ≡ filter (λ d. not (names_dropped (is_dropped l.progress l.digests) d)) (map view l.values)
