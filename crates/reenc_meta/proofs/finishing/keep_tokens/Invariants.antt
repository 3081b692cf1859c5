use Rattle.std.proofs.Common.{◌≡◌, map, take}
use Rattle.reenc_meta.specs.Finishes.{is_dropped, token_kept}
use Rattle.reenc_meta.proofs.finishing.keep_tokens.Given as goal

abbrev pub invariant-loop-token : goal.invariant-loop-token
invariant-loop-token l =
    l.kept.items
    ≡ map (λ t. (t.0, token_kept (is_dropped l.progress l.digests) t.1))
    (take l.token-index l.tokens)
