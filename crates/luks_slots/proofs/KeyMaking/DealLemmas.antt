-- Bytes that are dealt out one after the other are those that stand at their places.
use Rattle.std.proofs.Common.{◌≡◌, ℕ, ◌+◌, List, take, drop, ◌∙◌, ap, arith}
use Rattle.std.proofs.lemmas.List.{drop-drop}
use Rattle.luks_slots.specs.KeyMaking.Drawings.{piece}

-- what is left behind a piece, of bytes that are left from one place on
pub left : (from count to : ℕ) (bytes rest more : List ℕ) → rest ≡ drop from bytes
    → more ≡ drop count rest → from + count ≡ to → more ≡ drop to bytes
left from count to bytes rest more is behind sum =
    behind ∙ ap (drop count) is ∙ drop-drop count from bytes
    ∙ ap (λ n. drop n bytes) (omega (arith, sum))

-- a piece of them
pub dealt : (from count : ℕ) (bytes rest front : List ℕ) → rest ≡ drop from bytes
    → front ≡ take count rest → front ≡ piece from count bytes
dealt from count bytes rest front is fronts = fronts ∙ ap (take count) is
