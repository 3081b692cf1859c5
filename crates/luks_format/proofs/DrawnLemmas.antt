-- Drawn bytes that are dealt out one after the other are those that stand at their places.
use Rattle.std.proofs.Common.{◌≡◌, ℕ, ◌+◌, List, length, drop, sym, ◌∙◌, arith}
use Rattle.std.proofs.Common.{length-drop}
use Rattle.std.proofs.lemmas.List.{take_all}
use Rattle.luks_slots.specs.KeyMaking.Drawings.{piece}

-- the last piece, where no more is left
pub dealt-last : (from count : ℕ) (bytes rest : List ℕ) → rest ≡ drop from bytes
    → length bytes ≡ from + count → rest ≡ piece from count bytes
dealt-last from count bytes rest is long =
    let size = length-drop from bytes in
    is ∙ sym (take_all count (drop from bytes) (omega (arith, size, long)))
