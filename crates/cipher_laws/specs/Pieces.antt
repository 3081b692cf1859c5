-- Bytes worked on piece after piece.
use Rattle.std.specs.Prelude.{ℕ, zero, suc, List, [], ◌++◌, take, drop}

-- `n` pieces of `size` bytes in turn: under the value `s` a piece becomes `change s piece`, and the
-- piece after it has the value `next s piece (change s piece)`
unfoldable pub worked : {S : Type 0} → (S → List ℕ → List ℕ) → (S → List ℕ → List ℕ → S) → ℕ → S → ℕ
    → List ℕ → List ℕ
worked change next size s zero bytes = []
worked change next size s (suc n) bytes =
    change s (take size bytes)
    ++ worked change next size (next s (take size bytes) (change s (take size bytes))) n
    (drop size bytes)
