-- Whole sectors in a row.
use Rattle.std.specs.Prelude.{ℕ, ◌+◌, ◌/◌, List, length}
use Rattle.cipher_laws.specs.Pieces.{worked}

-- Sectors of `size` bytes in turn, each under its IV number: the first has the number `first`, and
-- every 512 bytes raise it by one.
unfoldable pub by_sectors : (ℕ → List ℕ → List ℕ) → ℕ → ℕ → List ℕ → List ℕ
by_sectors change size first bytes =
    worked change (λ number _ _. number + size / 512) size first (length bytes / size) bytes
