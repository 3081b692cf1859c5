-- Sectors in a row.
use Rattle.std.specs.Prelude.{◌≡◌, ℕ, ◌+◌, ◌-◌, ◌*◌, ◌/◌, List, length, take, drop}
use Rattle.cipher_laws.specs.CipherBlocks.UnderWay.{IsUnderWay}
use Rattle.cipher_laws.specs.Sectors.{by_sectors}
use Rattle.cbc_essiv.specs.Cbc.{cbc_essiv_sealed}

-- sector k of sectors of `size` bytes in a row, the first of which is sector 0
abbrev pub sector_of : ℕ → ℕ → List ℕ → List ℕ
sector_of size k row = take size (drop (size * k) row)

-- sectors in a row whose first n are sealed, and whose others are still to be sealed, the first of
-- them under this number
pub record IsSealedTo (seal seal_iv : List ℕ → List ℕ) (size n first number : ℕ)
    (old bytes : List ℕ) : Type 0 where
  pub number_is : number ≡ first + n * (size / 512)
  pub way : IsUnderWay (cbc_essiv_sealed seal seal_iv) (λ s _ _. s + size / 512) size number
      (length old / size - n) (size * n) (by_sectors (cbc_essiv_sealed seal seal_iv) size first old)
      bytes
