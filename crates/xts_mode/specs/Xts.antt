-- XTS (IEEE 1619) on sectors of whole blocks, over two block ciphers: `change` is what the data
-- cipher makes of a block, and
-- `seal_tweak` what the tweak's cipher does.
use Rattle.std.specs.Prelude.{ℕ, zero, suc, ◌-◌, ◌*◌, ◌/◌, ◌^◌, List, length, nat_lt, bit_xor}
use Rattle.std.specs.Prelude.{if◌then◌else◌}
use Rattle.std.specs.Int.{from_le_bytes, w128}
use Rattle.cipher_laws.specs.CipherBlocks.Blocks.{xored, number_block}
use Rattle.cipher_laws.specs.CipherBlocks.UnderWay.{IsUnderWay}
use Rattle.cipher_laws.specs.Pieces.{worked}

-- A tweak is a block, as a number whose lowest byte comes first. Times alpha (5.2): shifted left by
-- one; the bit that falls out of the 128 comes back as 135 in the lowest byte, by x^128 = x^7 + x^2
-- + x + 1.
unfoldable pub doubled : ℕ → ℕ
doubled tweak = if nat_lt tweak (2 ^ 127) then 2 * tweak else bit_xor (2 * tweak - 2 ^ 128) 135

-- a tweak, doubled k times
unfoldable pub doubled_times : ℕ → ℕ → ℕ
doubled_times zero tweak = tweak
doubled_times (suc k) tweak = doubled (doubled_times k tweak)

-- one block under its tweak (5.3.1)
unfoldable pub whitened : (List ℕ → List ℕ) → ℕ → List ℕ → List ℕ
whitened change tweak block = xored (change (xored block (number_block tweak))) (number_block tweak)

-- the blocks of a sector, the first of them under this tweak and each other one under the double of
-- the tweak before (5.3.2)
unfoldable pub xts_from : (List ℕ → List ℕ) → ℕ → List ℕ → List ℕ
xts_from change tweak sector =
    worked (whitened change) (λ t _ _. doubled t) 16 tweak (length sector / 16) sector

-- a sector whose first blocks are done and lie before `at`, and whose blocks from there on are
-- still to be worked on, the first of them under this tweak, so that the whole becomes `total`
abbrev pub IsWhitenedTo : (List ℕ → List ℕ) → ℕ → ℕ → List ℕ → List ℕ → Type 0
IsWhitenedTo change at tweak total sector =
    IsUnderWay (whitened change) (λ t _ _. doubled t) 16 tweak ((length sector - at) / 16) at total
    sector

-- a sector under its number, whose block, sealed, is the first tweak
unfoldable pub xts : (List ℕ → List ℕ) → (List ℕ → List ℕ) → ℕ → List ℕ → List ℕ
xts change seal_tweak number =
    xts_from change (from_le_bytes w128 (seal_tweak (number_block number)))
