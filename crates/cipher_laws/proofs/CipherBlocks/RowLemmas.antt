-- Loops over the sectors of a row.
use Rattle.std.proofs.Common.{◌++◌, length, take, drop, refl, ◌≡◌, ℕ, List, ◌+◌, ◌-◌, ◌*◌, ◌/◌, ◌<◌}
use Rattle.std.proofs.Common.{◌≤◌, arith}
use Rattle.cipher_laws.specs.CipherBlocks.UnderWay.{IsUnderWay}
use Rattle.cipher_laws.specs.CipherBlocks.UnderWayLaws.{under_way_first, under_way_more, under_way_last}
use Rattle.cipher_laws.specs.Sectors.{by_sectors}

-- a loop over a row: the sectors before i of n are done, and the others are worked on from `number`
pub record IsRowUnderWay (change : ℕ → List ℕ → List ℕ) (size first number i n : ℕ)
    (old bytes : List ℕ) : Type 0 where
  pub number_is : number ≡ first + i * (size / 512)
  pub way : IsUnderWay change (λ s _ _. s + size / 512) size number (n - i) (size * i)
      (by_sectors change size first old) bytes

pub row_first : (change : ℕ → List ℕ → List ℕ) (size first : ℕ) (bytes : List ℕ)
    → IsRowUnderWay change size first first 0 (length bytes / size) bytes bytes
unfolding by_sectors
row_first change size first bytes =
    record {
      number_is = omega arith;
      way =
          under_way_first first (length bytes / size - 0) (length bytes / size) (size * 0) bytes
          (omega arith) (omega arith);
    }

pub row_more : {change : ℕ → List ℕ → List ℕ} {size first number i n : ℕ} {old bytes : List ℕ}
    → IsRowUnderWay change size first number i n old bytes → (sector new : List ℕ) →
    i < n → size * (i + 1) ≤ length bytes → length sector ≡ size
    → sector ≡ change number (take size (drop (size * i) bytes))
    → new ≡ (take (size * i) bytes ++ sector) ++ drop (size * i + size) bytes →
    IsRowUnderWay change size first (number + size / 512) (i + 1) n old new
row_more {change} {size} {first} {number} {i} {n} {old} {bytes} row sector new inside within long is
    new_is = record {
      number_is = omega (arith, row.number_is);
      way = under_way_more row.way (n - (i + 1)) (size * (i + 1)) (number + size / 512) sector new
          (omega arith) (omega arith) within long is refl new_is;
    }

pub row_last : {change : ℕ → List ℕ → List ℕ} {size first number i n : ℕ} {old bytes : List ℕ}
    → IsRowUnderWay change size first number i n old bytes → n ≤ i → length bytes ≡ size * i →
    bytes ≡ by_sectors change size first old
row_last row ended long = under_way_last row.way (omega arith) long
