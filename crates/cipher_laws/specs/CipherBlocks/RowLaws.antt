-- Where the sectors of a row stand, and the units that they have.
use Rattle.std.proofs.Common.{length, ◌≡◌, ℕ, List, ◌+◌, ◌*◌, ◌/◌, ◌%◌, ◌<◌, ◌≤◌, ◌∙◌, ap, sym}
use Rattle.std.proofs.Common.{arith}
use Rattle.std.proofs.Math.Nat.{mod-add-div', div-mul-le_self, mul-le-mul_right, mul_assoc}

-- whole sectors are as many bytes
pub whole_sectors : (size : ℕ) (bytes : List ℕ) → 0 < size → length bytes % size ≡ 0
    → length bytes ≡ length bytes / size * size
whole_sectors size bytes some whole =
    let parts : length bytes % size + length bytes / size * size ≡ length bytes =
    mod-add-div' (length bytes) size in omega arith

-- a sector with those before it lies within the row
pub sectors_within : (size long i : ℕ) → i < long / size → size * (i + 1) ≤ long
sectors_within size long i inside =
    let le : (i + 1) * size ≤ long / size * size = mul-le-mul_right size (omega arith) in
    let all : long / size * size ≤ long = div-mul-le_self long size in
    omega arith

-- so its number and those before it come to no more than the row's units of 512 bytes
pub units_within : (size long i : ℕ) → size % 512 ≡ 0 → i < long / size
    → (i + 1) * (size / 512) ≤ long / 512
units_within size long i units inside =
    let size_is : size ≡ size / 512 * 512 = omega arith in
    let within : size * (i + 1) ≤ long = sectors_within size long i inside in
    let product : (i + 1) * size ≡ (i + 1) * (size / 512) * 512 =
    ap (λ (k : ℕ). (i + 1) * k) size_is ∙ sym (mul_assoc (i + 1) (size / 512) 512) in
    omega arith
