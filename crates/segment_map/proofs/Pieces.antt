-- The longest run that a number of bytes allows.
use Rattle.std.proofs.Common.{ℕ, suc, ◌*◌, ◌/◌, ◌<◌, ◌≤◌, arith}
use Rattle.std.proofs.Math.Nat.{mul-le-mul_right}

-- as many as fit
pub div-some : (bytes size : ℕ) → 0 < size → size ≤ bytes → 0 < bytes / size
div-some bytes size some fits = grind arith

pub times-div : (bytes size count : ℕ) → 0 < size → count ≤ bytes / size → count * size ≤ bytes
times-div bytes size count some within =
    let le : count * size ≤ bytes / size * size = mul-le-mul_right size within in
    omega (arith, le)

-- and one more does not
pub div-most : (bytes size : ℕ) → 0 < size → bytes < (suc (bytes / size)) * size
div-most bytes size some = omega arith
