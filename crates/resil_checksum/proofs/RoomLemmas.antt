-- How much room saved digests take.
use Rattle.std.proofs.Common.{◌≡◌, ℕ, suc, ◌+◌, ◌*◌, ◌/◌, ◌%◌, ◌<◌, ◌≤◌, ◌↔◌, arith, inl, inr}
use Rattle.std.proofs.Math.Nat.{mul-le-mul_right, mod-add-div'}
use Rattle.std.proofs.lemmas.Bool.{cases_lt}
use Rattle.std.proofs.lemmas.Grind.{div_ceil_times}
use Rattle.std.specs.Int.{div_ceil}
use Rattle.resil_checksum.specs.Digests.{saved_len}

-- a whole number of units that has room for so much has it for the units that this takes
units-fit : (n area unit : ℕ) → 0 < unit → area % unit ≡ 0 → n ≤ area → div_ceil n unit * unit ≤ area
units-fit n area unit some whole fits =
    let parts : area % unit + area / unit * unit ≡ area = mod-add-div' area unit in
    let least = (div_ceil_times n unit some).1 in
    elim (cases_lt (area / unit) (div_ceil n unit)) [
      | inl more ↦
          let past : suc (area / unit) * unit ≤ div_ceil n unit * unit = mul-le-mul_right unit more in
          let next : suc (area / unit) * unit ≡ unit + area / unit * unit = grind arith in
          absurd (omega (arith, least, past, next, parts, whole, fits))
      | inr enough ↦
          let within : div_ceil n unit * unit ≤ area / unit * unit = mul-le-mul_right unit enough in
          omega (arith, within, parts, whole)
    ]

pub fills : (area blocks atom : ℕ) → 0 < atom → area % atom ≡ 0
    → (blocks ≤ area / 32) ↔ (saved_len blocks atom ≤ area)
fills area blocks atom some whole =
    let least = (div_ceil_times (blocks * 32) atom some).0 in (
      λ few. units-fit (blocks * 32) area atom some whole (omega (arith, few)),
      λ fits. omega (arith, least, fits),
    )

-- the digests lie within
pub digests-within : (blocks atom : ℕ) → 0 < atom → blocks * 32 ≤ saved_len blocks atom
digests-within blocks atom some = (div_ceil_times (blocks * 32) atom some).0
