-- The double of a tweak, as the code computes it.
use Rattle.std.proofs.Common.{◌≡◌, ℕ, ◌-◌, ◌*◌, ◌/◌, ◌%◌, ◌^◌, ◌<◌, bit_xor, refl, arith, inl, inr}
use Rattle.std.specs.Int.Bits.{xor_zero_r}
use Rattle.std.proofs.lemmas.Bool.{cases_lt, lt-ltb, le-ltb}
use Rattle.xts_mode.specs.Xts.{doubled}

pub doubled_is : (tweak : ℕ) → tweak < 2 ^ 128
    → bit_xor (tweak * 2 % 2 ^ 128) (tweak / 2 ^ 127 * 135) ≡ doubled tweak
unfolding doubled
doubled_is tweak fits =
    elim (cases_lt tweak (2 ^ 127)) [
      | inl low ↦ let none : tweak / 2 ^ 127 ≡ 0 = omega arith in
          let kept : tweak * 2 % 2 ^ 128 ≡ 2 * tweak = omega arith in
          rw (none, kept, lt-ltb tweak (2 ^ 127) low) (xor_zero_r (2 * tweak))
      | inr high ↦ let one : tweak / 2 ^ 127 ≡ 1 = omega arith in
          let kept : tweak * 2 % 2 ^ 128 ≡ 2 * tweak - 2 ^ 128 = omega arith in
          rw (one, kept, le-ltb tweak (2 ^ 127) high) refl
    ]
