-- Facts about bytes that are computed at each of the 256.
use Rattle.std.proofs.Common.{◌≡◌, ℕ, zero, suc, ◌<◌, ◌*◌, ◌/◌, Bool, true, false, ◌&&◌, bit_xor}
use Rattle.std.proofs.Common.{refl, arith, inl, inr, eqb→eq, T, subst, sym}
use Rattle.std.specs.Prelude.{◌==◌}
use Rattle.std.proofs.lemmas.Bool.{cases_eq}
use Rattle.aes_core.specs.Field.{sum_of_multiples, inverse_below, times, times_x, inverse}
use Rattle.aes_core.specs.Boxes.{s_box, inverse_s_box}

-- f and g agree below n
unfoldable pub agree_below : (ℕ → ℕ) → (ℕ → ℕ) → ℕ → Bool
agree_below f g zero = true
agree_below f g (suc n) = (f n == g n) && agree_below f g n

both_of : (x rest : Bool) → (x && rest) ≡ true → (x ≡ true) × (rest ≡ true)
both_of true rest h = (refl, h)
both_of false rest h = cc

-- and so at each number below n
pub agree_at : (f g : ℕ → ℕ) (n : ℕ) → agree_below f g n ≡ true → (b : ℕ) → b < n → f b ≡ g b
unfolding agree_below
agree_at f g zero h b lt = absurd (omega arith)
agree_at f g (suc n) h b lt =
    let both = both_of (f n == g n) (agree_below f g n) h in
    elim (cases_eq b n) [
      | inl same ↦ rw same (eqb→eq (f n) (g n) (subst T (sym both.0) tt))
      | inr other ↦ agree_at f g n both.1 b (omega arith)
    ]

-- what is computed at each byte holds at each byte
pub at_each_byte : (f g : ℕ → ℕ) → agree_below f g 256 ≡ true → (b : ℕ) → b < 256 → f b ≡ g b
at_each_byte f g h = agree_at f g 256 h

-- the inverse is one (4.4)
pub inverse_is : (b : ℕ) → 0 < b → b < 256 → times b (inverse b) ≡ 1
unfolding agree_below inverse_below sum_of_multiples
inverse_is zero positive fits = absurd (omega arith)
inverse_is (suc b) positive fits =
    agree_at (λ n. times (suc n) (inverse (suc n))) (λ _. 1) 255 refl b (omega arith)

-- each box undoes the other
pub s_box_undone : (b : ℕ) → b < 256 → inverse_s_box (s_box b) ≡ b
unfolding agree_below s_box inverse_s_box inverse_below sum_of_multiples
s_box_undone = at_each_byte (λ b. inverse_s_box (s_box b)) (λ b. b) refl

pub inverse_s_box_undone : (b : ℕ) → b < 256 → s_box (inverse_s_box b) ≡ b
unfolding agree_below s_box inverse_s_box inverse_below sum_of_multiples
inverse_s_box_undone = at_each_byte (λ b. s_box (inverse_s_box b)) (λ b. b) refl

-- they give bytes
pub s_box_fits : (b : ℕ) → s_box b < 256
unfolding s_box
s_box_fits b = omega arith

pub inverse_s_box_fits : (b : ℕ) → b < 256 → inverse_s_box b < 256
unfolding agree_below inverse_s_box inverse_below sum_of_multiples
inverse_s_box_fits b lt = let high : inverse_s_box b / 256 ≡ 0 =
    at_each_byte (λ b. inverse_s_box b / 256) (λ _. 0) refl b lt in omega arith

-- a product by x, and its parts
pub times_x_fits : (b : ℕ) → b < 256 → times_x b < 256
unfolding agree_below
times_x_fits b lt = let high : times_x b / 256 ≡ 0 =
    at_each_byte (λ b. times_x b / 256) (λ _. 0) refl b lt in omega arith

pub times_x_parts : (b : ℕ) → b < 256 → times_x b ≡ bit_xor (b * 2) (b / 128 * 0x11b)
unfolding agree_below
times_x_parts = at_each_byte times_x (λ b. bit_xor (b * 2) (b / 128 * 0x11b)) refl

-- two entries of the S-box that the standard works out
pub s_box_of_00 : s_box 0x00 ≡ 0x63
unfolding s_box inverse_below sum_of_multiples
s_box_of_00 = refl

pub s_box_of_53 : s_box 0x53 ≡ 0xed
unfolding s_box inverse_below sum_of_multiples
s_box_of_53 = refl
