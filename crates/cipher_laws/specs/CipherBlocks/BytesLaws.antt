-- Lists of bytes, taken apart and put together.
use Rattle.std.proofs.Common.{◌≡◌, ℕ, ◌+◌, ◌-◌, ◌<◌, List, [], ◌++◌, zero, suc, length, get_or}
use Rattle.std.proofs.Common.{take, drop, refl, ap, subst, sym, arith, lit<, inl, inr}
use Rattle.std.proofs.lemmas.Bool.{cases_lt}
use Rattle.std.proofs.lemmas.List.{get_or_past, get_or_append_left, get_or-append_right}
use Rattle.std.proofs.lemmas.List.{get_or-take, get_or-drop, length-take}
use Rattle.std.specs.Int.{byte_at, bytes_low_first, to_le_bytes, w128}
use Rattle.cipher_laws.specs.Bytes.{AreBytes, IsBlock}

pub no_bytes : AreBytes []
no_bytes k = lit< tt

-- bytes within the list are enough
pub bytes_within : (xs : List ℕ) → ((k : ℕ) → k < length xs → get_or xs k 0 < 256) → AreBytes xs
bytes_within xs within k =
    elim (cases_lt k (length xs)) [
      | inl inside ↦ within k inside
      | inr past ↦
          subst (λ (x : ℕ). x < 256) (sym (get_or_past xs k 0 past)) (lit< tt)
    ]

pub bytes-append : (xs ys : List ℕ) → AreBytes xs → AreBytes ys → AreBytes (xs ++ ys)
bytes-append xs ys in_xs in_ys k =
    elim (cases_lt k (length xs)) [
      | inl front ↦ subst (λ (x : ℕ). x < 256) (sym (get_or_append_left xs ys 0 k front)) (in_xs k)
      | inr back ↦
          subst (λ (x : ℕ). x < 256) (sym (get_or-append_right xs ys (length xs) k 0 refl back))
          (in_ys (k - length xs))
    ]

pub bytes-drop : (n : ℕ) (xs : List ℕ) → AreBytes xs → AreBytes (drop n xs)
bytes-drop n xs in_xs k = subst (λ (x : ℕ). x < 256) (sym (get_or-drop n xs k 0)) (in_xs (n + k))

pub bytes-take : (n : ℕ) (xs : List ℕ) → AreBytes xs → AreBytes (take n xs)
bytes-take n xs in_xs = bytes_within (take n xs)
    (λ k inside. let below : k < n = omega (arith, length-take n xs) in
    subst (λ (x : ℕ). x < 256) (sym (get_or-take n xs k 0 below)) (in_xs k))

length-low_bytes : (i n x : ℕ) → length (bytes_low_first i n x) ≡ n
length-low_bytes i zero x = refl
length-low_bytes i (suc n) x = ap suc (length-low_bytes (suc i) n x)

byte_at_below : (i x : ℕ) → byte_at i x < 256
byte_at_below zero x = omega arith
byte_at_below (suc i) x = omega arith

low_bytes_below : (i n x k : ℕ) → get_or (bytes_low_first i n x) k 0 < 256
low_bytes_below i zero x k = lit< tt
low_bytes_below i (suc n) x zero = byte_at_below i x
low_bytes_below i (suc n) x (suc k) = low_bytes_below (suc i) n x k

-- a number's 16 bytes are a block
pub number_is_block : (n : ℕ) → IsBlock (to_le_bytes w128 n)
number_is_block n =
    record { length_is = length-low_bytes 0 16 n; are_bytes = low_bytes_below 0 16 n }
