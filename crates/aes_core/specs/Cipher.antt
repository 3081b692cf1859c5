-- Cipher and InvCipher of FIPS 197, sections 5.1 and 5.3, and AES under a key.
use Rattle.std.specs.Prelude.{ℕ, zero, suc, ◌+◌, ◌-◌, ◌*◌, List}
use Rattle.aes_core.specs.State.{sub_bytes, shift_rows, mix_columns, add_round_key}
use Rattle.aes_core.specs.State.{inverse_shift_rows, inverse_sub_bytes, inverse_mix_columns}
use Rattle.aes_core.specs.KeySchedule.{rounds_for, key_expansion, round_key}

-- the state after the first n of the rounds with MixColumns, where keys r is the key of round r
unfoldable pub after_rounds : (ℕ → List ℕ) → List ℕ → ℕ → List ℕ
after_rounds keys block zero = add_round_key block (keys 0)
after_rounds keys block (suc n) =
    add_round_key (mix_columns (shift_rows (sub_bytes (after_rounds keys block n)))) (keys (suc n))

-- Cipher in nr rounds (5.1)
unfoldable pub cipher : ℕ → (ℕ → List ℕ) → List ℕ → List ℕ
cipher nr keys block =
    add_round_key (shift_rows (sub_bytes (after_rounds keys block (nr - 1)))) (keys nr)

-- the state s after the inverse rounds n, .., 1
unfoldable pub before_rounds : (ℕ → List ℕ) → List ℕ → ℕ → List ℕ
before_rounds keys s zero = s
before_rounds keys s (suc n) = before_rounds keys
    (inverse_mix_columns (add_round_key (inverse_sub_bytes (inverse_shift_rows s)) (keys (suc n))))
    n

-- InvCipher in nr rounds (5.3)
unfoldable pub inverse_cipher : ℕ → (ℕ → List ℕ) → List ℕ → List ℕ
inverse_cipher nr keys block = add_round_key (inverse_sub_bytes
    (inverse_shift_rows (before_rounds keys (add_round_key block (keys nr)) (nr - 1)))) (keys 0)

-- the round keys of a key
abbrev pub round_keys_of : List ℕ → ℕ → List ℕ
round_keys_of key r = round_key (key_expansion key (4 * (rounds_for key + 1))) r

-- a block under AES with this key
unfoldable pub aes : List ℕ → List ℕ → List ℕ
aes key block = cipher (rounds_for key) (round_keys_of key) block

-- a block under the inverse of AES with this key
unfoldable pub inverse_aes : List ℕ → List ℕ → List ℕ
inverse_aes key block = inverse_cipher (rounds_for key) (round_keys_of key) block
