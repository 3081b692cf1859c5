-- The rounds as the code runs them, and the keys that it keeps.
use Rattle.std.proofs.Common.{◌≡◌, ◌≢◌, ℕ, zero, suc, ◌<◌, ◌≤◌, ◌+◌, ◌-◌, List, set, length}
use Rattle.std.proofs.Common.{get_or-set_other, get_or-set_same, refl, ap, ap₂, ◌∙◌, arith}
use Rattle.aes_core.specs.declared.planes.Planes.{Planes}
use Rattle.aes_core.specs.RoundKeys.{planes_at}
use Rattle.aes_core.specs.State.{sub_bytes, inverse_sub_bytes, add_round_key, shift_rows}
use Rattle.aes_core.specs.State.{inverse_shift_rows, mix_columns, inverse_mix_columns}
use Rattle.aes_core.specs.Cipher.{after_rounds, cipher, before_rounds, inverse_cipher}

pub planes_at-set_other : (keys : List Planes) (i r : ℕ) (key : Planes) → r ≢ i
    → planes_at (set keys i key) r ≡ planes_at keys r
planes_at-set_other keys i r key other = get_or-set_other keys i r key _ other

pub planes_at-set_same : (keys : List Planes) (i : ℕ) (key : Planes) → i < length keys
    → planes_at (set keys i key) i ≡ key
planes_at-set_same keys i key within = get_or-set_same keys i key _ within

-- ---- one round more

pub after_rounds_more : (keys : ℕ → List ℕ) (block : List ℕ) (n : ℕ) → 0 < n
    → add_round_key (mix_columns (shift_rows (sub_bytes (after_rounds keys block (n - 1)))))
    (keys n)
    ≡ after_rounds keys block (n + 1 - 1)
unfolding after_rounds
after_rounds_more keys block (suc n) positive =
    let before : suc n - 1 ≡ n = omega arith in
    let after : suc n + 1 - 1 ≡ suc n = omega arith in
    rw (before, after) refl
after_rounds_more keys block zero positive = absurd (omega arith)

pub before_rounds_more : (keys : ℕ → List ℕ) (s : List ℕ) (n : ℕ) → 0 < n
    → before_rounds keys s n
    ≡ before_rounds keys
    (inverse_mix_columns (add_round_key (inverse_sub_bytes (inverse_shift_rows s)) (keys n)))
    (n - 1)
unfolding before_rounds
before_rounds_more keys s (suc n) positive = let before : suc n - 1 ≡ n =
    omega arith in rw before refl
before_rounds_more keys s zero positive = absurd (omega arith)

-- ---- keys that agree

after_rounds_same : (keys others : ℕ → List ℕ) (block : List ℕ) (n : ℕ)
    → ((r : ℕ) → r ≤ n → keys r ≡ others r)
    → after_rounds keys block n ≡ after_rounds others block n
unfolding after_rounds
after_rounds_same keys others block zero same = ap (add_round_key block) (same 0 (omega arith))
after_rounds_same keys others block (suc n) same =
    ap₂ (λ s k. add_round_key (mix_columns (shift_rows (sub_bytes s))) k)
    (after_rounds_same keys others block n (λ r le. same r (omega arith)))
    (same (suc n) (omega arith))

pub cipher_same : (keys others : ℕ → List ℕ) (block : List ℕ) (n : ℕ)
    → ((r : ℕ) → r ≤ n → keys r ≡ others r)
    → cipher n keys block ≡ cipher n others block
unfolding cipher
cipher_same keys others block n same =
    ap₂ (λ s k. add_round_key (shift_rows (sub_bytes s)) k)
    (after_rounds_same keys others block (n - 1) (λ r le. same r (omega arith)))
    (same n (omega arith))

before_rounds_same : (keys others : ℕ → List ℕ) (n : ℕ) (s : List ℕ)
    → ((r : ℕ) → r ≤ n → keys r ≡ others r)
    → before_rounds keys s n ≡ before_rounds others s n
unfolding before_rounds
before_rounds_same keys others zero s same = refl
before_rounds_same keys others (suc n) s same =
    ap (λ k. before_rounds keys
    (inverse_mix_columns (add_round_key (inverse_sub_bytes (inverse_shift_rows s)) k)) n)
    (same (suc n) (omega arith))
    ∙ before_rounds_same keys others n _ (λ r le. same r (omega arith))

pub inverse_cipher_same : (keys others : ℕ → List ℕ) (block : List ℕ) (n : ℕ)
    → ((r : ℕ) → r ≤ n → keys r ≡ others r)
    → inverse_cipher n keys block ≡ inverse_cipher n others block
unfolding inverse_cipher
inverse_cipher_same keys others block n same =
    ap₂ (λ s k. add_round_key (inverse_sub_bytes (inverse_shift_rows s)) k)
    (ap (λ k. before_rounds keys (add_round_key block k) (n - 1)) (same n (omega arith))
    ∙ before_rounds_same keys others (n - 1) _ (λ r le. same r (omega arith)))
    (same 0 (omega arith))
