-- Cipher and InvCipher undo each other, whatever the round keys are.
use Rattle.std.proofs.Common.{◌≡◌, ℕ, zero, suc, ◌<◌, ◌≤◌, ◌+◌, ◌-◌, List, refl, sym, ap, ◌∙◌}
use Rattle.std.proofs.Common.{arith}
use Rattle.cipher_laws.specs.Bytes.{IsBlock}
use Rattle.aes_core.specs.State.{sub_bytes, inverse_sub_bytes, add_round_key, shift_rows}
use Rattle.aes_core.specs.State.{inverse_shift_rows, mix_columns, inverse_mix_columns}
use Rattle.aes_core.specs.Cipher.{after_rounds, cipher, before_rounds, inverse_cipher}
use Rattle.aes_core.specs.Laws.Steps.{sub_bytes_block, inverse_sub_bytes_block, shift_rows_block}
use Rattle.aes_core.specs.Laws.Steps.{inverse_shift_rows_block, add_round_key_block}
use Rattle.aes_core.specs.Laws.Steps.{multiply_columns_block, sub_bytes_undone}
use Rattle.aes_core.specs.Laws.Steps.{inverse_sub_bytes_undone, shift_rows_undone}
use Rattle.aes_core.specs.Laws.Steps.{inverse_shift_rows_undone, add_round_key_undone}
use Rattle.aes_core.specs.Laws.Steps.{mix_columns_undone, inverse_mix_columns_undone}
pub mod Bytes
pub mod Sums
pub mod Steps

-- the keys of the rounds up to n are blocks
abbrev pub AreKeys : ℕ → (ℕ → List ℕ) → Type 0
AreKeys n keys = (r : ℕ) → r ≤ n → IsBlock (keys r)

pub first_keys : (n : ℕ) {keys : ℕ → List ℕ} → n < 15 → ((r : ℕ) → r < 15 → IsBlock (keys r))
    → AreKeys n keys
first_keys n within fits r le = fits r (omega arith)

-- the middle of a round, and of an inverse round
abbrev forth : List ℕ → List ℕ
forth s = shift_rows (sub_bytes s)

abbrev back : List ℕ → List ℕ
back s = inverse_sub_bytes (inverse_shift_rows s)

forth_block : (s : List ℕ) → IsBlock (forth s)
forth_block s = shift_rows_block (sub_bytes s) (sub_bytes_block s)

back_block : (s : List ℕ) → IsBlock s → IsBlock (back s)
back_block s block =
    inverse_sub_bytes_block (inverse_shift_rows s) (inverse_shift_rows_block s block)

back_forth : (s : List ℕ) → IsBlock s → back (forth s) ≡ s
back_forth s block =
    ap inverse_sub_bytes (shift_rows_undone (sub_bytes s) (sub_bytes_block s))
    ∙ sub_bytes_undone s block

forth_back : (s : List ℕ) → IsBlock s → forth (back s) ≡ s
forth_back s block =
    ap shift_rows
    (inverse_sub_bytes_undone (inverse_shift_rows s) (inverse_shift_rows_block s block))
    ∙ inverse_shift_rows_undone s block

-- ---- blocks

after_rounds_block : (keys : ℕ → List ℕ) (n : ℕ) → AreKeys n keys → (s : List ℕ) → IsBlock s
    → IsBlock (after_rounds keys s n)
unfolding after_rounds
after_rounds_block keys zero fits s block =
    add_round_key_block s (keys 0) block (fits 0 (omega arith))
after_rounds_block keys (suc n) fits s block =
    add_round_key_block _ (keys (suc n))
    (multiply_columns_block _ _ _ _ _ (forth_block (after_rounds keys s n)))
    (fits (suc n) (omega arith))

before_round_block : (s k : List ℕ) → IsBlock s → IsBlock k
    → IsBlock (inverse_mix_columns (add_round_key (back s) k))
before_round_block s k block key =
    multiply_columns_block _ _ _ _ _ (add_round_key_block (back s) k (back_block s block) key)

before_rounds_block : (keys : ℕ → List ℕ) (n : ℕ) → AreKeys n keys → (s : List ℕ) → IsBlock s
    → IsBlock (before_rounds keys s n)
unfolding before_rounds
before_rounds_block keys zero fits s block = block
before_rounds_block keys (suc n) fits s block =
    before_rounds_block keys n (λ r le. fits r (omega arith)) _
    (before_round_block s (keys (suc n)) block (fits (suc n) (omega arith)))

pub cipher_block : (nr : ℕ) (keys : ℕ → List ℕ) → AreKeys nr keys → (s : List ℕ) → IsBlock s
    → IsBlock (cipher nr keys s)
unfolding cipher
cipher_block nr keys fits s block =
    add_round_key_block _ (keys nr) (forth_block (after_rounds keys s (nr - 1)))
    (fits nr (omega arith))

pub inverse_cipher_block : (nr : ℕ) (keys : ℕ → List ℕ) → AreKeys nr keys → (s : List ℕ) → IsBlock s
    → IsBlock (inverse_cipher nr keys s)
unfolding inverse_cipher
inverse_cipher_block nr keys fits s block =
    let last : IsBlock (add_round_key s (keys nr)) =
    add_round_key_block s (keys nr) block (fits nr (omega arith)) in
    add_round_key_block _ (keys 0)
    (back_block _
    (before_rounds_block keys (nr - 1) (λ r le. fits r (omega arith)) (add_round_key s (keys nr))
    last))
    (fits 0 (omega arith))

-- ---- the inverse undoes the cipher

before_after : (keys : ℕ → List ℕ) (n : ℕ) → AreKeys n keys → (s : List ℕ) → IsBlock s
    → before_rounds keys (forth (after_rounds keys s n)) n ≡ forth (add_round_key s (keys 0))
unfolding before_rounds after_rounds
before_after keys zero fits s block = refl
before_after keys (suc n) fits s block =
    let fewer : AreKeys n keys = λ r le. fits r (omega arith) in
    let state = forth (after_rounds keys s n) in
    let mixed : IsBlock (mix_columns state) =
    multiply_columns_block _ _ _ _ state (forth_block (after_rounds keys s n)) in
    let keyed : IsBlock (add_round_key (mix_columns state) (keys (suc n))) =
    add_round_key_block _ (keys (suc n)) mixed (fits (suc n) (omega arith)) in
    ap (λ x. before_rounds keys x n)
    (ap (λ x. inverse_mix_columns (add_round_key x (keys (suc n))))
    (back_forth (add_round_key (mix_columns state) (keys (suc n))) keyed)
    ∙ ap inverse_mix_columns (add_round_key_undone (mix_columns state) (keys (suc n)) mixed)
    ∙ mix_columns_undone state (forth_block (after_rounds keys s n)))
    ∙ before_after keys n fewer s block

pub cipher_undone : (nr : ℕ) (keys : ℕ → List ℕ) → AreKeys nr keys → (s : List ℕ) → IsBlock s
    → inverse_cipher nr keys (cipher nr keys s) ≡ s
unfolding cipher inverse_cipher
cipher_undone nr keys fits s block =
    let fewer : AreKeys (nr - 1) keys = λ r le. fits r (omega arith) in
    let whitened : IsBlock (add_round_key s (keys 0)) =
    add_round_key_block s (keys 0) block (fits 0 (omega arith)) in
    ap (λ x. add_round_key (back x) (keys 0))
    (ap (λ x. before_rounds keys x (nr - 1))
    (add_round_key_undone _ (keys nr) (forth_block (after_rounds keys s (nr - 1))))
    ∙ before_after keys (nr - 1) fewer s block)
    ∙ ap (λ x. add_round_key x (keys 0)) (back_forth (add_round_key s (keys 0)) whitened)
    ∙ add_round_key_undone s (keys 0) block

-- ---- the cipher undoes its inverse

after_before : (keys : ℕ → List ℕ) (n : ℕ) → AreKeys n keys → (s : List ℕ) → IsBlock s
    → forth (after_rounds keys (add_round_key (back (before_rounds keys s n)) (keys 0)) n) ≡ s
unfolding before_rounds after_rounds
after_before keys zero fits s block =
    ap forth (add_round_key_undone (back s) (keys 0) (back_block s block)) ∙ forth_back s block
after_before keys (suc n) fits s block =
    let fewer : AreKeys n keys = λ r le. fits r (omega arith) in
    let key : IsBlock (keys (suc n)) = fits (suc n) (omega arith) in
    let keyed : IsBlock (add_round_key (back s) (keys (suc n))) =
    add_round_key_block (back s) (keys (suc n)) (back_block s block) key in
    ap (λ x. forth (add_round_key (mix_columns x) (keys (suc n))))
    (after_before keys n fewer (inverse_mix_columns (add_round_key (back s) (keys (suc n))))
    (before_round_block s (keys (suc n)) block key))
    ∙ ap (λ x. forth (add_round_key x (keys (suc n))))
    (inverse_mix_columns_undone (add_round_key (back s) (keys (suc n))) keyed)
    ∙ ap forth (add_round_key_undone (back s) (keys (suc n)) (back_block s block))
    ∙ forth_back s block

pub inverse_cipher_undone : (nr : ℕ) (keys : ℕ → List ℕ) → AreKeys nr keys → (s : List ℕ)
    → IsBlock s → cipher nr keys (inverse_cipher nr keys s) ≡ s
unfolding cipher inverse_cipher
inverse_cipher_undone nr keys fits s block =
    let fewer : AreKeys (nr - 1) keys = λ r le. fits r (omega arith) in
    let last : IsBlock (add_round_key s (keys nr)) =
    add_round_key_block s (keys nr) block (fits nr (omega arith)) in
    ap (λ x. add_round_key x (keys nr))
    (after_before keys (nr - 1) fewer (add_round_key s (keys nr)) last)
    ∙ add_round_key_undone s (keys nr) block
