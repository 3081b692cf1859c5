use Rattle.std.proofs.Common.{◌≡◌, ◌-◌, ◌∙◌, ap, ap₂, sym, arith}
use Rattle.cipher_laws.specs.Eight.{block}
use Rattle.aes_core.specs.RoundKeys.{key_at}
use Rattle.aes_core.specs.State.{inverse_sub_bytes, inverse_shift_rows, inverse_mix_columns}
use Rattle.aes_core.specs.State.{add_round_key}
use Rattle.aes_core.specs.Planes.{state_in, translated}
use Rattle.aes_core.specs.Cipher.{before_rounds, inverse_cipher}
use Rattle.aes_core.proofs.Rounds.{before_rounds_more}
use Rattle.aes_core.proofs.ByteLemmas.{state_of_sums, state_block}
use Rattle.aes_core.proofs.TranslationLemmas.{whitened, unshifted, inverse_round_keyed}
use Rattle.aes_core.proofs.TranslationLemmas.{key_in_planes, key_block, carried_later}
use Rattle.aes_core.proofs.cipher.AesBlockCipher.unseal_eight.Goals as goal

pub loop-round-init : goal.loop-round-init
loop-round-init c k below =
    let keys = key_at c.args.self.now.round_keys in
    let rounds = c.args.self.now.rounds in
    let key =
    key_in_planes c.args.self.now.round_keys c.args.self.now.alike rounds k (omega arith) below
    ∙ carried_later rounds (keys rounds) (omega arith) in
    let state =
    state_of_sums k _ _ _ (c.bitxor-state.ensures k)
    ∙ ap₂ add_round_key (c.to_planes.ensures k below) key in
    ap (λ s. before_rounds keys s (rounds - 1))
    (ap translated state ∙ whitened (block k c.args.blocks.now) (keys rounds))

pub loop-round-preserved : goal.loop-round-preserved
loop-round-preserved c k below =
    let keys = key_at c.args.self.now.round_keys in
    let round = c.loop-round.round - 1 in
    let state = state_in k c.loop-round.state in
    let boxed = c.inverse_sub_bytes-boxed.ensures k
    ∙ ap (λ s. inverse_sub_bytes (translated s)) (c.inverse_shift_rows.ensures k)
    ∙ unshifted state in
    let key =
    key_in_planes c.args.self.now.round_keys c.args.self.now.alike round k (omega arith) below
    ∙ carried_later round (keys round) (omega arith) in
    let mixed = c.inverse_mix_columns-state.ensures k
    ∙ ap inverse_mix_columns
    (state_of_sums k _ _ _ (c.bitxor.ensures k) ∙ ap₂ add_round_key boxed key) in
    ap (λ s. before_rounds keys s (round - 1))
    (ap translated mixed
    ∙ inverse_round_keyed state (keys round) (state_block k c.loop-round.state)
    (key_block c.args.self.now.round_keys round))
    ∙ sym (before_rounds_more keys (translated state) round (omega arith))
    ∙ c.loop-round.invariant k below

pub returns : goal.returns
unfolding inverse_cipher before_rounds
returns c k below =
    let keys = key_at c.args.self.now.round_keys in
    let state = state_in k c.loop-round.state in
    let none : 0 ≡ c.loop-round.round - 1 = omega arith in
    let reached =
    ap (before_rounds keys (translated state)) none ∙ c.loop-round.invariant k below in
    let boxed = c.inverse_sub_bytes-first.ensures k
    ∙ ap (λ s. inverse_sub_bytes (translated s)) (c.inverse_shift_rows-2.ensures k)
    ∙ unshifted state
    ∙ ap (λ s. inverse_sub_bytes (inverse_shift_rows s)) reached in
    let key =
    key_in_planes c.args.self.now.round_keys c.args.self.now.alike 0 k (omega arith) below in
    c.to_blocks.ensures k below ∙ state_of_sums k _ _ _ (c.bitxor-2.ensures k)
    ∙ ap₂ add_round_key boxed key
