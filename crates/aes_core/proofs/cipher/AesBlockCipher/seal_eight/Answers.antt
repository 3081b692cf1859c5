use Rattle.std.proofs.Common.{◌≡◌, ◌-◌, ◌∙◌, ap, ap₂, arith}
use Rattle.cipher_laws.specs.Eight.{block}
use Rattle.aes_core.specs.RoundKeys.{key_at}
use Rattle.aes_core.specs.State.{sub_bytes, shift_rows, mix_columns, add_round_key}
use Rattle.aes_core.specs.Planes.{translated}
use Rattle.aes_core.specs.Cipher.{after_rounds, cipher}
use Rattle.aes_core.specs.Laws.Steps.{sub_bytes_block}
use Rattle.aes_core.proofs.Rounds.{after_rounds_more}
use Rattle.aes_core.proofs.ByteLemmas.{state_of_sums}
use Rattle.aes_core.proofs.TranslationLemmas.{round_keyed, last_round_keyed, key_in_planes}
use Rattle.aes_core.proofs.TranslationLemmas.{carried_later}
use Rattle.aes_core.proofs.cipher.AesBlockCipher.seal_eight.Goals as goal

pub loop-round-init : goal.loop-round-init
unfolding after_rounds
loop-round-init c k below =
    state_of_sums k _ _ _ (c.bitxor-state.ensures k)
    ∙ ap₂ add_round_key (c.to_planes.ensures k below)
    (key_in_planes c.args.self.now.round_keys c.args.self.now.alike 0 k (omega arith) below)

pub loop-round-preserved : goal.loop-round-preserved
loop-round-preserved c k below =
    let keys = key_at c.args.self.now.round_keys in
    let round = c.loop-round.round in
    let state = after_rounds keys (block k c.args.blocks.now) (round - 1) in
    let boxed =
    c.sub_bytes.ensures k ∙ ap (λ s. translated (sub_bytes s)) (c.loop-round.invariant k below) in
    let mixed =
    c.mix_columns-mixed.ensures k ∙ ap mix_columns (c.shift_rows.ensures k ∙ ap shift_rows boxed) in
    let key =
    key_in_planes c.args.self.now.round_keys c.args.self.now.alike round k (omega arith) below
    ∙ carried_later round (keys round) (omega arith) in
    state_of_sums k _ _ _ (c.bitxor-state-in-loop-round.ensures k)
    ∙ ap₂ add_round_key mixed key
    ∙ round_keyed state (keys round) (sub_bytes_block state)
    ∙ after_rounds_more keys (block k c.args.blocks.now) round (omega arith)

pub returns : goal.returns
unfolding cipher
returns c k below =
    let keys = key_at c.args.self.now.round_keys in
    let rounds = c.args.self.now.rounds in
    let state = after_rounds keys (block k c.args.blocks.now) (rounds - 1) in
    let all : c.loop-round.round ≡ rounds = omega arith in
    let reached =
    c.loop-round.invariant k below
    ∙ ap (λ n. after_rounds keys (block k c.args.blocks.now) (n - 1)) all in
    let boxed = c.sub_bytes-2.ensures k ∙ ap (λ s. translated (sub_bytes s)) reached in
    let last = c.shift_rows-last.ensures k ∙ ap shift_rows boxed in
    let key =
    key_in_planes c.args.self.now.round_keys c.args.self.now.alike rounds k (omega arith) below
    ∙ carried_later rounds (keys rounds) (omega arith) in
    c.to_blocks.ensures k below ∙ state_of_sums k _ _ _ (c.bitxor.ensures k)
    ∙ ap₂ add_round_key last key
    ∙ last_round_keyed state (keys rounds)
