use Rattle.std.proofs.Common.{◌≡◌, ◌-◌, ◌<◌, ℕ}
use Rattle.cipher_laws.specs.Eight.{block}
use Rattle.aes_core.specs.Planes.{state_in, translated}
use Rattle.aes_core.specs.State.{add_round_key}
use Rattle.aes_core.specs.RoundKeys.{key_at}
use Rattle.aes_core.specs.Cipher.{before_rounds}
use Rattle.aes_core.proofs.cipher.AesBlockCipher.unseal_eight.Given as goal

-- the rounds below this one are still to be undone, of the states without the constant that they
-- carry
abbrev pub invariant-loop-round : goal.invariant-loop-round
invariant-loop-round l =
    (k : ℕ) → k < 8
    → before_rounds (key_at l.self.round_keys) (translated (state_in k l.state)) (l.round - 1)
    ≡ before_rounds (key_at l.self.round_keys)
    (add_round_key (block k l.blocks) (key_at l.self.round_keys l.self.rounds)) (l.self.rounds - 1)
