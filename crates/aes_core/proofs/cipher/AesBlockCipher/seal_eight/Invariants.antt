use Rattle.std.proofs.Common.{◌≡◌, ◌-◌, ◌<◌, ℕ}
use Rattle.cipher_laws.specs.Eight.{block}
use Rattle.aes_core.specs.Planes.{state_in}
use Rattle.aes_core.specs.RoundKeys.{key_at}
use Rattle.aes_core.specs.Cipher.{after_rounds}
use Rattle.aes_core.proofs.cipher.AesBlockCipher.seal_eight.Given as goal

-- the states after the rounds before this one
abbrev pub invariant-loop-round : goal.invariant-loop-round
invariant-loop-round l =
    (k : ℕ) → k < 8
    → state_in k l.state ≡ after_rounds (key_at l.self.round_keys) (block k l.blocks) (l.round - 1)
