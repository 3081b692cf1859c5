use Rattle.aes_core.specs.Cipher.{aes, inverse_aes}
use Rattle.aes_core.proofs.Rounds.{cipher_same, inverse_cipher_same}
use Rattle.aes_core.proofs.cipher.Aes.new.Goals as goal

pub returns-clause-seals : goal.returns-clause-seals
unfolding aes
returns-clause-seals c block = cipher_same _ _ block _ c.round_keys.ensures.keys

pub returns-clause-unseals : goal.returns-clause-unseals
unfolding inverse_aes
returns-clause-unseals c block = inverse_cipher_same _ _ block _ c.round_keys.ensures.keys
