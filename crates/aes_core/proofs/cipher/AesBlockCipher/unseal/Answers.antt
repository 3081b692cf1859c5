use Rattle.std.proofs.Common.{◌∙◌, ap, arith}
use Rattle.aes_core.specs.RoundKeys.{key_at}
use Rattle.aes_core.specs.Cipher.{inverse_cipher}
use Rattle.aes_core.proofs.cipher.AesBlockCipher.unseal.Goals as goal

pub returns : goal.returns
returns c =
    c.unseal_eight.ensures 0 (omega arith)
    ∙ ap (inverse_cipher c.args.self.now.rounds (key_at c.args.self.now.round_keys))
    (c.copies-blocks.ensures 0 (omega arith))
