use Rattle.std.proofs.Common.{ℕ, List, ◌∙◌, ap}
use Rattle.cipher_laws.specs.Eight.{block}
use Rattle.cipher_laws.specs.CipherBlocks.Blocks.{xored}
use Rattle.xts_mode.proofs.sector.whiten_eight.Goals as goal

pub returns : goal.returns
returns g c = λ k below.
    let sealed =
    c.seal_eight.ensures k below
    ∙ ap (g.C.BlockCipher.sealed c.args.cipher.now) (c.xor_eight-masked.ensures k below) in
    c.xor_eight.ensures k below ∙ ap (λ (b : List ℕ). xored b (block k c.args.masks.now)) sealed
