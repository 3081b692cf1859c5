use Rattle.std.proofs.Common.{◌≡◌, ◌+◌, ◌*◌, ◌<◌, ◌^◌, ◌∙◌, ap, lit<}
use Rattle.cipher_laws.specs.Eight.{block}
use Rattle.cipher_laws.specs.EachOfEight.{each_of_eight}
use Rattle.cipher_laws.specs.CipherBlocks.Blocks.{number_block}
use Rattle.cipher_laws.proofs.blocks.numbers.sealed_numbers.Goals as goal

pub returns : goal.returns
returns g c =
    let sealed = g.C.BlockCipher.sealed c.args.cipher.now in
    each_of_eight
    (λ k. c.args.first + k * c.args.step < 2 ^ 64
    → block k c.seal_eight.new.blocks ≡ sealed (number_block (c.args.first + k * c.args.step)))
    (λ fits. c.seal_eight.ensures 0 (lit< tt) ∙ ap sealed (c.number_after.ensures fits))
    (λ fits. c.seal_eight.ensures 1 (lit< tt) ∙ ap sealed (c.number_after-2.ensures fits))
    (λ fits. c.seal_eight.ensures 2 (lit< tt) ∙ ap sealed (c.number_after-3.ensures fits))
    (λ fits. c.seal_eight.ensures 3 (lit< tt) ∙ ap sealed (c.number_after-4.ensures fits))
    (λ fits. c.seal_eight.ensures 4 (lit< tt) ∙ ap sealed (c.number_after-5.ensures fits))
    (λ fits. c.seal_eight.ensures 5 (lit< tt) ∙ ap sealed (c.number_after-6.ensures fits))
    (λ fits. c.seal_eight.ensures 6 (lit< tt) ∙ ap sealed (c.number_after-7.ensures fits))
    (λ fits. c.seal_eight.ensures 7 (lit< tt) ∙ ap sealed (c.number_after-8.ensures fits))
