use Rattle.std.proofs.Common.{ℕ, List, ◌+◌, ◌-◌, ◌*◌, ◌/◌, ◌<◌, length, refl, ap, ◌∙◌, arith}
use Rattle.cipher_laws.specs.Eight.{block}
use Rattle.cipher_laws.specs.CipherBlocks.Blocks.{xored}
use Rattle.cipher_laws.specs.CipherBlocks.UnderWayLaws.{under_way_first, under_way_row}
use Rattle.cbc_essiv.specs.Cbc.{unseal_after, cbc_opened, before}
use Rattle.cbc_essiv.proofs.chain.unseal_eights.Goals as goal

pub loop-i-init : goal.loop-i-init
unfolding cbc_opened
loop-i-init g c = under_way_first _ _ _ _ _ (omega arith) (omega arith)

pub loop-i-preserved : goal.loop-i-preserved
unfolding unseal_after
loop-i-preserved g c =
    let unseal = g.C.BlockCipher.opened c.args.cipher.now in
    let unsealed = λ (k : ℕ) (below : k < 8).
    c.xor_eight.ensures k below
    ∙ ap (λ (b : List ℕ). xored b (block k c.shifted.result))
    (c.unseal_eight.ensures k below ∙ ap unseal (c.eight_at-sealed.ensures k below))
    ∙ ap (xored (unseal _)) (c.shifted.ensures k below)
    in
    under_way_row c.loop-i.invariant 8
    ((length c.put_eight.new.sector - 128 * (c.loop-i.i + 1)) / 16) (128 * (c.loop-i.i + 1))
    (before c.loop-i.chain c.eight_at-sealed.result) (λ k. block k c.xor_eight.result)
    c.put_eight.new.sector
    (omega arith) (omega arith) (omega arith) (omega arith) refl unsealed c.eight_at-sealed.ensures
    c.put_eight.ensures
