use Rattle.std.proofs.Common.{◌+◌, ◌-◌, ◌*◌, ◌/◌, List, ℕ, length, arith, ◌∙◌, refl, ap}
use Rattle.cipher_laws.specs.CipherBlocks.Blocks.{xored}
use Rattle.cipher_laws.specs.CipherBlocks.UnderWayLaws.{under_way_first, under_way_more, under_way_last}
use Rattle.cbc_essiv.specs.Cbc.{seal_after, cbc_sealed}
use Rattle.cbc_essiv.proofs.chain.seal_chain.Goals as goal

pub loop-i-init : goal.loop-i-init
unfolding cbc_sealed
loop-i-init g c = under_way_first _ _ _ _ _ (omega arith) (omega arith)

pub loop-i-preserved : goal.loop-i-preserved
unfolding seal_after
loop-i-preserved g c =
    under_way_more c.loop-i.invariant (length c.args.sector.now / 16 - (c.loop-i.i + 1))
    (16 * (c.loop-i.i + 1)) c.seal.new.block c.seal.new.block c.put_block.new.sector
    (omega arith) (omega arith) (omega arith) (omega arith)
    (c.seal.ensures
    ∙ ap (g.C.BlockCipher.sealed c.args.cipher.now)
    (c.xor-block.ensures ∙ ap (λ (block : List ℕ). xored block c.loop-i.chain) c.block_at.ensures))
    refl c.put_block.ensures

pub returns : goal.returns
returns g c = under_way_last c.loop-i.invariant (omega arith) (omega arith)
