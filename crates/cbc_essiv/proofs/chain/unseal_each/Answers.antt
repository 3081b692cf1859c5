use Rattle.std.proofs.Common.{◌+◌, ◌-◌, ◌*◌, ◌/◌, List, ℕ, length, arith, ◌∙◌, ap}
use Rattle.cipher_laws.specs.CipherBlocks.Blocks.{xored}
use Rattle.cipher_laws.specs.CipherBlocks.UnderWayLaws.{under_way_first, under_way_more, under_way_last}
use Rattle.cbc_essiv.specs.Cbc.{unseal_after, cbc_opened}
use Rattle.cbc_essiv.proofs.chain.unseal_each.Goals as goal

pub loop-i-init : goal.loop-i-init
unfolding cbc_opened
loop-i-init g c = under_way_first _ _ _ _ _ (omega arith) (omega arith)

pub loop-i-preserved : goal.loop-i-preserved
unfolding unseal_after
loop-i-preserved g c =
    under_way_more c.loop-i.invariant (length c.args.sector.now / 16 - (c.loop-i.i + 1))
    (16 * (c.loop-i.i + 1)) c.block_at-sealed.result c.xor.result c.put_block.new.sector
    (omega arith) (omega arith) (omega arith) (omega arith)
    (c.xor.ensures
    ∙ ap (λ (block : List ℕ). xored block c.loop-i.chain)
    (c.unseal.ensures ∙ ap (g.C.BlockCipher.opened c.args.cipher.now) c.block_at-sealed.ensures))
    c.block_at-sealed.ensures c.put_block.ensures

pub returns : goal.returns
returns g c = under_way_last c.loop-i.invariant (omega arith) (omega arith)
