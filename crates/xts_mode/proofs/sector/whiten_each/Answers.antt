use Rattle.std.proofs.Common.{◌+◌, ◌-◌, ◌*◌, ◌/◌, length, arith, ◌∙◌, ap}
use Rattle.cipher_laws.specs.CipherBlocks.UnderWayLaws.{under_way_first, under_way_more, under_way_last}
use Rattle.xts_mode.specs.Xts.{whitened, xts_from}
use Rattle.xts_mode.proofs.sector.whiten_each.Goals as goal

pub loop-i-init : goal.loop-i-init
unfolding xts_from
loop-i-init g c = under_way_first _ _ _ _ _ (omega arith) (omega arith)

pub loop-i-preserved : goal.loop-i-preserved
loop-i-preserved g c =
    under_way_more c.loop-i.invariant (length c.args.sector.now / 16 - (c.loop-i.i + 1))
    (16 * (c.loop-i.i + 1)) c.double-tweak.result c.whiten.result c.put_block.new.sector
    (omega arith) (omega arith) (omega arith) (omega arith)
    (c.whiten.ensures
    ∙ ap (whitened (g.C.BlockCipher.sealed c.args.cipher.now) c.loop-i.tweak)
    c.block_at-block.ensures)
    c.double-tweak.ensures c.put_block.ensures

pub returns : goal.returns
returns g c = under_way_last c.loop-i.invariant (omega arith) (omega arith)
