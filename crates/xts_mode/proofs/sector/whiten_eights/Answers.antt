use Rattle.std.proofs.Common.{ℕ, List, ◌+◌, ◌-◌, ◌*◌, ◌/◌, ◌<◌, length, refl, ap, ◌∙◌, arith}
use Rattle.cipher_laws.specs.Eight.{block}
use Rattle.cipher_laws.specs.CipherBlocks.Blocks.{xored, number_block}
use Rattle.cipher_laws.specs.CipherBlocks.UnderWayLaws.{under_way_first, under_way_row}
use Rattle.xts_mode.specs.Xts.{doubled_times, whitened, xts_from}
use Rattle.xts_mode.proofs.sector.whiten_eights.Goals as goal

pub loop-i-init : goal.loop-i-init
unfolding xts_from
loop-i-init g c = under_way_first _ _ _ _ _ (omega arith) (omega arith)

pub loop-i-preserved : goal.loop-i-preserved
unfolding whitened doubled_times
loop-i-preserved g c =
    let change = g.C.BlockCipher.sealed c.args.cipher.now in
    let tweak = c.loop-i.tweak in
    let worked_on = λ (k : ℕ) (below : k < 8).
    c.whiten_eight-blocks.ensures k below
    ∙ ap (λ (mask : List ℕ). xored (change (xored (block k c.eight_at.result) mask)) mask)
    (c.eight_tweaks-next.ensures.masks k below)
    ∙ ap (λ (b : List ℕ). xored (change (xored b (number_block (doubled_times k tweak))))
    (number_block (doubled_times k tweak))) (c.eight_at.ensures k below)
    in
    rw c.eight_tweaks-next.ensures.next
    (under_way_row c.loop-i.invariant 8
    ((length c.put_eight.new.sector - 128 * (c.loop-i.i + 1)) / 16) (128 * (c.loop-i.i + 1))
    (λ k. doubled_times k tweak) (λ k. block k c.whiten_eight-blocks.result) c.put_eight.new.sector
    (omega arith) (omega arith) (omega arith) (omega arith) refl worked_on (λ k below. refl)
    c.put_eight.ensures)
