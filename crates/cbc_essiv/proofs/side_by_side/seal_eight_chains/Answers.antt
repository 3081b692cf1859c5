use Rattle.std.proofs.Common.{◌≡◌, ℕ, List, ◌+◌, ◌-◌, ◌*◌, ◌/◌, refl, ap, ◌∙◌, arith}
use Rattle.cipher_laws.specs.Eight.{block}
use Rattle.cipher_laws.specs.CipherBlocks.Blocks.{xored}
use Rattle.cipher_laws.specs.CipherBlocks.UnderWayLaws.{under_way_first, under_way_more, under_way_last}
use Rattle.cbc_essiv.specs.Cbc.{seal_after, cbc_sealed}
use Rattle.cbc_essiv.specs.Rows.{sector_of}
use Rattle.cbc_essiv.proofs.RowLemmas.{length-sector}
use Rattle.cbc_essiv.proofs.side_by_side.seal_eight_chains.Goals as goal

pub loop-i-init : goal.loop-i-init
unfolding cbc_sealed
loop-i-init g c k below =
    let long = length-sector c.args.size k c.args.row.now below c.requires.eight in
    under_way_first _ _ _ _ _ (omega (arith, long)) (omega arith)

pub loop-i-preserved : goal.loop-i-preserved
unfolding seal_after
loop-i-preserved g c k below =
    let seal = g.C.BlockCipher.sealed c.args.cipher.now in
    let row = c.loop-i.row in
    let long = length-sector c.args.size k row below (c.loop-i.auto.row ∙ c.requires.eight) in
    let sealed : block k c.seal_eight.new.blocks ≡ seal_after seal (block k c.loop-i.chain) _ =
    c.seal_eight.ensures k below
    ∙ ap seal
    (c.xor_eight-blocks.ensures k below
    ∙ ap (λ (b : List ℕ). xored b (block k c.loop-i.chain)) (c.eight_apart.ensures k below)) in
    under_way_more (c.loop-i.invariant k below) (c.args.size / 16 - (c.loop-i.i + 1))
    (16 * (c.loop-i.i + 1)) (block k c.seal_eight.new.blocks) (block k c.seal_eight.new.blocks)
    (sector_of c.args.size k c.put_apart.new.row)
    (omega arith) (omega arith) (omega (arith, long)) (c.put_apart.ensures.lengths k below) sealed
    refl (c.put_apart.ensures.put k below)

pub returns : goal.returns
returns g c k below =
    let long =
    length-sector c.args.size k c.loop-i.row below (c.loop-i.auto.row ∙ c.requires.eight) in
    under_way_last (c.loop-i.invariant k below) (omega arith) (omega (arith, long))
