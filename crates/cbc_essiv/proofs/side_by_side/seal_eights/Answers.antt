use Rattle.std.proofs.Common.{rules, ◌≡◌, ℕ, suc, ◌+◌, ◌-◌, ◌*◌, ◌/◌, ◌<◌, ◌≤◌, ◌^◌, List, length}
use Rattle.std.proofs.Common.{take, drop, ap, sym, ◌∙◌, arith, length-drop}
use Rattle.std.proofs.lemmas.List.{length-take-le}
use Rattle.cipher_laws.specs.Sectors.{by_sectors}
use Rattle.cipher_laws.specs.CipherBlocks.Blocks.{number_block}
use Rattle.cipher_laws.specs.CipherBlocks.UnderWayLaws.{under_way_first, under_way_row}
use Rattle.cbc_essiv.specs.Cbc.{cbc_sealed, cbc_essiv_sealed, essiv}
use Rattle.cbc_essiv.specs.Rows.{sector_of}
use Rattle.cbc_essiv.proofs.RowLemmas.{sector_in_row, row_put, length-row_put, eight_within}
use Rattle.cbc_essiv.proofs.RowLemmas.{eight_units, number_fits}
use Rattle.cbc_essiv.proofs.side_by_side.seal_eights.Goals as goal

pub loop-i-init : goal.loop-i-init
unfolding by_sectors
loop-i-init g c =
    record { number_is = omega arith; way = under_way_first _ _ _ _ _ (omega arith) (omega arith) }

pub slice_bounds-seal_eight_chains-end : goal.slice_bounds-seal_eight_chains-end
slice_bounds-seal_eight_chains-end g c =
    let within : c.args.size * (8 * c.loop-i.i) + 8 * c.args.size ≤ length c.args.bytes.now =
    eight_within c.args.size (length c.args.bytes.now) c.loop-i.i c.loop-i-test.true in
    search rules

pub overflow_add-number : goal.overflow_add-number
overflow_add-number g c =
    let counted : (8 * c.loop-i.i + 8) * (c.args.size / 512) ≤ length c.args.bytes.now / 512 =
    eight_units c.args.size (length c.args.bytes.now) c.loop-i.i c.requires.units
    c.loop-i-test.true in
    record { fits = omega (arith, c.loop-i.invariant.number_is, counted, c.requires.in_range) }

pub loop-i-preserved : goal.loop-i-preserved
unfolding cbc_essiv_sealed essiv
loop-i-preserved g c =
    let seal = g.C.BlockCipher.sealed c.args.body.now in
    let seal_iv = g.C.BlockCipher.sealed c.args.iv.now in
    let size = c.args.size in
    let units : ℕ = size / 512 in
    let long : ℕ = length c.args.bytes.now in
    let old : List ℕ = c.loop-i.bytes in
    let row : List ℕ = c.seal_eight_chains.new.row in
    let at : ℕ = size * (8 * c.loop-i.i) in
    let number : ℕ = c.loop-i.number in
    let part : ℕ = at + 8 * size - at in
    let part_is : part ≡ 8 * size = omega arith in
    let within : at + 8 * size ≤ long = eight_within size long c.loop-i.i c.loop-i-test.true in
    let counted : (8 * c.loop-i.i + 8) * units ≤ long / 512 =
    eight_units size long c.loop-i.i c.requires.units c.loop-i-test.true in
    let row_long : length row ≡ 8 * size =
    c.seal_eight_chains.auto.row ∙ ap (λ (m : ℕ). length (take m (drop at old))) part_is
    ∙ length-take-le (8 * size) (drop at old)
    (omega (arith, within, length-drop at old, c.loop-i.auto.bytes)) in
    let sealed = λ (k : ℕ) (below : k < 8).
    let fits : number + k * units < 2 ^ 64 =
    number_fits c.args.first number units c.loop-i.i k (long / 512) c.loop-i.invariant.number_is
    counted c.requires.in_range below in
    c.seal_eight_chains.ensures k below
    ∙ ap (λ (b : List ℕ). cbc_sealed seal b (sector_of size k (take part (drop at old))))
    (c.sealed_numbers-ivs.ensures k below fits)
    ∙ ap (λ (m : ℕ). cbc_sealed seal (seal_iv (number_block (number + k * units)))
    (sector_of size k (take m (drop at old)))) part_is
    ∙ ap (cbc_sealed seal (seal_iv (number_block (number + k * units))))
    (sector_in_row size k at old below)
    in
    let numbered =
    λ (k : ℕ) (below : k < 8). let next : number + suc k * units ≡ (number + k * units) + units =
    grind arith in next in
    record {
      number_is = omega (arith, c.loop-i.invariant.number_is);
      way = under_way_row c.loop-i.invariant.way 8 (long / size - 8 * (c.loop-i.i + 1))
          (size * (8 * (c.loop-i.i + 1))) (λ k. number + k * units) (λ k. sector_of size k row) _
          (omega (arith, c.loop-i-test.true)) (omega arith)
          (omega (arith, within, c.loop-i.auto.bytes))
          (length-row_put at part old row (row_long ∙ sym part_is)
          (omega (arith, within, part_is, c.loop-i.auto.bytes))) (omega arith) sealed numbered
          (row_put size at part old row part_is row_long);
    }
