use Rattle.std.proofs.Common.{rules, length-drop, ◌≡◌, ◌+◌, ◌-◌, ◌*◌, ◌/◌, ◌%◌, ◌<◌, ◌≤◌, ◌^◌, ℕ}
use Rattle.std.proofs.Common.{List, [], length, take, drop, arith, ap, subst, sym, ◌∙◌}
use Rattle.std.proofs.Common.{slice_index_or}
use Rattle.std.proofs.lemmas.List.{length-take-le}
use Rattle.std.proofs.lemmas.Grind.{common_steps}
use Rattle.cipher_laws.specs.CipherBlocks.Numbers.{AreReady}
use Rattle.cipher_laws.proofs.CipherBlocks.NumberLemmas.{ready_first, ready_now, ready_next}
use Rattle.cipher_laws.specs.CipherBlocks.RowLaws.{whole_sectors, sectors_within, units_within}
use Rattle.cipher_laws.proofs.CipherBlocks.RowLemmas.{row_first, row_more, row_last}
use Rattle.cipher_laws.proofs.blocks.rows.change_sectors.Goals as goal
use Rattle.cipher_laws.proofs.blocks.rows.change_sectors.Goals.{then-i-eq0, else-i-eq0}

pub loop-i-init : goal.loop-i-init
loop-i-init g c =
    record {
      row = row_first _ c.args.size c.args.first c.args.bytes.now;
      ivs =
          λ some. absurd (omega arith);
    }

pub overflow_add-at : goal.overflow_add-at
overflow_add-at g c =
    let within : c.args.size * (c.loop-i.i + 1) ≤ length c.args.bytes.now =
    sectors_within c.args.size (length c.args.bytes.now) c.loop-i.i c.loop-i-test.true in
    search rules

pub slice_bounds-change-end : goal.slice_bounds-change-end
slice_bounds-change-end g c =
    let within : c.args.size * (c.loop-i.i + 1) ≤ length c.args.bytes.now =
    sectors_within c.args.size (length c.args.bytes.now) c.loop-i.i c.loop-i-test.true in
    search rules

pub overflow_add-number : goal.overflow_add-number
overflow_add-number g c =
    let within : (c.loop-i.i + 1) * (c.args.size / 512) ≤ length c.args.bytes.now / 512 =
    units_within c.args.size (length c.args.bytes.now) c.loop-i.i c.requires.units
    c.loop-i-test.true in
    record { fits = omega (arith, c.loop-i.invariant.row.number_is) }

pub loop-i-preserved : goal.loop-i-preserved
loop-i-preserved g c =
    let seal = g.C.BlockCipher.sealed c.args.cipher.now in
    let at : ℕ = c.args.size * c.loop-i.i in
    let number = c.loop-i.number in
    let units = c.args.size / 512 in
    let ivs = c.if-i-eq0.ivs in
    let counted : (c.loop-i.i + 1) * units ≤ length c.args.bytes.now / 512 =
    units_within c.args.size (length c.args.bytes.now) c.loop-i.i c.requires.units
    c.loop-i-test.true in
    let fits : number < 2 ^ 64 = omega (arith, c.loop-i.invariant.row.number_is) in
    let within : c.args.size * (c.loop-i.i + 1) ≤ length c.args.bytes.now =
    sectors_within c.args.size (length c.args.bytes.now) c.loop-i.i c.loop-i-test.true in
    let size_is : at + c.args.size - at ≡ c.args.size = omega arith in
    let are : AreReady seal units (c.loop-i.i % 8) number ivs = elim c.if-i-eq0.branch [
      | then-i-eq0 w ↦
          ready_first w.sealed_numbers.result w.if-i-eq0.true (w.ivs-is ∙ w.to_arrays-ivs.ensures)
          w.sealed_numbers.ensures
      | else-i-eq0 w ↦
          subst (λ (l : List (List ℕ)). AreReady seal units (c.loop-i.i % 8) number l)
          (sym w.ivs-is) (c.loop-i.invariant.ivs (omega (arith, w.if-i-eq0.false)))
    ] in
    let sector_is = c.change.ensures
    ∙ ap (λ (k : ℕ). g.W.UnderIv.changed c.args.work.now (slice_index_or ivs (c.loop-i.i % 8) [])
    (take k (drop at c.loop-i.bytes))) size_is
    ∙ ap (λ (iv : List ℕ). g.W.UnderIv.changed c.args.work.now iv
    (take c.args.size (drop at c.loop-i.bytes))) (ready_now are (omega arith) fits)
    in
    record {
      row = row_more c.loop-i.invariant.row c.change.new.sector _ c.loop-i-test.true (omega arith)
          (c.change.auto.sector ∙ ap (λ (k : ℕ). length (take k (drop at c.loop-i.bytes))) size_is
          ∙ length-take-le c.args.size (drop at c.loop-i.bytes)
          (omega (arith, length-drop at c.loop-i.bytes)))
          sector_is
          (grind (arith, common_steps));
      ivs = ready_next c.loop-i.i are;
    }

pub returns : goal.returns
returns g c =
    let whole : length c.args.bytes.now ≡ length c.args.bytes.now / c.args.size * c.args.size =
    whole_sectors c.args.size c.args.bytes.now c.requires.some c.requires.whole in
    let ended : length c.args.bytes.now / c.args.size ≡ c.loop-i.i = omega arith in
    row_last c.loop-i.invariant.row c.loop-i-test.false
    (c.loop-i.auto.bytes ∙ whole ∙ ap (λ (k : ℕ). k * c.args.size) ended ∙ omega arith)
