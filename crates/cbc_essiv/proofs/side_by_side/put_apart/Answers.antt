use Rattle.std.proofs.Common.{◌≡◌, ◌+◌, ◌-◌, ◌*◌, ℕ, List, [], take, drop, length, ap, ◌∙◌, arith}
use Rattle.std.proofs.Common.{slice_index_or}
use Rattle.cipher_laws.specs.CipherBlocks.Blocks.{with_block}
use Rattle.cbc_essiv.proofs.RowLemmas.{put_more, length-sector}
use Rattle.cbc_essiv.proofs.side_by_side.put_apart.Goals as goal

pub loop-k-preserved : goal.loop-k-preserved
loop-k-preserved c =
    let start : ℕ = c.args.size * c.loop-k.k in
    let row : List ℕ = c.loop-k.row in
    let size_is : start + c.args.size - start ≡ c.args.size = omega arith in
    let long : length row ≡ 8 * c.args.size = c.loop-k.auto.row ∙ c.requires.eight in
    let sector_is = ap (λ (m : ℕ). take m (drop start row)) size_is in
    put_more c.loop-k.invariant (c.loop-k.k + 1) (start + c.args.size - start)
    c.put_block.new.sector c.loop-k-test.true long (omega arith) size_is
    (c.put_block.auto.sector ∙ ap length sector_is
    ∙ length-sector c.args.size c.loop-k.k row c.loop-k-test.true long)
    (c.put_block.ensures
    ∙ ap (λ (s : List ℕ). with_block s c.args.at
    (slice_index_or c.to_arrays-arrays.result c.loop-k.k [])) sector_is)
