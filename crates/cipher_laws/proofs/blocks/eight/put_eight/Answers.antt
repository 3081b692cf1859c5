use Rattle.std.proofs.Common.{rules, ◌+◌, refl, append_assoc, arith, ◌∙◌}
use Rattle.std.proofs.lemmas.List.{append-nil}
use Rattle.cipher_laws.specs.CipherBlocks.Blocks.{joined}
use Rattle.cipher_laws.proofs.CipherBlocks.EightLemmas.{put_first, put_next}
use Rattle.cipher_laws.proofs.blocks.eight.put_eight.Goals as goal

pub returns : goal.returns
unfolding joined
returns c =
    let at = c.args.at in
    let none = put_first at c.args.sector.now (omega arith) in
    let one = put_next none (at + 16) _ _ refl (search rules) c.put_block.ensures in
    let two = put_next one (at + 32) _ _ (omega arith) (search rules) c.put_block-2.ensures in
    let three = put_next two (at + 48) _ _ (omega arith) (search rules) c.put_block-3.ensures in
    let four = put_next three (at + 64) _ _ (omega arith) (search rules) c.put_block-4.ensures in
    let five = put_next four (at + 80) _ _ (omega arith) (search rules) c.put_block-5.ensures in
    let six = put_next five (at + 96) _ _ (omega arith) (search rules) c.put_block-6.ensures in
    let seven = put_next six (at + 112) _ _ (omega arith) (search rules) c.put_block-7.ensures in
    let eight = put_next seven (at + 128) _ _ (omega arith) (search rules) c.put_block-8.ensures in
    eight.new_is ∙ simp (append_assoc, append-nil)
