use Rattle.std.proofs.Common.{◌≡◌, ◌∙◌, ap, arith}
use Rattle.aes_core.specs.State.{sub_bytes}
use Rattle.aes_core.specs.Planes.{translated}
use Rattle.aes_core.specs.Laws.Steps.{sub_bytes_block}
use Rattle.aes_core.proofs.TranslationLemmas.{translated_twice, constant_added}
use Rattle.aes_core.proofs.s_box.sub_block.Goals as goal

pub returns : goal.returns
returns c =
    let boxed : c.to_blocks-boxed.result.b0 ≡ translated (sub_bytes c.args.block) =
    c.to_blocks-boxed.ensures 0 (omega arith) ∙ c.sub_bytes.ensures 0
    ∙ ap (λ s. translated (sub_bytes s))
    (c.to_planes.ensures 0 (omega arith) ∙ c.copies.ensures 0 (omega arith)) in
    constant_added c.to_blocks-boxed.result.b0 (omega arith)
    ∙ ap translated boxed
    ∙ translated_twice (sub_bytes c.args.block) (sub_bytes_block c.args.block).length_is
