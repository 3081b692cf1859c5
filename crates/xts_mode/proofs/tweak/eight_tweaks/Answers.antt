use Rattle.std.proofs.Common.{◌∙◌, ap}
use Rattle.cipher_laws.specs.EachOfEight.{each_of_eight}
use Rattle.cipher_laws.specs.CipherBlocks.Blocks.{number_block}
use Rattle.xts_mode.specs.Xts.{doubled, doubled_times}
use Rattle.xts_mode.proofs.tweak.eight_tweaks.Goals as goal

pub returns-clause-masks : goal.returns-clause-masks
unfolding doubled_times
returns-clause-masks c =
    let second = c.double-second.ensures in
    let third = c.double-third.ensures ∙ ap doubled second in
    let fourth = c.double-fourth.ensures ∙ ap doubled third in
    let fifth = c.double-fifth.ensures ∙ ap doubled fourth in
    let sixth = c.double-sixth.ensures ∙ ap doubled fifth in
    let seventh = c.double-seventh.ensures ∙ ap doubled sixth in
    let eighth = c.double-eighth.ensures ∙ ap doubled seventh in
    each_of_eight _ c.mask.ensures
    (c.mask-2.ensures ∙ ap number_block second)
    (c.mask-3.ensures ∙ ap number_block third)
    (c.mask-4.ensures ∙ ap number_block fourth)
    (c.mask-5.ensures ∙ ap number_block fifth)
    (c.mask-6.ensures ∙ ap number_block sixth)
    (c.mask-7.ensures ∙ ap number_block seventh)
    (c.mask-8.ensures ∙ ap number_block eighth)
