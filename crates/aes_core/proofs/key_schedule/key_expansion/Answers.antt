use Rattle.std.proofs.Common.{refl, ap, ◌∙◌, length-set, take, ◌++◌, ◌∷◌, [], arith}
use Rattle.std.proofs.lemmas.List.{take_more_set}
use Rattle.aes_core.specs.KeySchedule.{key_expansion}
use Rattle.aes_core.proofs.Words.{key_expansion_more}
use Rattle.aes_core.proofs.key_schedule.key_expansion.Goals as goal

pub loop-i-init : goal.loop-i-init
unfolding key_expansion
loop-i-init c = record { long = refl; words = refl }

pub loop-i-preserved : goal.loop-i-preserved
loop-i-preserved c = record {
  long = length-set c.loop-i.words c.loop-i.i c.next_word.result ∙ c.loop-i.invariant.long;
  words =
      take_more_set c.loop-i.words c.loop-i.i c.next_word.result
      (omega (arith, c.loop-i.invariant.long))
      ∙ ap (λ w. take c.loop-i.i c.loop-i.words ++ w ∷ []) c.next_word.ensures
      ∙ key_expansion_more c.args.key.now c.loop-i.words c.loop-i.i (omega arith)
      c.loop-i.invariant.words;
}
