use Rattle.std.proofs.Common.{◌∙◌, ap, ap₂}
use Rattle.aes_core.specs.KeySchedule.{add_words, sub_word}
use Rattle.aes_core.proofs.Words.{addend_first, addend_middle, addend_short, addend_other}
use Rattle.aes_core.proofs.key_schedule.addend.Goals as goal
use Rattle.aes_core.proofs.key_schedule.addend.Goals.{else-key_words-gt6-via-then-key_words-gt6+else-i-key_words-eq4}
use Rattle.aes_core.proofs.key_schedule.addend.Goals.{else-key_words-gt6-via-else-key_words-gt6}

pub returns-then-i-key_words-eq0 : goal.returns-then-i-key_words-eq0
returns-then-i-key_words-eq0 c =
    c.add_words.ensures
    ∙ ap₂ add_words (c.sub_word.ensures ∙ ap sub_word c.rot_word.ensures) c.round_constant.ensures
    ∙ addend_first c.args.key_words c.args.i c.args.word c.if-i-key_words-eq0.true

pub returns-then-i-key_words-eq4 : goal.returns-then-i-key_words-eq4
returns-then-i-key_words-eq4 c =
    c.sub_word-then-i-key_words-eq4.ensures
    ∙ addend_middle c.args.key_words c.args.i c.args.word c.if-key_words-gt6.true
    c.if-i-key_words-eq4.true

pub returns : goal.returns
returns c =
    elim c.else-key_words-gt6.branch [
      | else-key_words-gt6-via-then-key_words-gt6+else-i-key_words-eq4 w ↦
          addend_other c.args.key_words c.args.i c.args.word c.if-i-key_words-eq0.false
          w.if-i-key_words-eq4.false
      | else-key_words-gt6-via-else-key_words-gt6 w ↦
          addend_short c.args.key_words c.args.i c.args.word c.if-i-key_words-eq0.false
          w.if-key_words-gt6.false
    ]
