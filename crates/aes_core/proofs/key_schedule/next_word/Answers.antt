use Rattle.std.proofs.Common.{◌∙◌, ap, ◌-◌, ◌/◌, [], length, slice_index_or}
use Rattle.aes_core.specs.KeySchedule.{add_words}
use Rattle.aes_core.proofs.Words.{word_of_the_key, word_after_the_key}
use Rattle.aes_core.proofs.key_schedule.next_word.Goals as goal

pub returns-then-i-key_words : goal.returns-then-i-key_words
returns-then-i-key_words c =
    word_of_the_key c.args.key.now c.args.words.now c.args.i c.if-i-key_words.true

pub returns : goal.returns
returns c =
    c.add_words.ensures
    ∙ ap (add_words (slice_index_or c.args.words.now (c.args.i - length c.args.key.now / 4) []))
    c.addend.ensures
    ∙ word_after_the_key c.args.key.now c.args.words.now c.args.i c.if-i-key_words.false
