use Rattle.aes_core.proofs.Words.{sums_are_add_words}
use Rattle.aes_core.proofs.key_schedule.add_words.Goals as goal

pub returns : goal.returns
returns c = sums_are_add_words c.args.v c.args.w c.fits-v.0 c.fits-w.0
