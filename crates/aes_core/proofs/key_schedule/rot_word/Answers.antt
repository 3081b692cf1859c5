use Rattle.aes_core.proofs.Words.{lanes_are_rot_word}
use Rattle.aes_core.proofs.key_schedule.rot_word.Goals as goal

pub returns : goal.returns
returns c = lanes_are_rot_word c.args.word c.fits-word.0
