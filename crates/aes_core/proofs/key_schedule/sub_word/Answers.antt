use Rattle.std.proofs.Common.{refl}
use Rattle.aes_core.specs.KeySchedule.{sub_word}
use Rattle.aes_core.specs.State.{sub_bytes}
use Rattle.aes_core.proofs.key_schedule.sub_word.Goals as goal

pub returns : goal.returns
unfolding sub_word sub_bytes
returns c = rw c.sub_block.ensures refl
