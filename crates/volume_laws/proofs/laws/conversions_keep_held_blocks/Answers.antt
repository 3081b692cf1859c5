use Rattle.volume_laws.proofs.HoldersKept.{holders_keep}
use Rattle.volume_laws.proofs.laws.conversions_keep_held_blocks.Goals as goal

pub returns : goal.returns
returns c _ = λ reading seals old new worked courses. holders_keep courses
