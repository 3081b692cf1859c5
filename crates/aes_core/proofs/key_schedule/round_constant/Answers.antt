use Rattle.std.proofs.Common.{◌-◌, refl, arith}
use Rattle.aes_core.specs.KeySchedule.{round_constant}
use Rattle.aes_core.proofs.Tables.{powers_of_x_table}
use Rattle.aes_core.proofs.key_schedule.round_constant.Goals as goal

pub returns : goal.returns
unfolding round_constant
returns c = rw (powers_of_x_table (c.args.j - 1) (omega arith)) refl
