-- The code's table is what it is named for, by computing each of its entries.
use Rattle.std.proofs.Common.{◌≡◌, ℕ, ◌<◌, slice_index, refl}
use Rattle.aes_core.specs.KeySchedule.{power_of_x}
use Rattle.aes_core.specs.declared.key_schedule.TheConstants.{POWERS_OF_X}
use Rattle.aes_core.specs.Laws.Bytes.{agree_below, agree_at}

pub powers_of_x_table : (n : ℕ) → n < 10 → slice_index POWERS_OF_X n ≡ power_of_x n
unfolding agree_below power_of_x
powers_of_x_table = agree_at (slice_index POWERS_OF_X) power_of_x 10 refl
