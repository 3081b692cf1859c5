use Rattle.std.proofs.Common.{◌≡◌, ◌+◌, ◌*◌, ◌/◌, ◌%◌, arith}
use Rattle.cipher_laws.specs.CipherBlocks.Blocks.{number_block}
use Rattle.xts_mode.proofs.ByteLemmas.{bytes_one_by_one}
use Rattle.xts_mode.proofs.tweak.mask.Goals as goal

pub returns : goal.returns
unfolding number_block
returns c =
    let whole : c.args.tweak % 18446744073709551616
    + 18446744073709551616 * (c.args.tweak / 18446744073709551616 + 0) ≡ c.args.tweak =
    omega arith in
    rw whole (bytes_one_by_one c.args.tweak)
