use Rattle.std.proofs.Common.{arith}
use Rattle.luks_bin.proofs.FieldLemmas.{size-least}
use Rattle.luks_format.proofs.format_disk.volume.find_unfit.Goals as goal

pub overflow_sub-limit : goal.overflow_sub-limit
overflow_sub-limit c =
    let least = size-least c.args.wish.now.metadata_size c.requires.wish.size in
    omega (arith, least)
