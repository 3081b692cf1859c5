use Rattle.std.proofs.Common.{arith}
use Rattle.luks_bin.proofs.FieldLemmas.{size-least}
use Rattle.luks_format.proofs.metadata.make_config.Goals as goal

pub overflow_sub-result : goal.overflow_sub-result
overflow_sub-result c =
    let least = size-least c.args.wish.now.metadata_size c.requires.size in
    omega (arith, least)
