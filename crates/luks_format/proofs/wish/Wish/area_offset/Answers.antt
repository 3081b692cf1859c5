use Rattle.std.proofs.Common.{arith}
use Rattle.luks_bin.proofs.FieldLemmas.{size-most}
use Rattle.luks_format.proofs.wish.Wish.area_offset.Goals as goal

pub overflow_mul-result : goal.overflow_mul-result
overflow_mul-result c =
    let most = size-most c.args.self.now.metadata_size c.requires.size in
    omega (arith, most)
