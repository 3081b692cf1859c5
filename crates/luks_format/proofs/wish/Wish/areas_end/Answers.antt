use Rattle.std.proofs.Common.{arith}
use Rattle.luks_bin.proofs.FieldLemmas.{size-most}
use Rattle.luks_format.specs.Wishes.{keyslots_size_for}
use Rattle.luks_format.proofs.wish.Wish.areas_end.Goals as goal

pub overflow_add-result : goal.overflow_add-result
unfolding keyslots_size_for
overflow_add-result c =
    let most = size-most c.args.self.now.metadata_size c.requires.size in
    let begin = c.area_offset.ensures in
    let size = c.keyslots_size.ensures in
    omega (arith, most, begin, size)
