use Rattle.std.proofs.Common.{◌-◌, ◌*◌, ◌∙◌, ap, arith, min}
use Rattle.luks_bin.proofs.FieldLemmas.{size-most}
use Rattle.luks_format.proofs.wish.Wish.keyslots_size.Goals as goal
use Rattle.luks_format.specs.Wishes.{keyslots_size_for}

pub overflow_mul-begin : goal.overflow_mul-begin
overflow_mul-begin c =
    let most = size-most c.args.self.now.metadata_size c.requires.size in
    omega (arith, most)

pub returns : goal.returns
unfolding keyslots_size_for
returns c =
    c.min.ensures ∙ ap (λ n. min n 134217728) c.saturating_sub.ensures
    ∙ ap (λ n. min (n - 2 * c.args.self.now.metadata_size) 134217728) c.keyslots_end.ensures
