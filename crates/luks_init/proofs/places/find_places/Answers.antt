use Rattle.std.proofs.Common.{◌∙◌, ◌<◌, ap, subst, sym}
use Rattle.base_terms.specs.declared.disk_sizes.Sizes.{Sizes}
use Rattle.luks_init.proofs.SizeLemmas.{guard-some}
use Rattle.luks_init.specs.Wishes.{guard_len}
use Rattle.luks_init.proofs.places.find_places.Goals as goal

pub find_place-requires-2 : goal.find_place-requires-2
find_place-requires-2 c =
    subst (λ n. 0 < n)
    (sym (c.guard_size.ensures
    ∙ ap (λ (s : Sizes). guard_len c.args.wish.now s.atom) c.sizes.ensures.sizes))
    (guard-some c.args.wish.now c.args.valid.now.sizes.atom c.requires.atom c.requires.wish)
