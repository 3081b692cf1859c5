use Rattle.std.proofs.Common.{◌<◌, length, sym, ◌∙◌, subst}
use Rattle.std.proofs.lemmas.List.Quantifiers.{position-Some}
use Rattle.range_lock.specs.Ranks.{is_for}
use Rattle.range_lock.proofs.Places.{position_or_len-below, position-found, position-missed}
use Rattle.range_lock.proofs.ranked.place_of.Goals as goal

pub unreachable-requires : goal.unreachable-requires
unreachable-requires c =
    position-missed (is_for c.args.lane) c.args.sorted.now c.requires
    (sym c.find_place.ensures ∙ c.in-None.is)

pub returns : goal.returns
returns c =
    let items = c.args.sorted.now in
    let at = sym c.find_place.ensures ∙ c.in-Some.is in
    record {
      within = subst (λ n. n < length items)
          (sym (position-found (is_for c.args.lane) items c.in-Some.place at))
          (position_or_len-below (is_for c.args.lane) items c.requires);
      of_lane = λ d. (position-Some (is_for c.args.lane) items c.in-Some.place d at).1;
    }
