use Rattle.std.proofs.Common.{length, sym, ◌∙◌, ap}
use Rattle.luks_store.proofs.UsedLemmas.{older-stands, other-found, same-length, same-used}
use Rattle.luks_store.proofs.used.newer.Goals as goal

pub returns-then-first-second-clause-are : goal.returns-then-first-second-clause-are
returns-then-first-second-clause-are c =
    older-stands c.args.first c.args.second _ _ c.requires.first c.requires.second
    c.place_of-primary-then-first-second.ensures c.place_of-secondary-then-first-second.ensures

pub first_difference-requires : goal.first_difference-requires
first_difference-requires c =
    ap length c.as_slice.ensures ∙ same-length _ _ c.requires.first c.requires.second
    ∙ sym (ap length c.as_slice-2.ensures)

pub returns-in-Some-clause-used : goal.returns-in-Some-clause-used
returns-in-Some-clause-used c =
    let first = c.args.first in
    let second = c.args.second in
    let differ = rw (c.as_slice.ensures, c.as_slice-2.ensures) at c.in-Some.ensures in (
      first.bytes,
      second.bytes,
      other-found c.copies_mean_what_they_share.ensures first second c.in-Some.place
          c.requires.first
          c.requires.second c.if-second-first.false c.if-first-second.false differ,
      differ,
    )

pub returns-in-None-clause-used : goal.returns-in-None-clause-used
returns-in-None-clause-used c =
    let agree = rw (c.as_slice.ensures, c.as_slice-2.ensures) at c.in-None.ensures in
    same-used c.copies_mean_what_they_share.ensures c.args.first c.args.second _ _ c.requires.first
    c.requires.second
    c.if-second-first.false c.if-first-second.false agree c.place_of-primary-in-None.ensures
    c.place_of-secondary-in-None.ensures
