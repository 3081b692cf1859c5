use Rattle.std.proofs.Common.{◌≡◌, ◌<◌, ◌++◌, ◌∷◌, [], List, false, length, sym, subst, ap, ◌∙◌}
use Rattle.std.proofs.Common.{arith}
use Rattle.std.specs.List.{AllByRecursion}
use Rattle.range_lock.specs.Locks.{Locks, has_entry, IsStanding}
use Rattle.range_lock.specs.Ranks.{AreInOrder, IsStandingAmong, by_rank, AreKept, is_for}
use Rattle.range_lock.specs.declared.ranked.Ranked.{Ranked}
use Rattle.range_lock.proofs.Kept.{kept-told}
use Rattle.range_lock.proofs.Lists.{none-pass}
use Rattle.range_lock.proofs.Shown.{length-by_rank, has_entry-by_rank, by_rank-insert}
use Rattle.range_lock.proofs.Standings.{standing-last}
use Rattle.range_lock.proofs.table.Table.enter.Goals as goal
use Rattle.range_lock.proofs.table.Table.enter.Goals.{In-Ok}

pub standing_at-standing-requires : goal.standing_at-standing-requires
standing_at-standing-requires c =
    subst AreInOrder (sym c.as_slice-sorted.ensures.value) c.self.invariant.2.order

pub place_for-place-requires : goal.place_for-place-requires
place_for-place-requires c =
    subst AreInOrder (sym c.as_slice-sorted.ensures.value) c.self.invariant.2.order

pub unreachable-requires : goal.unreachable-requires
unreachable-requires c =
    let items = c.self.inside.sorted.items in
    let short = subst (λ (t : Locks). length t.entries < t.room) (sym c.self.view_is)
    c.requires.room in
    omega (arith, length-by_rank items, short, c.in-Err.ensures.full)

abbrev ranked : In-Ok → Ranked
ranked c = record {
  entry = record { lane = c.args.lane; range = c.args.range; kind = c.args.kind };
  rank = c.len-rank.result;
}

-- its rank is how many there are
last : (c : In-Ok) → c.len-rank.result ≡ length c.self.inside.sorted.items
last c = c.len-rank.ensures
    ∙ (sym c.as_slice-sorted.ensures.len ∙ ap length c.as_slice-sorted.ensures.value)

pub invariant_of-self : goal.invariant_of-self
invariant_of-self c =
    let items = c.self.inside.sorted.items in
    let place = c.place_for-place.ensures in
    let was = c.self.invariant in
    let put = c.in-Ok.ensures in
    let short = subst (λ (t : Locks). length t.entries < t.room) (sym c.self.view_is)
    c.requires.room in
    let none = subst (λ (t : Locks). has_entry c.args.lane t.entries ≡ false) (sym c.self.view_is)
    c.requires.new in
    let count = last c in (
      omega (arith, length-by_rank items, short, put.len, count, c.len-rank.ensures),
      omega (arith, put.capacity, was.1),
      subst AreKept (sym put.items)
          (kept-told items c.as_slice-sorted.result.now c.place_for-place.result (ranked c)
          c.as_slice-sorted.ensures.value was.2 place.within count place.before place.behind
          (none-pass (is_for c.args.lane) items
          (sym (has_entry-by_rank c.args.lane items) ∙ none))),
    )

pub returns : goal.returns
returns c =
    let items = c.self.inside.sorted.items in
    let was = c.self.invariant in
    let one = (ranked c).entry in
    record {
      room = ap (λ (t : Locks). t.room) c.self.view_is;
      entered = ap by_rank c.in-Ok.ensures.items
          ∙ (by_rank-insert items c.place_for-place.result (ranked c)
          (subst (λ n. AllByRecursion (λ (s : Ranked). s.rank < n) items) (sym (last c)) was.2.ranks)
          ∙ ap (λ (t : Locks). t.entries ++ one ∷ []) c.self.view_is);
      standing = subst (λ (t : Locks). IsStanding t.entries one c.standing_at-standing.result)
          c.self.view_is
          (standing-last items one c.standing_at-standing.result was.2.ranks
          (subst (λ n. IsStandingAmong items one n c.standing_at-standing.result) (last c)
          (subst (λ (l : List Ranked). IsStandingAmong l one c.len-rank.result
          c.standing_at-standing.result) c.as_slice-sorted.ensures.value
          c.standing_at-standing.ensures)));
    }
