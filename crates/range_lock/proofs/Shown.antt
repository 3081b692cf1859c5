-- The entries by rank: as they come, leave and are looked for.
use Rattle.std.proofs.Common.{◌≡◌, ℕ, suc, ◌<◌, true, false, List, [], ◌∷◌, ◌++◌}
use Rattle.std.proofs.Common.{length, map, take, drop, get_or, Some, refl, sym, ap, ap₂, ◌∙◌, subst}
use Rattle.std.proofs.Common.{take-append-drop}
use Rattle.std.proofs.lemmas.List.{length-map, map-append, map_push}
use Rattle.std.proofs.lemmas.List.Sorted.{length_permutation, list_any-IsPermutation}
use Rattle.std.specs.List.{AllByRecursion, insert, remove, list_any, find, before_first}
use Rattle.range_lock.specs.declared.Entry.{Entry}
use Rattle.range_lock.specs.declared.ranked.Ranked.{Ranked}
use Rattle.range_lock.specs.Locks.{is_of, has_entry, without}
use Rattle.range_lock.specs.Ranks.{in_rank_order, by_rank, AreKept, is_for, lowered}
use Rattle.range_lock.proofs.Lists.{any-map, all-map, all-front, before-at, after-at, find-first}
use Rattle.range_lock.proofs.RankOrder.{order-permutes, order-last, order-lowered, order-parts}
use Rattle.range_lock.proofs.RankOrder.{Parted, all-ordered}
use Rattle.range_lock.proofs.Kept.{other-ranks, other-lanes, whole-at}

abbrev entries : List Ranked → List Entry
entries items = map (λ r. r.entry) items

pub by_rank-none : (items : List Ranked) → items ≡ [] → by_rank items ≡ []
unfolding by_rank in_rank_order
by_rank-none items none = ap by_rank none

pub length-by_rank : (items : List Ranked) → length (by_rank items) ≡ length items
unfolding by_rank
length-by_rank items =
    length-map (in_rank_order items) (λ (r : Ranked). r.entry)
    ∙ length_permutation items (in_rank_order items) (order-permutes items)

pub has_entry-by_rank : (lane : ℕ) (items : List Ranked)
    → has_entry lane (by_rank items) ≡ list_any (is_for lane) items
unfolding by_rank
has_entry-by_rank lane items =
    any-map (is_of lane) (λ (r : Ranked). r.entry) (in_rank_order items)
    ∙ sym (list_any-IsPermutation (is_for lane) items (in_rank_order items) (order-permutes items))

-- one more comes
pub by_rank-insert : (items : List Ranked) (place : ℕ) (r : Ranked)
    → AllByRecursion (λ s. s.rank < r.rank) items
    → by_rank (insert items place r) ≡ by_rank items ++ r.entry ∷ []
unfolding by_rank
by_rank-insert items place r lower =
    let whole : take place items ++ drop place items ≡ items = take-append-drop place items in
    let last = order-last (take place items) r (drop place items)
    (subst (AllByRecursion (λ (s : Ranked). s.rank < r.rank)) (sym whole) lower) in
    ap entries (last ∙ ap (λ (l : List Ranked). in_rank_order l ++ r ∷ []) whole)
    ∙ map_push (λ (s : Ranked). s.entry) (in_rank_order items) r

-- one of them, those before it and those behind it
pub record IsAmong (lane : ℕ) (front : List Ranked) (r : Ranked) (back : List Ranked) : Type 0 where
  pub parts : Parted r (in_rank_order (front ++ back)) (in_rank_order (front ++ r ∷ back))
  pub lanes : AllByRecursion (λ e. is_of lane e ≡ false) (entries parts.front)

pub among : (lane : ℕ) (front : List Ranked) (r : Ranked) (back : List Ranked)
    → AreKept (front ++ r ∷ back) → is_for lane r ≡ true → IsAmong lane front r back
among lane front r back kept mine =
    let q = order-parts front r back (other-ranks front r back kept.order) in
    let all = all-ordered (λ s. is_for lane s ≡ false) (front ++ back)
    (other-lanes lane front r back mine kept.order) in
    record {
      parts = q;
      lanes = all-map (λ e. is_of lane e ≡ false) (λ (s : Ranked). s.entry) q.front
          (all-front (λ s. is_for lane s ≡ false) q.front q.back
          (subst (AllByRecursion (λ (s : Ranked). is_for lane s ≡ false)) q.without all));
    }

pub by_rank-among : (lane : ℕ) (front : List Ranked) (r : Ranked) (back : List Ranked)
    (q : IsAmong lane front r back)
    → by_rank (front ++ r ∷ back) ≡ entries q.parts.front ++ r.entry ∷ entries q.parts.back
unfolding by_rank
by_rank-among lane front r back q =
    ap entries q.parts.among
    ∙ map-append (λ (s : Ranked). s.entry) q.parts.front (r ∷ q.parts.back)

pub find-among : (lane : ℕ) (front : List Ranked) (r : Ranked) (back : List Ranked)
    (q : IsAmong lane front r back) → is_for lane r ≡ true
    → find (is_of lane) (by_rank (front ++ r ∷ back)) ≡ Some r.entry
find-among lane front r back q mine =
    ap (find (is_of lane)) (by_rank-among lane front r back q)
    ∙ find-first (is_of lane) (entries q.parts.front) r.entry (entries q.parts.back) q.lanes mine

pub before-among : (lane : ℕ) (front : List Ranked) (r : Ranked) (back : List Ranked)
    (q : IsAmong lane front r back) → is_for lane r ≡ true
    → before_first (is_of lane) (by_rank (front ++ r ∷ back)) ≡ entries q.parts.front
before-among lane front r back q mine =
    ap (before_first (is_of lane)) (by_rank-among lane front r back q)
    ∙ before-at (is_of lane) (entries q.parts.front) r.entry (entries q.parts.back) q.lanes mine

without-among : (lane : ℕ) (front : List Ranked) (r : Ranked) (back : List Ranked)
    (q : IsAmong lane front r back) → is_for lane r ≡ true
    → without lane (by_rank (front ++ r ∷ back)) ≡ by_rank (front ++ back)
unfolding by_rank
without-among lane front r back q mine =
    ap (without lane) (by_rank-among lane front r back q)
    ∙ (ap₂ (λ (xs ys : List Entry). xs ++ ys)
    (before-at (is_of lane) (entries q.parts.front) r.entry (entries q.parts.back) q.lanes mine)
    (after-at (is_of lane) (entries q.parts.front) r.entry (entries q.parts.back) q.lanes mine)
    ∙ (sym (map-append (λ (s : Ranked). s.entry) q.parts.front q.parts.back)
    ∙ ap entries (sym q.parts.without)))

-- one of them leaves
entries-lowered : (gone : ℕ) (items : List Ranked)
    → entries (map (lowered gone) items) ≡ entries items
entries-lowered gone [] = refl
entries-lowered gone (r ∷ rest) =
    ap (λ (l : List Entry). r.entry ∷ l) (entries-lowered gone rest)

by_rank-lowered : (gone : ℕ) (items : List Ranked)
    → AllByRecursion (λ s. gone ≡ s.rank → ⊥) items
    → by_rank (map (lowered gone) items) ≡ by_rank items
unfolding by_rank
by_rank-lowered gone items others =
    ap entries (order-lowered gone items others) ∙ entries-lowered gone (in_rank_order items)

by_rank-less : (lane : ℕ) (front : List Ranked) (r : Ranked) (back : List Ranked)
    → AreKept (front ++ r ∷ back) → is_for lane r ≡ true
    → by_rank (map (lowered r.rank) (front ++ back)) ≡ without lane (by_rank (front ++ r ∷ back))
by_rank-less lane front r back kept mine =
    by_rank-lowered r.rank (front ++ back) (other-ranks front r back kept.order)
    ∙ sym (without-among lane front r back (among lane front r back kept mine) mine)

pub by_rank-left : (lane : ℕ) (items : List Ranked) (place : ℕ) (r : Ranked) → AreKept items
    → place < length items → r ≡ get_or items place r → is_for lane r ≡ true
    → by_rank (map (lowered r.rank) (remove items place)) ≡ without lane (by_rank items)
by_rank-left lane items place r kept within read mine =
    let whole = whole-at items place r within read in
    by_rank-less lane (take place items) r (drop (suc place) items) (subst AreKept whole kept) mine
    ∙ ap (λ (l : List Ranked). without lane (by_rank l)) (sym whole)
