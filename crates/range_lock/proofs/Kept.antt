-- What is kept of a table's entries, where one more comes and where one has left.
use Rattle.std.proofs.Common.{◌≡◌, ℕ, zero, suc, ◌+◌, ◌<◌, ◌≤◌, true, false, List, [], ◌∷◌, ◌++◌}
use Rattle.std.proofs.Common.{length, map, take, drop, get_or, sym, ap, ◌∙◌, subst, arith}
use Rattle.std.proofs.Common.{length-append, take-append-drop, drop-cons}
use Rattle.std.proofs.lemmas.Bool.{eqb-true, eqb-false, ne_eqb}
use Rattle.std.proofs.lemmas.List.{length-map}
use Rattle.std.proofs.lemmas.List.Edits.{length-insert, length-remove}
use Rattle.std.proofs.lemmas.List.Elements.{All-from_recursion}
use Rattle.std.specs.List.{AllByRecursion, insert, remove}
use Rattle.std.specs.List.Sorted.{IsNonDecreasingBy}
use Rattle.range_lock.specs.declared.ranked.Ranked.{Ranked}
use Rattle.range_lock.specs.Ranks.{Follows, AreInOrder, AreKept, is_for, lowered}
use Rattle.range_lock.proofs.Lists.{all-front, all-back, all-with, all-less, all-one, all-each}
use Rattle.range_lock.proofs.Lists.{all-both, all-map}
use Rattle.range_lock.proofs.RankOrder.{rank_after-ne, rank_after-below}

-- ---- the order in which they stand
order-with : (front : List Ranked) (r : Ranked) (back : List Ranked)
    → AllByRecursion (λ s. Follows s r) front → AllByRecursion (Follows r) back
    → AreInOrder (front ++ back) → AreInOrder (front ++ r ∷ back)
unfolding AreInOrder
order-with [] r back before behind order = (behind, order)
order-with (s ∷ front) r back before behind order = (
  all-with (Follows s) front r back before.0 order.0,
  order-with front r back before.1 behind order.1,
)

order-less : (front : List Ranked) (r : Ranked) (back : List Ranked)
    → AreInOrder (front ++ r ∷ back) → AreInOrder (front ++ back)
unfolding AreInOrder
order-less [] r back order = order.1
order-less (s ∷ front) r back order =
    (all-less (Follows s) front r back order.0, order-less front r back order.1)

-- two entries have different ranks and lanes
pub record AreApart (r s : Ranked) : Type 0 where
  pub rank : r.rank ≡ s.rank → ⊥
  pub lane : r.entry.lane ≡ s.entry.lane → ⊥

pub all-apart : (front : List Ranked) (r : Ranked) (back : List Ranked)
    → AreInOrder (front ++ r ∷ back) → AllByRecursion (AreApart r) (front ++ back)
unfolding AreInOrder
all-apart [] r back order =
    all-each (Follows r) (AreApart r) (λ s f. record { rank = f.rank; lane = f.lane }) back order.0
all-apart (s ∷ front) r back order =
    let f = all-one (Follows s) front r back order.0 in (
      record { rank = λ same. f.rank (sym same); lane = λ same. f.lane (sym same) },
      all-apart front r back order.1,
    )

-- none of the others has the rank, and none the lane
pub other-ranks : (front : List Ranked) (r : Ranked) (back : List Ranked)
    → AreInOrder (front ++ r ∷ back)
    → AllByRecursion (λ s. r.rank ≡ s.rank → ⊥) (front ++ back)
other-ranks front r back order =
    all-each (AreApart r) (λ s. r.rank ≡ s.rank → ⊥) (λ s apart. apart.rank) (front ++ back)
    (all-apart front r back order)

pub other-lanes : (lane : ℕ) (front : List Ranked) (r : Ranked) (back : List Ranked)
    → is_for lane r ≡ true → AreInOrder (front ++ r ∷ back)
    → AllByRecursion (λ s. is_for lane s ≡ false) (front ++ back)
other-lanes lane front r back mine order =
    let own = eqb-true r.entry.lane lane mine in
    all-each (AreApart r) (λ s. is_for lane s ≡ false)
    (λ s apart. ne_eqb s.entry.lane lane (λ same. apart.lane (own ∙ sym same))) (front ++ back)
    (all-apart front r back order)

pub starts-rise : (items : List Ranked) → AreInOrder items
    → IsNonDecreasingBy (λ (r : Ranked). r.entry.range.start) items
unfolding AreInOrder
starts-rise [] order i j d le lt = absurd (omega arith)
starts-rise (r ∷ rest) order zero zero d le lt = omega arith
starts-rise (r ∷ rest) order zero (suc j) d le lt =
    (All-from_recursion (Follows r) rest order.0 j d (omega arith)).start
starts-rise (r ∷ rest) order (suc i) zero d le lt = absurd (omega arith)
starts-rise (r ∷ rest) order (suc i) (suc j) d le lt =
    starts-rise rest order.1 i j d (omega arith) (omega arith)

-- ---- what is kept
pub kept-none : AreKept []
unfolding AreInOrder
kept-none = record { order = tt; ranks = tt }

pub kept-with : (items : List Ranked) (place : ℕ) (r : Ranked) → AreKept items
    → place ≤ length items → r.rank ≡ length items
    → AllByRecursion (λ s. s.entry.range.start < r.entry.range.start) (take place items)
    → AllByRecursion (λ s. r.entry.range.start ≤ s.entry.range.start) (drop place items)
    → AllByRecursion (λ s. is_for r.entry.lane s ≡ false) items → AreKept (insert items place r)
kept-with items place r kept within last before behind new =
    let front = take place items in
    let back = drop place items in
    let whole : front ++ back ≡ items = take-append-drop place items in
    let apart : AllByRecursion (AreApart r) (front ++ back) =
    subst (AllByRecursion (AreApart r)) (sym whole)
    (all-both (λ s. s.rank < length items) (λ s. is_for r.entry.lane s ≡ false) (AreApart r)
    (λ s lt other. record {
      rank = λ same. omega (arith, lt, last, same);
      lane = λ same. eqb-false s.entry.lane r.entry.lane other (sym same);
    })
    items kept.ranks new) in
    let order = order-with front r back
    (all-both (λ s. s.entry.range.start < r.entry.range.start) (AreApart r) (λ s. Follows s r)
    (λ s lt apart. record {
      start = omega (arith, lt);
      rank = λ same. apart.rank (sym same);
      lane = λ same. apart.lane (sym same);
    })
    front before (all-front (AreApart r) front back apart))
    (all-both (λ s. r.entry.range.start ≤ s.entry.range.start) (AreApart r) (Follows r)
    (λ s le apart. record { start = le; rank = apart.rank; lane = apart.lane }) back behind
    (all-back (AreApart r) front back apart))
    (subst AreInOrder (sym whole) kept.order) in
    let long = length-insert items place r within in
    let Ranks : Ranked → Type 0 = λ s. s.rank < length (insert items place r) in
    record {
      order = order;
      ranks = all-with Ranks front r back (omega (arith, long, last))
          (subst (AllByRecursion Ranks) (sym whole)
          (all-each (λ s. s.rank < length items) Ranks (λ s lt. omega (arith, long, lt)) items
          kept.ranks));
    }

-- so by the slice of a table's entries
pub kept-told : (items slice : List Ranked) (place : ℕ) (r : Ranked) → slice ≡ items
    → AreKept items → place ≤ length slice → r.rank ≡ length items
    → AllByRecursion (λ s. s.entry.range.start < r.entry.range.start) (take place slice)
    → AllByRecursion (λ s. r.entry.range.start ≤ s.entry.range.start) (drop place slice)
    → AllByRecursion (λ s. is_for r.entry.lane s ≡ false) items → AreKept (insert items place r)
kept-told items slice place r same kept within last before behind new =
    subst (λ (l : List Ranked). AreKept (insert l place r)) same
    (kept-with slice place r (subst AreKept (sym same) kept) within (last ∙ ap length (sym same))
    before behind
    (subst (AllByRecursion (λ (s : Ranked). is_for r.entry.lane s ≡ false)) (sym same) new))

follows-lowered : (gone : ℕ) (r s : Ranked) → (gone ≡ r.rank → ⊥) → (gone ≡ s.rank → ⊥)
    → Follows r s → Follows (lowered gone r) (lowered gone s)
follows-lowered gone r s x y f = record {
  start = f.start;
  rank = rank_after-ne gone r.rank s.rank x y f.rank;
  lane = f.lane;
}

in_order-lowered : (gone : ℕ) (items : List Ranked)
    → AllByRecursion (λ s. gone ≡ s.rank → ⊥) items → AreInOrder items
    → AreInOrder (map (lowered gone) items)
unfolding AreInOrder
in_order-lowered gone [] others order = tt
in_order-lowered gone (r ∷ rest) others order = (
  all-map (Follows (lowered gone r)) (lowered gone) rest
      (all-both (λ s. gone ≡ s.rank → ⊥) (Follows r) (λ s. Follows (lowered gone r) (lowered gone s))
      (λ s other f. follows-lowered gone r s others.0 other f) rest others.1 order.0),
  in_order-lowered gone rest others.1 order.1,
)

pub kept-less : (front : List Ranked) (r : Ranked) (back : List Ranked)
    → AreKept (front ++ r ∷ back) → AreKept (map (lowered r.rank) (front ++ back))
kept-less front r back kept =
    let others = other-ranks front r back kept.order in
    let most = length (map (lowered r.rank) (front ++ back)) in
    let long : length (front ++ r ∷ back) ≡ most + 1 =
    omega (
      arith,
      length-append front (r ∷ back),
      length-append front back,
      length-map (front ++ back) (lowered r.rank),
    ) in
    let Below : Ranked → Type 0 = λ s. s.rank < length (front ++ r ∷ back) in
    let own = all-one Below front r back kept.ranks in
    record {
      order = in_order-lowered r.rank (front ++ back) others (order-less front r back kept.order);
      ranks = all-map (λ s. s.rank < most) (lowered r.rank) (front ++ back)
          (all-both (λ s. r.rank ≡ s.rank → ⊥) Below (λ s. (lowered r.rank s).rank < most)
          (λ s other lt. rank_after-below r.rank s.rank most other (omega (arith, long, lt))
          (omega (arith, long, own)))
          (front ++ back) others (all-less Below front r back kept.ranks));
    }

-- ---- the entry at a place among all others
pub whole-at : (items : List Ranked) (place : ℕ) (r : Ranked) → place < length items
    → r ≡ get_or items place r → items ≡ take place items ++ r ∷ drop (suc place) items
whole-at items place r within read =
    sym (take-append-drop place items)
    ∙ ap (λ (l : List Ranked). take place items ++ l)
    (drop-cons items place r within
    ∙ ap (λ (s : Ranked). s ∷ drop (suc place) items) (sym read))

pub kept-left : (items : List Ranked) (place : ℕ) (r : Ranked) → AreKept items
    → place < length items → r ≡ get_or items place r
    → AreKept (map (lowered r.rank) (remove items place))
kept-left items place r kept within read =
    kept-less (take place items) r (drop (suc place) items)
    (subst AreKept (whole-at items place r within read) kept)

-- and as many as there are
pub left-long : (items : List Ranked) (place gone : ℕ) → place < length items
    → length (map (lowered gone) (remove items place)) + 1 ≡ length items
left-long items place gone within =
    let long = length-map (remove items place) (lowered gone) in
    let less = length-remove items place within in
    omega (arith, long, less)
