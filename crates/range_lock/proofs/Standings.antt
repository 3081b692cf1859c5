-- Where an entry stands beside those by first block, and in the order in which all came.
use Rattle.std.proofs.Common.{◌≡◌, ℕ, suc, ◌<◌, ◌≤◌, true, List, ◌∷◌, ◌++◌}
use Rattle.std.proofs.Common.{length, map, take, drop, get_or, sym, subst, arith}
use Rattle.std.proofs.Common.{take-append-drop}
use Rattle.std.proofs.lemmas.List.Elements.{All-from_recursion, recursion_from_All, All-contains}
use Rattle.std.proofs.lemmas.List.Elements.{All-contains_itself, Contains-append_left}
use Rattle.std.proofs.lemmas.List.{get_or_default}
use Rattle.std.specs.List.{AllByRecursion, Contains, HoldsAt, before_first}
use Rattle.std.specs.Prelude.{Option, MatchOption}
use Rattle.range_lock.specs.declared.Entry.{Entry}
use Rattle.range_lock.specs.declared.Standing.{Standing}
use Rattle.range_lock.specs.declared.Standing.TheVariants.{Held, Waiting}
use Rattle.range_lock.specs.declared.ranked.Ranked.{Ranked}
use Rattle.range_lock.specs.Locks.{Conflicts, IsStanding, IsStandingOf, is_of}
use Rattle.range_lock.specs.Ranks.{in_rank_order, by_rank, AreKept, is_for, Bars, IsStandingAmong}
use Rattle.range_lock.proofs.Lists.{all-front, all-joined, all-with, all-less, all-each, all-both}
use Rattle.range_lock.proofs.Lists.{all-map, all-unmap}
use Rattle.range_lock.proofs.RankOrder.{all-ordered, all-unordered}
use Rattle.range_lock.proofs.Shown.{IsAmong, among, find-among, before-among}
use Rattle.range_lock.proofs.Kept.{whole-at}

-- what begins behind the end of a range has no block of it
no-bar : (r : Ranked) (entry : Entry) (rank : ℕ) → entry.range.end ≤ r.entry.range.start
    → Bars r entry rank → ⊥
no-bar r entry rank behind bars =
    let both = bars.1.0.1 in omega (arith, behind, both.0.0, both.1.1)

pub standing-near : (items : List Ranked) (near : ℕ) (entry : Entry) (rank : ℕ) (standing : Standing)
    → AllByRecursion (λ r. entry.range.end ≤ r.entry.range.start) (drop near items)
    → IsStandingAmong (take near items) entry rank standing
    → IsStandingAmong items entry rank standing
standing-near items near entry rank Held behind stands =
    let Free : Ranked → Type 0 = λ r. Bars r entry rank → ⊥ in
    let whole : take near items ++ drop near items ≡ items = take-append-drop near items in
    All-from_recursion Free items
    (subst (AllByRecursion Free) whole
    (all-joined Free (take near items) (drop near items)
    (recursion_from_All Free (take near items) stands)
    (all-each (λ (r : Ranked). entry.range.end ≤ r.entry.range.start) Free
    (λ r le. no-bar r entry rank le) (drop near items) behind)))
standing-near items near entry rank (Waiting lane) behind stands = (
  stands.0,
  (
    subst (λ (l : List Ranked). Contains l stands.0) (take-append-drop near items)
        (Contains-append_left (take near items) (drop near items) stands.0 stands.1.0),
    stands.1.1,
    stands.1.2,
  ),
)

abbrev entries : List Ranked → List Entry
entries items = map (λ r. r.entry) items

each-contained : (items : List Ranked)
    → AllByRecursion (λ r. Contains (entries items) r.entry) items
each-contained items =
    all-unmap (Contains (entries items)) (λ (r : Ranked). r.entry) items
    (recursion_from_All (Contains (entries items)) (entries items)
    (All-contains_itself (entries items)))

contains-entry : (items : List Ranked) (r : Ranked) → Contains items r
    → Contains (entries (in_rank_order items)) r.entry
contains-entry items r has =
    let Among : Ranked → Type 0 = λ s. Contains (entries (in_rank_order items)) s.entry in
    All-contains Among items r
    (All-from_recursion Among items
    (all-unordered Among items (each-contained (in_rank_order items)))) has

-- ---- an entry that comes behind all others
pub standing-last : (items : List Ranked) (entry : Entry) (standing : Standing)
    → AllByRecursion (λ r. r.rank < length items) items
    → IsStandingAmong items entry (length items) standing
    → IsStanding (by_rank items) entry standing
unfolding by_rank
standing-last items entry Held ranks stands =
    let Free : Entry → Type 0 = λ e. Conflicts e entry → ⊥ in
    let Unbarred : Ranked → Type 0 = λ r. Bars r entry (length items) → ⊥ in
    All-from_recursion Free (entries (in_rank_order items))
    (all-map Free (λ (r : Ranked). r.entry) (in_rank_order items)
    (all-ordered (λ r. Free r.entry) items
    (all-both (λ (r : Ranked). r.rank < length items) Unbarred (λ (r : Ranked). Free r.entry)
    (λ r lt free conflict. free (lt, conflict)) items ranks
    (recursion_from_All Unbarred items stands))))
standing-last items entry (Waiting lane) ranks stands = (
  stands.0.entry,
  (contains-entry items stands.0 stands.1.0, stands.1.1.1, stands.1.2),
)

-- ---- an entry among the others
standing-before : (lane : ℕ) (front : List Ranked) (r : Ranked) (back : List Ranked)
    (q : IsAmong lane front r back) (standing : Standing)
    → IsStandingAmong (front ++ r ∷ back) r.entry r.rank standing
    → IsStanding (entries q.parts.front) r.entry standing
standing-before lane front r back q Held stands =
    let Free : Entry → Type 0 = λ e. Conflicts e r.entry → ⊥ in
    let Unbarred : Ranked → Type 0 = λ s. Bars s r.entry r.rank → ⊥ in
    let others = all-less Unbarred front r back
    (recursion_from_All Unbarred (front ++ r ∷ back) stands) in
    let ordered = subst (AllByRecursion Unbarred) q.parts.without
    (all-ordered Unbarred (front ++ back) others) in
    All-from_recursion Free (entries q.parts.front)
    (all-map Free (λ (s : Ranked). s.entry) q.parts.front
    (all-both (λ (s : Ranked). s.rank < r.rank) Unbarred (λ (s : Ranked). Free s.entry)
    (λ s lt free conflict. free (lt, conflict)) q.parts.front q.parts.lower
    (all-front Unbarred q.parts.front q.parts.back ordered)))
standing-before lane front r back q (Waiting other) stands =
    let Among : Ranked → Type 0 = λ s. s.rank < r.rank → Contains (entries q.parts.front) s.entry in
    let lower = all-each (λ (s : Ranked). Contains (entries q.parts.front) s.entry) Among
    (λ s has lt. has) q.parts.front (each-contained q.parts.front) in
    let higher = all-each (λ (s : Ranked). r.rank < s.rank) Among
    (λ s above lt. absurd (omega (arith, above, lt))) q.parts.back q.parts.higher in
    let ordered = subst (AllByRecursion Among) (sym q.parts.without)
    (all-joined Among q.parts.front q.parts.back lower higher) in
    let all = all-with Among front r back (λ lt. absurd (omega (arith, lt)))
    (all-unordered Among (front ++ back) ordered) in
    let one = All-contains Among (front ++ r ∷ back) stands.0
    (All-from_recursion Among (front ++ r ∷ back) all) stands.1.0 in
    (stands.0.entry, (one stands.1.1.0, stands.1.1.1, stands.1.2))

standing-own : (lane : ℕ) (front : List Ranked) (r : Ranked) (back : List Ranked)
    (standing : Standing) → AreKept (front ++ r ∷ back) → is_for lane r ≡ true
    → IsStandingAmong (front ++ r ∷ back) r.entry r.rank standing
    → IsStandingOf lane (by_rank (front ++ r ∷ back)) standing
standing-own lane front r back standing kept mine stands =
    let q = among lane front r back kept mine in
    let whole = by_rank (front ++ r ∷ back) in
    subst (λ (o : Option Entry). MatchOption o ⊥
    (λ entry. IsStanding (before_first (is_of lane) whole) entry standing))
    (sym (find-among lane front r back q mine))
    (subst (λ (l : List Entry). IsStanding l r.entry standing)
    (sym (before-among lane front r back q mine))
    (standing-before lane front r back q standing stands))

pub standing-asked : (lane : ℕ) (items : List Ranked) (place : ℕ) (r : Ranked) (standing : Standing)
    → AreKept items → place < length items → r ≡ get_or items place r → is_for lane r ≡ true
    → IsStandingAmong items r.entry r.rank standing → IsStandingOf lane (by_rank items) standing
standing-asked lane items place r standing kept within read mine stands =
    let whole = whole-at items place r within read in
    subst (λ (l : List Ranked). IsStandingOf lane (by_rank l) standing) (sym whole)
    (standing-own lane (take place items) r (drop (suc place) items) standing
    (subst AreKept whole kept) mine
    (subst (λ (l : List Ranked). IsStandingAmong l r.entry r.rank standing) whole stands))

-- so by the slice of a table's entries, in which the lane's has its place
pub standing-told : (lane : ℕ) (items slice : List Ranked) (place : ℕ) (d : Ranked)
    (standing : Standing) → AreKept items → slice ≡ items → place < length slice
    → HoldsAt (λ r. is_for lane r ≡ true) slice place
    → IsStandingAmong slice (get_or slice place d).entry (get_or slice place d).rank standing
    → IsStandingOf lane (by_rank items) standing
standing-told lane items slice place d standing kept same within mine stands =
    subst (λ (l : List Ranked). IsStandingOf lane (by_rank l) standing) same
    (standing-asked lane slice place (get_or slice place d) standing
    (subst AreKept (sym same) kept) within
    (get_or_default slice place d (get_or slice place d) within) (mine d) stands)
