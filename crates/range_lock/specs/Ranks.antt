-- The entries of a table as they are kept: by first block, each with its rank, which is the number
-- of entries that came before it and are still there.
use Rattle.std.specs.Prelude.{◌≡◌, ℕ, ◌-◌, ◌<◌, ◌≤◌, Bool, List, [], ◌∷◌, All, Contains, length}
use Rattle.std.specs.Prelude.{map, nat_lt, if◌then◌else◌}
use Rattle.std.specs.List.{AllByRecursion}
use Rattle.range_lock.specs.declared.Entry.{Entry}
use Rattle.range_lock.specs.declared.Standing.{Standing}
use Rattle.range_lock.specs.declared.Standing.TheVariants.{Held, Waiting}
use Rattle.range_lock.specs.declared.ranked.Ranked.{Ranked}
use Rattle.range_lock.specs.Locks.{Conflicts, is_of}

-- one more of them, right before the first that has a higher rank
unfoldable pub put_by_rank : Ranked → List Ranked → List Ranked
put_by_rank r [] = r ∷ []
put_by_rank r (s ∷ rest) = if nat_lt r.rank s.rank then r ∷ s ∷ rest else s ∷ put_by_rank r rest

-- all of them by rank
unfoldable pub in_rank_order : List Ranked → List Ranked
in_rank_order [] = []
in_rank_order (r ∷ rest) = put_by_rank r (in_rank_order rest)

-- what they stand for: the entries in the order in which they came
unfoldable pub by_rank : List Ranked → List Entry
by_rank items = map (λ r. r.entry) (in_rank_order items)

-- one may stand behind the other: it begins no earlier, and has another rank and another lane
pub record Follows (r s : Ranked) : Type 0 where
  pub start : r.entry.range.start ≤ s.entry.range.start
  pub rank : r.rank ≡ s.rank → ⊥
  pub lane : r.entry.lane ≡ s.entry.lane → ⊥

-- each may stand behind all before it
unfoldable pub AreInOrder : List Ranked → Type 0
AreInOrder [] = Unit {0}
AreInOrder (r ∷ rest) = AllByRecursion (Follows r) rest × AreInOrder rest

-- what holds of the entries of every table: as many as there are have ranks below their number
pub record AreKept (items : List Ranked) : Type 0 where
  pub order : AreInOrder items
  pub ranks : AllByRecursion (λ r. r.rank < length items) items

-- whether an entry is the lane's
abbrev pub is_for : ℕ → Ranked → Bool
is_for lane r = is_of lane r.entry

-- one came before an entry of this rank, and conflicts with it
abbrev pub Bars : Ranked → Entry → ℕ → Type 0
Bars r entry rank = (r.rank < rank) × Conflicts r.entry entry

-- where an entry of this rank stands beside these
abbrev pub IsStandingAmong : List Ranked → Entry → ℕ → Standing → Type 0
IsStandingAmong items entry rank Held = All (λ r. Bars r entry rank → ⊥) items
IsStandingAmong items entry rank (Waiting lane) =
    (r : Ranked) × (Contains items r × Bars r entry rank × (r.entry.lane ≡ lane))

-- a rank after the entry of another has left: it falls by one where it is higher
unfoldable pub rank_after : ℕ → ℕ → ℕ
rank_after gone rank = if nat_lt gone rank then rank - 1 else rank

-- one of them after an entry of that rank has left
abbrev pub lowered : ℕ → Ranked → Ranked
lowered gone r = record { entry = r.entry; rank = rank_after gone r.rank }
