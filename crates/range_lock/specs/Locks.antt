-- A table of locks on ranges of blocks: its entries in the order in which they came.
use Rattle.std.specs.Prelude.{◌≡◌, ℕ, Bool, ◌⊎◌, List, ◌++◌, All, Contains, find, MatchOption}
use Rattle.std.specs.Prelude.{nat_eq}
use Rattle.std.specs.List.{list_any, before_first, after_first}
use Rattle.base_terms.specs.Ranges.Blocks.{SharesBlock}
use Rattle.range_lock.specs.declared.Entry.{Entry}
use Rattle.range_lock.specs.declared.Kind.TheVariants.{Alone}
use Rattle.range_lock.specs.declared.Standing.{Standing}
use Rattle.range_lock.specs.declared.Standing.TheVariants.{Held, Waiting}

-- what a table shows: how many entries it has room for, and its entries
pub record Locks : Type 0 where
  pub room : ℕ
  pub entries : List Entry

-- two entries conflict where their ranges share a block and not both are shared
abbrev pub Conflicts : Entry → Entry → Type 0
Conflicts e f = SharesBlock e.range f.range × ((e.kind ≡ Alone) ⊎ (f.kind ≡ Alone))

-- where an entry stands after those before it: it is held where none of them conflicts, and
-- otherwise waits for the lane of one that does
abbrev pub IsStanding : List Entry → Entry → Standing → Type 0
IsStanding earlier entry Held = All (λ e. Conflicts e entry → ⊥) earlier
IsStanding earlier entry (Waiting lane) =
    (e : Entry) × (Contains earlier e × Conflicts e entry × (e.lane ≡ lane))

-- whether an entry is the lane's
abbrev pub is_of : ℕ → Entry → Bool
is_of lane e = nat_eq e.lane lane

-- whether the lane has an entry
abbrev pub has_entry : ℕ → List Entry → Bool
has_entry lane entries = list_any (is_of lane) entries

-- where the lane's entry stands, after those before it
abbrev pub IsStandingOf : ℕ → List Entry → Standing → Type 0
IsStandingOf lane entries standing = MatchOption (find (is_of lane) entries) ⊥
    (λ entry. IsStanding (before_first (is_of lane) entries) entry standing)

-- the entries before the lane's and those after it
abbrev pub without : ℕ → List Entry → List Entry
without lane entries = before_first (is_of lane) entries ++ after_first (is_of lane) entries
