-- Areas that share a byte.
use Rattle.std.specs.Prelude.{ℕ, ◌<◌, ◌≤◌, ◌&&◌, ◌||◌, nat_lt, Bool, false, List, [], ◌∷◌, length}
use Rattle.std.specs.Prelude.{slice_index_or}
use Rattle.std.specs.List.{list_any, filter}
use Rattle.std.specs.List.Sorted.{IsPermutation, IsNonDecreasingBy}
use Rattle.luks_rules.specs.Areas.{end_of}
use Rattle.luks_rules.specs.declared.areas.Area.{Area}

-- the byte at a place is one of the area's
abbrev pub HasByte : Area → ℕ → Type 0
HasByte a at = (a.offset ≤ at) × (at < end_of a)

-- whether two areas have a byte in common
abbrev pub shares : Area → Area → Bool
shares a b =
    (nat_lt a.offset (end_of b) && nat_lt b.offset (end_of a))
    && (nat_lt a.offset (end_of a) && nat_lt b.offset (end_of b))

-- whether an area shares a byte with a later one
unfoldable pub overlap : List Area → Bool
overlap [] = false
overlap (a ∷ areas) = list_any (shares a) areas || overlap areas

-- ---- in plain words
-- Two areas have a byte in common.
unfoldable pub TwoShare : List Area → Type 0
TwoShare areas = (i : ℕ) × (j : ℕ) × (d : Area) × (i < j) × (j < length areas)
    × ((at : ℕ) × HasByte (slice_index_or areas i d) at × HasByte (slice_index_or areas j d) at)

-- ---- as it is computed
abbrev pub has_bytes : Area → Bool
has_bytes a = nat_lt 0 a.size

-- whether one of the areas begins before the one in front of it ends
unfoldable pub reaches : ℕ → List Area → Bool
reaches last [] = false
reaches last (a ∷ areas) = nat_lt a.offset last || reaches (end_of a) areas

-- The areas that have a byte, by rising offset.
pub record IsInOrder (areas sorted : List Area) : Type 0 where
  pub same : IsPermutation (filter has_bytes areas) sorted
  pub rising : IsNonDecreasingBy (λ a. a.offset) sorted
