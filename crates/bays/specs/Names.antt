-- Things kept by name, the first of a name before the others.
use Rattle.std.specs.Prelude.{ℕ, ◌≡◌, ◌<◌, List, length, remove, slice_index_or, Option, Some}
use Rattle.std.specs.Map.{lookup, remove_entry}
use Rattle.std.specs.Str.{bytes_eq}
use Rattle.std.specs.String.{string_bytes}
use Rattle.std.specs.declared.string.String.{String}

-- the first thing of that name
abbrev pub named : {Y X : Type 0} → List ℕ → List (String Y × X) → Option X
named name entries = lookup (λ key. bytes_eq (string_bytes key) name) entries

-- all but the first thing of that name
abbrev pub without : {Y X : Type 0} → List ℕ → List (String Y × X) → List (String Y × X)
without name entries = remove_entry (λ key. bytes_eq (string_bytes key) name) entries

-- the first thing of that name stands at place `i`
pub record StandsAt {Y X : Type 0} (name : List ℕ) (entries : List (String Y × X)) (i : ℕ) : Type
    0 where
  pub within : i < length entries
  pub first : (d : String Y × X) → named name entries ≡ Some (slice_index_or entries i d).1
  pub others : without name entries ≡ remove entries i
