-- A map of objects by numbers.
use Rattle.std.specs.Prelude.{ℕ, ◌<◌, ◌^◌, List, [], ◌∷◌, map, Result, Ok, decimal}
use Rattle.std.specs.Ordering.{nat_cmp}
use Rattle.std.specs.BTreeMap.{insert_entry}
use Rattle.std.specs.List.{AllByRecursion}
use Rattle.serde_json.specs.Data.{Data, object, Members, no_members, member, put}
use Rattle.serde_json.specs.Find.{as_object}
use Rattle.serde_json.specs.View.{view}
use Rattle.serde_json.specs.declared.value.Value.{Value}
use Rattle.json_members.specs.declared.faults.JsonFault.{JsonFault}
use Rattle.json_members.specs.declared.faults.JsonFaultKind.TheVariants.{Kind, Number}
use Rattle.json_members.specs.Decimals.{number_of}
use Rattle.json_members.specs.Fields.{◌>>=◌, required, under}

-- entries, with the data of their values
abbrev pub viewed : List (ℕ × Value) → List (ℕ × Data)
viewed es = map (λ e. (e.0, view e.1)) es

-- the members by rising number, after these; a key that is no number is a fault
unfoldable pub numbered_from : List ℕ → List (ℕ × Data) → Members
    → Result (List (ℕ × Data)) JsonFault
numbered_from path found no_members = Ok found
numbered_from path found (member k d ms) = do
  n ← required Number path k (number_of k)
  numbered_from path (insert_entry nat_cmp found n d) ms

abbrev pub numbered_in : List ℕ → Members → Result (List (ℕ × Data)) JsonFault
numbered_in path ms = numbered_from path [] ms

-- the object at a number
unfoldable pub entry_at : {X : Type 0} → (List ℕ → Members → Result X JsonFault) → List ℕ → ℕ × Data
    → Result X JsonFault
entry_at of path e = do
  ms ← required Kind path (decimal e.0) (as_object e.1)
  of (under path (decimal e.0)) ms

-- each of the objects, the first fault first
unfoldable pub each_of : {X : Type 0} → (List ℕ → Members → Result X JsonFault) → List ℕ
    → List (ℕ × Data) → Result (List (ℕ × X)) JsonFault
each_of of path [] = Ok []
each_of of path (e ∷ es) = do
  x ← entry_at of path e
  xs ← each_of of path es
  Ok ((e.0, x) ∷ xs)

-- the objects of a map by numbers: bad keys first, and then the objects by rising number
unfoldable pub objects_in : {X : Type 0} → (List ℕ → Members → Result X JsonFault) → List ℕ
    → Members → Result (List (ℕ × X)) JsonFault
objects_in of path ms = do
  es ← numbered_in path ms
  each_of of path es

-- ---- and back
abbrev pub objects_onto : {X : Type 0} → (X → Members) → List (ℕ × X) → Members → Members
objects_onto members [] ms = ms
objects_onto members (e ∷ es) ms =
    objects_onto members es (put (decimal e.0) (object (members e.1)) ms)

abbrev pub objects_members : {X : Type 0} → (X → Members) → List (ℕ × X) → Members
objects_members members es = objects_onto members es no_members

-- rising numbers of 64 bits
abbrev pub IsRising : {X : Type 0} → List (ℕ × X) → Type 0
IsRising [] = Unit {0}
IsRising (e ∷ es) = (e.0 < 2 ^ 64) × AllByRecursion (λ f. e.0 < f.0) es × IsRising es

-- entries by rising number, each of which is right
pub record AreEntries {X : Type 0} (Is : X → Type 0) (entries : List (ℕ × X)) : Type 0 where
  pub rising : IsRising entries
  pub each : AllByRecursion (λ e. Is e.1) entries
