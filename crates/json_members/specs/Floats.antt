-- The first number that isn't whole within 64 bits, in the order of writing.
use Rattle.std.specs.Prelude.{ℕ, ◌+◌, List, Option, Some, None, if◌then◌else◌, decimal}
use Rattle.serde_json.specs.Data.{Data, null, boolean, number, string, array, object, Items}
use Rattle.serde_json.specs.Data.{no_items, item, Members, no_members, member}
use Rattle.serde_json.specs.Find.{is_float}
use Rattle.json_members.specs.Fields.{under}

abbrev pub or_later : Option (List ℕ) → Option (List ℕ) → Option (List ℕ)
or_later None o = o
or_later (Some path) o = Some path

unfoldable mutual
  pub float_in : List ℕ → Data → Option (List ℕ)
  float_in path null = None
  float_in path (boolean b) = None
  float_in path (number n) = if is_float n then Some path else None
  float_in path (string s) = None
  float_in path (array ds) = float_in_items path 0 ds
  float_in path (object ms) = float_in_members path ms

  pub float_in_items : List ℕ → ℕ → Items → Option (List ℕ)
  float_in_items path i no_items = None
  float_in_items path i (item d ds) =
      or_later (float_in (under path (decimal i)) d) (float_in_items path (i + 1) ds)

  pub float_in_members : List ℕ → Members → Option (List ℕ)
  float_in_members path no_members = None
  float_in_members path (member k d ms) =
      or_later (float_in (under path k) d) (float_in_members path ms)
