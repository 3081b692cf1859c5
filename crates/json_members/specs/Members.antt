-- The members of a JSON object.
use Rattle.std.specs.Prelude.{◌≡◌, ℕ, ◌≤◌, false, List, [], ◌∷◌, Option, Some, None, if◌then◌else◌}
use Rattle.std.specs.Str.{bytes_eq}
use Rattle.serde_json.specs.Data.{Data, Members, no_members, member, put, depth, members_depth}
use Rattle.serde_json.specs.Written.{has_float, members_have_float}
use Rattle.serde_json.specs.Find.{get_member}

-- the members without the one of this name
abbrev pub without : List ℕ → Members → Members
without k no_members = no_members
without k (member l d ms) = if bytes_eq k l then without k ms else member l d (without k ms)

-- the members without those of these names
abbrev pub without_all : List (List ℕ) → Members → Members
without_all [] ms = ms
without_all (k ∷ ks) ms = without_all ks (without k ms)

-- the members with these fields, one after the other
abbrev pub put_all : List (List ℕ × Data) → Members → Members
put_all [] ms = ms
put_all (f ∷ fs) ms = put_all fs (put f.0 f.1 ms)

-- there is no member of these names
abbrev pub Lacks : List (List ℕ) → Members → Type 0
Lacks [] ms = Unit {0}
Lacks (k ∷ ks) ms = (get_member k ms ≡ None) × Lacks ks ms

-- members that are kept: no float, and nested at most so deep
pub record IsPlain (deep : ℕ) (ms : Members) : Type 0 where
  pub whole : members_have_float ms ≡ false
  pub flat : members_depth ms ≤ deep

pub record IsPlainData (deep : ℕ) (d : Data) : Type 0 where
  pub whole : has_float d ≡ false
  pub flat : depth d ≤ deep

-- the members with this one, if it is to be there
abbrev pub put_optional : List ℕ → Option Data → Members → Members
put_optional name None ms = ms
put_optional name (Some d) ms = put name d ms
