-- The sizes and requirements as the members of an object.
use Rattle.std.specs.Prelude.{◌≡◌, ℕ, ◌-◌, ◌==◌, ◌||◌, Bool, false, List, []}
use Rattle.std.specs.Prelude.{◌∷◌, codes, Option, Some, None, option_map, option_and_then, Result}
use Rattle.std.specs.Prelude.{Ok, if◌then◌else◌, decimal}
use Rattle.serde_json.specs.Data.{Data, null, boolean, number, string, array, object, Items}
use Rattle.serde_json.specs.Data.{no_items, item, Members}
use Rattle.serde_json.specs.Find.{get, get_member, as_array}
use Rattle.json_members.specs.declared.faults.JsonFault.{JsonFault}
use Rattle.json_members.specs.declared.faults.JsonFaultKind.TheVariants.{Number}
use Rattle.json_members.specs.Decimals.{number_of}
use Rattle.json_members.specs.Fields.{◌>>=◌, under, meant_in, decimal_in, texts_in, object_in}
use Rattle.json_members.specs.Fields.{optional, texts_data}
use Rattle.json_members.specs.Forms.{HasDecimal, HasObject, HasTexts, HasOptional}
use Rattle.json_members.specs.Members.{without_all, put_all, put_optional}
use Rattle.luks_meta.specs.declared.config.Config.{Config}
use Rattle.luks_meta.specs.declared.config.Requirements.{Requirements}
use Rattle.luks_meta.specs.declared.keyslot.Origin.{Origin}
use Rattle.luks_meta.specs.Configs.{requirements_names, config_names, is_foreign, origin_by}
use Rattle.luks_meta.specs.Configs.{mandatory}

-- ---- from members to the sizes and requirements
unfoldable pub requirements_of : List ℕ → Members → Result Requirements JsonFault
requirements_of path ms = do
  mandatory ← texts_in path (codes "mandatory") ms
  Ok (record { mandatory = mandatory; rest = without_all requirements_names ms })

unfoldable pub requirements_in : List ℕ → Members → Result Requirements JsonFault
requirements_in path ms = do
  inner ← object_in path (codes "requirements") ms
  requirements_of (under path (codes "requirements")) inner

-- the size of a JSON area in a copy of so many bytes
abbrev pub only_size : ℕ → ℕ → Option ℕ
only_size hdr_size n = if n == hdr_size - 4096 then Some n else None

abbrev pub json_size_named : ℕ → List ℕ → Option ℕ
json_size_named hdr_size text = option_and_then (only_size hdr_size) (number_of text)

unfoldable pub config_of : ℕ → List ℕ → Members → Result Config JsonFault
config_of hdr_size path ms = do
  json_size ← meant_in Number (json_size_named hdr_size) path (codes "json_size") ms
  keyslots_size ← decimal_in path (codes "keyslots_size") ms
  requirements ← optional (codes "requirements") ms (requirements_in path ms)
  Ok (record {
    json_size = json_size;
    keyslots_size = keyslots_size;
    requirements = requirements;
    rest =
        without_all config_names ms;
  })

-- ---- and back
abbrev pub requirements_fields : Requirements → List (List ℕ × Data)
requirements_fields r = (codes "mandatory", array (texts_data r.mandatory)) ∷ []

unfoldable pub requirements_members : Requirements → Members
requirements_members r = put_all (requirements_fields r) r.rest

abbrev pub config_fields : Config → List (List ℕ × Data)
config_fields c =
    (codes "json_size", string (decimal c.json_size))
    ∷ (codes "keyslots_size", string (decimal c.keyslots_size)) ∷ []

unfoldable pub config_members : Config → Members
config_members c =
    put_all (config_fields c)
    (put_optional (codes "requirements")
    (option_map (λ r. object (requirements_members r)) c.requirements) c.rest)

-- ---- which members, of which form
pub record HasRequirements (ms : Members) (r : Requirements) : Type 0 where
  pub mandatory : HasTexts (codes "mandatory") r.mandatory ms
  pub rest : r.rest ≡ without_all requirements_names ms

pub record HasConfig (hdr_size : ℕ) (ms : Members) (c : Config) : Type 0 where
  pub json_size : HasDecimal (codes "json_size") c.json_size ms
  pub fits : c.json_size ≡ hdr_size - 4096
  pub keyslots_size : HasDecimal (codes "keyslots_size") c.keyslots_size ms
  pub requirements : HasOptional (codes "requirements")
      (λ r. (inner : Members) × HasObject (codes "requirements") inner ms × HasRequirements inner r)
      c.requirements ms
  pub rest : c.rest ≡ without_all config_names ms

-- ---- who asks for something
-- the same of the top members, whatever else they are
abbrev pub is_foreign_item : Data → Bool
is_foreign_item null = false
is_foreign_item (boolean b) = false
is_foreign_item (number n) = false
is_foreign_item (string s) = is_foreign s
is_foreign_item (array ds) = false
is_foreign_item (object ms) = false

abbrev pub any_foreign_item : Items → Bool
any_foreign_item no_items = false
any_foreign_item (item d ds) = is_foreign_item d || any_foreign_item ds

abbrev pub any_foreign_in : Option Items → Bool
any_foreign_in None = false
any_foreign_in (Some ds) = any_foreign_item ds

unfoldable pub mandatory_in : Members → Option Items
mandatory_in ms =
    option_and_then as_array
    (option_and_then (get (codes "mandatory"))
    (option_and_then (get (codes "requirements")) (get_member (codes "config") ms)))

unfoldable pub origin_in : Members → Origin
origin_in ms = origin_by (any_foreign_in (mandatory_in ms))
