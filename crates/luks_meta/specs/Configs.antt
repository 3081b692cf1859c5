-- Sizes and requirements that have a text, and who asks for something.
use Rattle.std.specs.Prelude.{ℕ, ◌^◌, ◌<◌, ◌||◌, not, Bool, true, false, List, []}
use Rattle.std.specs.Prelude.{◌∷◌, codes, Option, Some, None, IfSome}
use Rattle.std.specs.Str.{bytes_eq}
use Rattle.json_members.specs.Members.{Lacks, IsPlain}
use Rattle.luks_meta.specs.declared.config.Config.{Config}
use Rattle.luks_meta.specs.declared.config.Requirements.{Requirements}
use Rattle.luks_meta.specs.declared.keyslot.Origin.{Origin}
use Rattle.luks_meta.specs.declared.keyslot.Origin.TheVariants.{Own, Foreign}

-- ---- the names of their members
abbrev pub requirements_names : List (List ℕ)
requirements_names = codes "mandatory" ∷ []

abbrev pub config_names : List (List ℕ)
config_names = codes "json_size" ∷ codes "keyslots_size" ∷ codes "requirements" ∷ []

-- ---- sizes and requirements that have a text
pub record IsRequirements (r : Requirements) : Type 0 where
  pub lacks : Lacks requirements_names r.rest
  pub plain : IsPlain 124 r.rest

pub record IsConfig (c : Config) : Type 0 where
  pub json_size : c.json_size < 2 ^ 64
  pub keyslots_size : c.keyslots_size < 2 ^ 64
  pub requirements : IfSome c.requirements IsRequirements
  pub lacks : Lacks config_names c.rest
  pub plain : IsPlain 125 c.rest

-- ---- who asks for something
-- the requirement of a conversion by this program
abbrev pub profile : List ℕ
profile = codes "reencd-online-reencrypt-v1"

abbrev pub is_foreign : List ℕ → Bool
is_foreign text = not (bytes_eq text profile)

abbrev pub any_foreign : List (List ℕ) → Bool
any_foreign [] = false
any_foreign (text ∷ texts) = is_foreign text || any_foreign texts

abbrev pub origin_by : Bool → Origin
origin_by true = Foreign
origin_by false = Own

-- whose header it is by its requirements: foreign where one isn't the profile's
abbrev pub mandatory : Option Requirements → List (List ℕ)
mandatory None = []
mandatory (Some r) = r.mandatory

abbrev pub origin_of : Config → Origin
origin_of c = origin_by (any_foreign (mandatory c.requirements))
