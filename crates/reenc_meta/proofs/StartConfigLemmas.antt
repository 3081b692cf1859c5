-- The sizes and requirements with which a conversion begins.
use Rattle.std.proofs.Common.{◌≡◌, ◌∙◌, [], ◌∷◌, Option, Some, None}
use Rattle.std.proofs.Common.{true, false, refl, ap}
use Rattle.std.proofs.lemmas.Bool.{or_right}
use Rattle.std.proofs.lemmas.List.Folds.{list_any-append}
use Rattle.std.specs.List.{All, AllByRecursion, list_any}
use Rattle.std.specs.Option.{IfSome}
use Rattle.std.specs.Str.{bytes_eq}
use Rattle.luks_meta.specs.Configs.{IsConfig, IsRequirements, is_foreign, mandatory, origin_by}
use Rattle.luks_meta.specs.Configs.{origin_of, profile}
use Rattle.luks_meta.specs.declared.config.Config.{Config}
use Rattle.luks_meta.specs.declared.config.Requirements.{Requirements}
use Rattle.luks_meta.specs.declared.keyslot.Origin.TheVariants.{Own}
use Rattle.luks_rules.specs.Segments.{in_progress}
use Rattle.reenc_meta.specs.Starts.{HaveSizes}
use Rattle.reenc_meta.specs.Wishes.{asked_by, config_by}
use Rattle.reenc_meta.specs.declared.wish.Wish.{Wish}
use Rattle.reenc_meta.proofs.EachLemmas.{by-recursion, each-joined}
use Rattle.reenc_meta.proofs.FinishLemmas.{own_texts}
use Rattle.std.proofs.Common.{arith}

-- ---- no string is another program's, and the profile's is there
asked_own : (o : Option Requirements)
    → AllByRecursion (λ text. is_foreign text ≡ false) (mandatory o)
    → AllByRecursion (λ text. is_foreign text ≡ false) (asked_by o).mandatory
asked_own None own = (refl, tt)
asked_own (Some r) own =
    each-joined (λ text. is_foreign text ≡ false) r.mandatory (profile ∷ []) own (refl, tt)

asked_busy : (o : Option Requirements)
    → list_any (λ text. bytes_eq text profile) (asked_by o).mandatory ≡ true
asked_busy None = refl
asked_busy (Some r) =
    list_any-append (λ text. bytes_eq text profile) r.mandatory (profile ∷ [])
    ∙ or_right (list_any (λ text. bytes_eq text profile) r.mandatory) true refl

asked_right : (o : Option Requirements) → IfSome o IsRequirements → IsRequirements (asked_by o)
asked_right None is =
    record { lacks = (refl, tt); plain = record { whole = refl; flat = omega arith } }
asked_right (Some r) is = record { lacks = is.lacks; plain = is.plain }

module _ (w : Wish) (c : Config) where
  pub config-own : All (λ text. is_foreign text ≡ false) (mandatory c.requirements)
      → AllByRecursion (λ text. is_foreign text ≡ false) (mandatory (config_by w c).requirements)
  unfolding config_by
  config-own own =
      asked_own c.requirements
      (by-recursion (λ text. is_foreign text ≡ false) (mandatory c.requirements) own)

  pub config-busy : in_progress (config_by w c) ≡ true
  unfolding config_by in_progress
  config-busy = asked_busy c.requirements

  pub config-origin : All (λ text. is_foreign text ≡ false) (mandatory c.requirements)
      → origin_of (config_by w c) ≡ Own
  config-origin own =
      ap origin_by (own_texts (mandatory (config_by w c).requirements) (config-own own))

  pub config-right : HaveSizes w → IsConfig c → IsConfig (config_by w c)
  unfolding config_by
  config-right sizes is = record {
    json_size = (let header = sizes.header in omega (arith, header));
    keyslots_size = sizes.keyslots;
    requirements = asked_right c.requirements is.requirements;
    lacks = is.lacks;
    plain = is.plain;
  }
