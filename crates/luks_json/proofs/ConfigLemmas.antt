-- The sizes and requirements, and their members.
use Rattle.std.proofs.Common.{◌≡◌, ℕ, ◌^◌, ◌-◌, ◌<◌, ◌==◌, ◌||◌, List, [], ◌∷◌}
use Rattle.std.proofs.Common.{codes, decimal, Option, Some, None, option_map}
use Rattle.std.proofs.Common.{option_and_then, IfSome, Ok, refl, sym, ap, subst, ◌∙◌}
use Rattle.std.proofs.lemmas.Bool.{eqb-true, eq-eqb}
use Rattle.serde_json.specs.Data.{Data, string, object, Items, Members}
use Rattle.serde_json.specs.Find.{get, get_member, as_array}
use Rattle.json_members.specs.declared.faults.JsonFaultKind.TheVariants.{Number}
use Rattle.json_members.specs.Decimals.{number_of}
use Rattle.json_members.specs.Fields.{under, meant_in, decimal_in, texts_in, object_in}
use Rattle.json_members.specs.Fields.{optional, texts_data}
use Rattle.json_members.specs.Forms.{HasObject, HasOptional}
use Rattle.json_members.specs.Members.{put_optional, Lacks, IsPlain}
use Rattle.json_members.proofs.DataLemmas.{text_plain, texts_plain, object_plain}
use Rattle.json_members.proofs.DataLemmas.{object_member-plain, optional_plain}
use Rattle.json_members.proofs.DecimalLemmas.{number_of-decimal, number_of-exact, chosen_from}
use Rattle.json_members.proofs.FieldLemmas.{decimal_in-decimal, decimal_got, meant_in-text}
use Rattle.json_members.proofs.FieldLemmas.{meant_got, texts_in-texts, texts_got, object_in-object}
use Rattle.json_members.proofs.FieldLemmas.{object_got, optional_got, has_optional}
use Rattle.json_members.proofs.PlainLemmas.{put_all-plain, without_all-plain, Lacks-without_all}
use Rattle.json_members.proofs.PutLemmas.{get_member-put_all, get_member-put_optional}
use Rattle.json_members.proofs.PutLemmas.{without_all-put_all, without_all-put_all_among}
use Rattle.json_members.proofs.PutLemmas.{without_all-put_optional, without_all-gone}
use Rattle.json_members.proofs.ReadLemmas.{Right, then, right_at, each_right}
use Rattle.luks_meta.specs.declared.config.Config.{Config}
use Rattle.luks_meta.specs.declared.config.Requirements.{Requirements}
use Rattle.luks_meta.specs.Configs.{requirements_names}
use Rattle.luks_json.specs.Configs.{requirements_of, requirements_in, only_size}
use Rattle.luks_json.specs.Configs.{json_size_named, config_of, requirements_fields}
use Rattle.luks_meta.specs.Configs.{config_names}
use Rattle.luks_json.specs.Configs.{requirements_members, config_fields, config_members}
use Rattle.luks_json.specs.Configs.{HasRequirements, HasConfig}
use Rattle.luks_meta.specs.Configs.{IsRequirements, IsConfig}
use Rattle.luks_meta.specs.Configs.{is_foreign, any_foreign, origin_by, mandatory, origin_of}
use Rattle.luks_json.specs.Configs.{any_foreign_item, any_foreign_in, mandatory_in, origin_in}

-- ---- the requirements
requirements_read : (path : List ℕ) (ms : Members)
    → Right (HasRequirements ms) (requirements_of path ms)
unfolding requirements_of
requirements_read path ms =
    then (texts_in path (codes "mandatory") ms) _ _
    (λ texts a. record { mandatory = texts_got path (codes "mandatory") ms texts a; rest = refl })

requirements_made : (path : List ℕ) (ms : Members) (r : Requirements) → HasRequirements ms r
    → requirements_of path ms ≡ Ok r
unfolding requirements_of
requirements_made path ms r h =
    rw (texts_in-texts path (codes "mandatory") ms r.mandatory h.mandatory)
    (ap (λ (x : Members). Ok (record { mandatory = r.mandatory; rest = x })) (sym h.rest))

requirements_written : (r : Requirements) → IsRequirements r
    → HasRequirements (requirements_members r) r
unfolding requirements_members
requirements_written r is = record {
  mandatory = get_member-put_all (codes "mandatory") (requirements_fields r) r.rest;
  rest = sym (without_all-put_all requirements_names (requirements_fields r) r.rest refl is.lacks);
}

requirements_right : (ms : Members) (r : Requirements) → IsPlain 124 ms → HasRequirements ms r
    → IsRequirements r
requirements_right ms r plain h = record {
  lacks = subst (Lacks requirements_names) (sym h.rest) (Lacks-without_all requirements_names ms);
  plain = subst (IsPlain 124) (sym h.rest) (without_all-plain requirements_names ms plain);
}

requirements_plain : (r : Requirements) → IsRequirements r → IsPlain 124 (requirements_members r)
unfolding requirements_members
requirements_plain r is =
    put_all-plain (requirements_fields r) r.rest (texts_plain r.mandatory, tt) is.plain

abbrev RequirementsForm : Members → Requirements → Type 0
RequirementsForm ms r =
    (inner : Members) × HasObject (codes "requirements") inner ms × HasRequirements inner r

abbrev requirements_shape : Requirements → Data
requirements_shape r = object (requirements_members r)

requirements_got : (path : List ℕ) (ms : Members) (r : Requirements)
    → requirements_in path ms ≡ Ok r → RequirementsForm ms r
unfolding requirements_in
requirements_got path ms r e = right_at (requirements_in path ms) r (RequirementsForm ms) e (
    then (object_in path (codes "requirements") ms) _ _ (λ inner b.
    each_right (requirements_of (under path (codes "requirements")) inner) (RequirementsForm ms)
    (λ x c. (
      inner,
      object_got path (codes "requirements") ms inner b,
      right_at _ x (HasRequirements inner) c
          (requirements_read (under path (codes "requirements")) inner),
    ))))

requirements_in-made : (path : List ℕ) (ms : Members) (r : Requirements) → RequirementsForm ms r
    → requirements_in path ms ≡ Ok r
unfolding requirements_in
requirements_in-made path ms r h =
    rw (object_in-object path (codes "requirements") ms h.0 h.1)
    (requirements_made (under path (codes "requirements")) h.0 r h.2)

optional_made : (path : List ℕ) (ms : Members) (o : Option Requirements)
    → HasOptional (codes "requirements") (RequirementsForm ms) o ms
    → optional (codes "requirements") ms (requirements_in path ms) ≡ Ok o
optional_made path ms None h = rw h refl
optional_made path ms (Some r) h = rw (h.1, requirements_in-made path ms r h) refl

-- ---- the size of the JSON area
json_size-exact_at : (hdr_size : ℕ) (text : List ℕ) (o : Option ℕ) (n : ℕ) → number_of text ≡ o
    → option_and_then (only_size hdr_size) o ≡ Some n
    → (text ≡ decimal n) × (n < 2 ^ 64) × (n ≡ hdr_size - 4096)
json_size-exact_at hdr_size text None n is h = cc
json_size-exact_at hdr_size text (Some m) n is h =
    let kept = chosen_from (m == hdr_size - 4096) m n h in
    let exact = number_of-exact text m is in (
      exact.1 ∙ ap decimal kept.1,
      subst (λ (k : ℕ). k < 2 ^ 64) kept.1 exact.0,
      sym kept.1 ∙ eqb-true m (hdr_size - 4096) kept.0,
    )

json_size_named-decimal : (hdr_size n : ℕ) → n < 2 ^ 64 → n ≡ hdr_size - 4096
    → json_size_named hdr_size (decimal n) ≡ Some n
json_size_named-decimal hdr_size n small is =
    rw (number_of-decimal n small, eq-eqb n (hdr_size - 4096) is) refl

-- ---- the config
pub config_read : (hdr_size : ℕ) (path : List ℕ) (ms : Members)
    → Right (HasConfig hdr_size ms) (config_of hdr_size path ms)
unfolding config_of
config_read hdr_size path ms =
    then (meant_in Number (json_size_named hdr_size) path (codes "json_size") ms) _ _
    (λ json_size a.
    then (decimal_in path (codes "keyslots_size") ms) _ _ (λ keyslots_size b.
    then (optional (codes "requirements") ms (requirements_in path ms)) _ _ (λ requirements c.
    let got = meant_got Number (json_size_named hdr_size) path (codes "json_size") ms json_size a in
    let exact = json_size-exact_at hdr_size got.0 (number_of got.0) json_size refl got.2 in
    record {
      json_size = (got.1 ∙ ap (λ s. Some (string s)) exact.0, exact.1);
      fits = exact.2;
      keyslots_size = decimal_got path (codes "keyslots_size") ms keyslots_size b;
      requirements =
          optional_got (codes "requirements") ms (requirements_in path ms) (RequirementsForm ms)
          requirements (λ x e. requirements_got path ms x e) c;
      rest = refl;
    })))

pub config_made : (hdr_size : ℕ) (path : List ℕ) (ms : Members) (c : Config)
    → HasConfig hdr_size ms c → config_of hdr_size path ms ≡ Ok c
unfolding config_of
config_made hdr_size path ms c h =
    rw (
      meant_in-text Number (json_size_named hdr_size) path (codes "json_size") ms
          (decimal c.json_size) c.json_size h.json_size.0
          (json_size_named-decimal hdr_size c.json_size h.json_size.1 h.fits),
      decimal_in-decimal path (codes "keyslots_size") ms c.keyslots_size h.keyslots_size.0
          h.keyslots_size.1,
      optional_made path ms c.requirements h.requirements,
    )
    (ap (λ (x : Members). Ok
    (record {
      json_size = c.json_size;
      keyslots_size = c.keyslots_size;
      requirements =
          c.requirements;
      rest = x;
    })) (sym h.rest))

there : (o : Option Requirements) (r : Requirements) → IfSome o IsRequirements → o ≡ Some r
    → IsRequirements r
there o r is e = subst (λ x. IfSome x IsRequirements) e is

-- what stands at the requirements
requirements_at : (c : Config) → IsConfig c
    → get_member (codes "requirements") (config_members c)
    ≡ option_map requirements_shape c.requirements
unfolding config_members
requirements_at c is =
    get_member-put_all (codes "requirements") (config_fields c)
    (put_optional (codes "requirements") (option_map requirements_shape c.requirements) c.rest)
    ∙ get_member-put_optional (codes "requirements") (option_map requirements_shape c.requirements)
    c.rest is.lacks.1.1.0

pub config_written : (hdr_size : ℕ) (c : Config) → IsConfig c → c.json_size ≡ hdr_size - 4096
    → HasConfig hdr_size (config_members c) c
unfolding config_members
config_written hdr_size c is fits =
    let base =
    put_optional (codes "requirements") (option_map requirements_shape c.requirements) c.rest in
    let at = λ (name : List ℕ). get_member-put_all name (config_fields c) base in
    record {
      json_size = (at (codes "json_size"), is.json_size);
      fits = fits;
      keyslots_size = (at (codes "keyslots_size"), is.keyslots_size);
      requirements =
          has_optional (codes "requirements") (config_members c) requirements_shape
          (RequirementsForm (config_members c)) c.requirements (requirements_at c is)
          (λ r e h. (
            requirements_members r,
            h,
            requirements_written r (there c.requirements r is.requirements e),
          ));
      rest = sym
          (without_all-put_all_among config_names (config_fields c) base refl
          ∙ without_all-put_optional config_names (codes "requirements")
          (option_map requirements_shape c.requirements) c.rest refl
          ∙ without_all-gone config_names c.rest is.lacks);
    }

optional_right : (ms : Members) (o : Option Requirements) → IsPlain 125 ms
    → HasOptional (codes "requirements") (RequirementsForm ms) o ms → IfSome o IsRequirements
optional_right ms None plain h = tt
optional_right ms (Some r) plain h =
    requirements_right h.0 r (object_member-plain (codes "requirements") ms h.0 plain h.1) h.2

pub config_right : (hdr_size : ℕ) (ms : Members) (c : Config) → IsPlain 125 ms
    → HasConfig hdr_size ms c → IsConfig c
config_right hdr_size ms c plain h = record {
  json_size = h.json_size.1;
  keyslots_size = h.keyslots_size.1;
  requirements = optional_right ms c.requirements plain h.requirements;
  lacks = subst (Lacks config_names) (sym h.rest) (Lacks-without_all config_names ms);
  plain = subst (IsPlain 125) (sym h.rest) (without_all-plain config_names ms plain);
}

pub config_plain : (c : Config) → IsConfig c → IsPlain 125 (config_members c)
unfolding config_members
config_plain c is =
    put_all-plain (config_fields c) _ (text_plain _, (text_plain _, tt))
    (optional_plain (codes "requirements") requirements_shape c.requirements c.rest
    (λ r e. object_plain _ (requirements_plain r (there c.requirements r is.requirements e)))
    is.plain)

-- ---- whose header it is
foreign_items : (texts : List (List ℕ)) → any_foreign_item (texts_data texts) ≡ any_foreign texts
foreign_items [] = refl
foreign_items (text ∷ texts) = ap (λ b. is_foreign text || b) (foreign_items texts)

-- what the requirements among the top members are, from what is read of them
abbrev mandatory_of : Option Data → Option Items
mandatory_of o = option_and_then as_array (option_and_then (get (codes "mandatory")) o)

foreign_by : (ms : Members) (o : Option Requirements)
    → HasOptional (codes "requirements") (RequirementsForm ms) o ms
    → any_foreign_in (mandatory_of (get_member (codes "requirements") ms))
    ≡ any_foreign (mandatory o)
foreign_by ms None h = rw h refl
foreign_by ms (Some r) h = rw (h.1, h.2.mandatory) (foreign_items r.mandatory)

pub origin_in-config : (hdr_size : ℕ) (ms inner : Members) (c : Config)
    → get_member (codes "config") ms ≡ Some (object inner) → HasConfig hdr_size inner c
    → origin_in ms ≡ origin_of c
unfolding origin_in mandatory_in
origin_in-config hdr_size ms inner c at h =
    rw at (ap origin_by (foreign_by inner c.requirements h.requirements))
