-- Metadata as a JSON text.
use Rattle.std.specs.Prelude.{ℕ, List, [], ◌∷◌, codes, Option, Some, None, Result, Ok, Err}
use Rattle.std.specs.Prelude.{if◌then◌else◌}
use Rattle.std.specs.Str.{is_utf8}
use Rattle.serde_json.specs.Data.{Data, object, Members}
use Rattle.serde_json.specs.Find.{get_member, as_object}
use Rattle.serde_json.specs.Read.{read}
use Rattle.json_members.specs.declared.faults.JsonFault.{JsonFault}
use Rattle.json_members.specs.declared.faults.JsonFaultKind.{JsonFaultKind}
use Rattle.json_members.specs.declared.faults.JsonFaultKind.TheVariants.{NotJson, Missing, Kind}
use Rattle.json_members.specs.declared.faults.JsonFaultKind.TheVariants.{Number}
use Rattle.json_members.specs.Fields.{◌>>=◌, required, object_in}
use Rattle.json_members.specs.Floats.{float_in}
use Rattle.json_members.specs.Members.{without_all, put_all}
use Rattle.json_members.specs.Entries.{objects_in, objects_members}
use Rattle.luks_meta.specs.declared.config.Config.{Config}
use Rattle.luks_meta.specs.declared.meta.Parts.{Parts}
use Rattle.luks_json.specs.Configs.{config_of, config_members}
use Rattle.luks_json.specs.Configs.{origin_in}
use Rattle.luks_json.specs.Digests.{digest_of, digest_members}
use Rattle.luks_json.specs.Keyslots.{keyslot_of, keyslot_members}
use Rattle.luks_json.specs.Segments.{segment_of, segment_members}
use Rattle.luks_json.specs.Tokens.{token_of, token_members}
use Rattle.luks_meta.specs.Metas.{meta_names}

-- the path of the whole
abbrev pub top : List ℕ
top = []

abbrev pub text_fault : JsonFaultKind → JsonFault
text_fault what = record { kind = what; path = top }

-- ---- from a text to metadata
-- this top member is there
unfoldable pub there_in : List ℕ → Members → Result (Unit {0}) JsonFault
there_in name ms = do
  _ ← required Missing top name (get_member name ms)
  Ok (tt {0})

-- all of these are there; else the first that isn't is missing
abbrev pub all_there : List (List ℕ) → Members → Result (Unit {0}) JsonFault
all_there [] ms = Ok (tt {0})
all_there (name ∷ names) ms = do
  _ ← there_in name ms
  all_there names ms

-- the objects by rising number of a top member
unfoldable pub list_in : {X : Type 0} → (List ℕ → Members → Result X JsonFault) → List ℕ → Members
    → Result (List (ℕ × X)) JsonFault
list_in of name ms = do
  inner ← object_in top name ms
  objects_in of name inner

unfoldable pub config_in : ℕ → Members → Result Config JsonFault
config_in hdr_size ms = do
  inner ← object_in top (codes "config") ms
  config_of hdr_size (codes "config") inner

-- the metadata that the top members are, or their first fault
unfoldable pub parts_of : ℕ → Members → Result Parts JsonFault
parts_of hdr_size ms = do
  _ ← all_there meta_names ms
  keyslots ← list_in (keyslot_of (origin_in ms)) (codes "keyslots") ms
  tokens ← list_in token_of (codes "tokens") ms
  segments ← list_in segment_of (codes "segments") ms
  digests ← list_in digest_of (codes "digests") ms
  config ← config_in hdr_size ms
  Ok (record {
    keyslots = keyslots;
    tokens = tokens;
    segments = segments;
    digests = digests;
    config =
        config;
    rest = without_all meta_names ms;
  })

-- the metadata that a value is; the whole is an object
abbrev pub whole_of : ℕ → Data → Result Parts JsonFault
whole_of hdr_size d = do
  ms ← required Kind top top (as_object d)
  parts_of hdr_size ms

-- no number that isn't whole within 64 bits, by the path of the first
abbrev pub whole_if : Option (List ℕ) → Result (Unit {0}) JsonFault
whole_if None = Ok (tt {0})
whole_if (Some path) = Err (record { kind = Number; path = path })

-- the metadata that a value is, or its first fault
unfoldable pub meta_of : ℕ → Data → Result Parts JsonFault
meta_of hdr_size d = do
  _ ← whole_if (float_in top d)
  whole_of hdr_size d

abbrev pub read_as : ℕ → Option Data → Result Parts JsonFault
read_as hdr_size None = Err (text_fault NotJson)
read_as hdr_size (Some d) = meta_of hdr_size d

-- the metadata that a text is in a copy of so many bytes, or its first fault
unfoldable pub meta_from : ℕ → List ℕ → Result Parts JsonFault
meta_from hdr_size text =
    if is_utf8 text then read_as hdr_size (read text) else Err (text_fault NotJson)

-- ---- and back
abbrev pub meta_fields : Parts → List (List ℕ × Data)
meta_fields m =
    (codes "keyslots", object (objects_members keyslot_members m.keyslots))
    ∷ (codes "tokens", object (objects_members token_members m.tokens))
    ∷ (codes "segments", object (objects_members segment_members m.segments))
    ∷ (codes "digests", object (objects_members digest_members m.digests))
    ∷ (codes "config", object (config_members m.config)) ∷ []

unfoldable pub meta_members : Parts → Members
meta_members m = put_all (meta_fields m) m.rest

-- the value that metadata are written as
unfoldable pub data_of : Parts → Data
data_of m = object (meta_members m)
