-- The keyslot of a conversion as the members of an object.
use Rattle.std.specs.Prelude.{◌≡◌, ℕ, ◌==◌, List, [], ◌∷◌, codes, Option, Some, None}
use Rattle.std.specs.Prelude.{Result, Ok, if◌then◌else◌, decimal}
use Rattle.std.specs.Str.{bytes_eq}
use Rattle.serde_json.specs.Data.{Data, string, number, unsigned, object, Members}
use Rattle.json_members.specs.declared.faults.JsonFault.{JsonFault}
use Rattle.json_members.specs.declared.faults.JsonFaultKind.TheVariants.{Unsupported}
use Rattle.json_members.specs.Fields.{◌>>=◌, under, meant_in, word_in, number_in, counted_in}
use Rattle.json_members.specs.Fields.{decimal_in, object_in}
use Rattle.json_members.specs.Forms.{HasText, HasNumber, HasDecimal, HasObject}
use Rattle.json_members.specs.Members.{without_all, put_all}
use Rattle.luks_meta.specs.declared.reencrypt.Resilience.{Resilience}
use Rattle.luks_meta.specs.declared.reencrypt.Resilience.TheVariants.{Journal, Checksum, Datashift}
use Rattle.luks_json.specs.declared.reencrypt.AreaType.{AreaType}
use Rattle.luks_json.specs.declared.reencrypt.AreaType.TheVariants as types
use Rattle.luks_meta.specs.declared.reencrypt.ReencryptArea.{ReencryptArea}
use Rattle.luks_meta.specs.declared.reencrypt.Reencrypt.{Reencrypt}
use Rattle.luks_meta.specs.Reencrypts.{mode_name, mode_named, direction_name, direction_named}
use Rattle.luks_meta.specs.Reencrypts.{area_type_name, area_names, reencrypt_names}

abbrev pub area_type_named : List ℕ → Option AreaType
area_type_named name =
    if bytes_eq name (codes "journal") then Some types.Journal else
    (if bytes_eq name (codes "checksum") then Some types.Checksum else
    (if bytes_eq name (codes "datashift") then Some types.Datashift else None))

-- ---- from members to a keyslot
unfoldable pub checksum_in : List ℕ → Members → Result ℕ JsonFault
checksum_in path ms = do
  _ ← word_in (codes "sha256") path (codes "hash") ms
  number_in path (codes "sector_size") ms

abbrev pub resilience_by : AreaType → List ℕ → Members → Result Resilience JsonFault
resilience_by types.Journal path ms = Ok Journal
resilience_by types.Checksum path ms = do
  sector_size ← checksum_in path ms
  Ok (Checksum sector_size)
resilience_by types.Datashift path ms = do
  shift_size ← decimal_in path (codes "shift_size") ms
  Ok (Datashift shift_size)

unfoldable pub area_of : List ℕ → Members → Result ReencryptArea JsonFault
area_of path ms = do
  kind ← meant_in Unsupported area_type_named path (codes "type") ms
  offset ← decimal_in path (codes "offset") ms
  size ← decimal_in path (codes "size") ms
  resilience ← resilience_by kind path ms
  Ok (record {
    resilience = resilience;
    offset = offset;
    size = size;
    rest =
        without_all (area_names resilience) ms;
  })

-- the key_size that the keyslot of a conversion has
abbrev pub only_one : ℕ → Option (Unit {0})
only_one n = if n == 1 then Some (tt {0}) else None

-- the keyslot that an object of the type reencrypt is, or its first fault
unfoldable pub reencrypt_of : List ℕ → Members → Result Reencrypt JsonFault
reencrypt_of path ms = do
  _ ← counted_in only_one path (codes "key_size") ms
  mode ← meant_in Unsupported mode_named path (codes "mode") ms
  direction ← meant_in Unsupported direction_named path (codes "direction") ms
  area_members ← object_in path (codes "area") ms
  area ← area_of (under path (codes "area")) area_members
  Ok (record
      { mode = mode; direction = direction; area = area; rest = without_all reencrypt_names ms })

-- ---- and back
-- the members that each area has
abbrev pub placed_fields : List ℕ → ℕ → ℕ → List (List ℕ × Data)
placed_fields kind offset size =
    (codes "type", string kind) ∷ (codes "offset", string (decimal offset))
    ∷ (codes "size", string (decimal size)) ∷ []

abbrev pub area_fields : Resilience → ℕ → ℕ → List (List ℕ × Data)
area_fields Journal offset size =
    (codes "type", string (codes "journal")) ∷ (codes "offset", string (decimal offset))
    ∷ (codes "size", string (decimal size)) ∷ []
area_fields (Checksum n) offset size =
    (codes "type", string (codes "checksum")) ∷ (codes "offset", string (decimal offset))
    ∷ (codes "size", string (decimal size))
    ∷ (codes "hash", string (codes "sha256")) ∷ (codes "sector_size", number (unsigned n)) ∷ []
area_fields (Datashift n) offset size =
    (codes "type", string (codes "datashift")) ∷ (codes "offset", string (decimal offset))
    ∷ (codes "size", string (decimal size)) ∷ (codes "shift_size", string (decimal n)) ∷ []

unfoldable pub area_members : ReencryptArea → Members
area_members a = put_all (area_fields a.resilience a.offset a.size) a.rest

abbrev pub reencrypt_fields : Reencrypt → List (List ℕ × Data)
reencrypt_fields s =
    (codes "type", string (codes "reencrypt")) ∷ (codes "key_size", number (unsigned 1))
    ∷ (codes "mode", string (mode_name s.mode))
    ∷ (codes "direction", string (direction_name s.direction))
    ∷ (codes "area", object (area_members s.area)) ∷ []

unfoldable pub reencrypt_members : Reencrypt → Members
reencrypt_members s = put_all (reencrypt_fields s) s.rest

-- ---- which members, of which form
abbrev pub HasResilience : Members → Resilience → Type 0
HasResilience ms Journal = Unit {0}
HasResilience ms (Checksum n) =
    HasText (codes "hash") (codes "sha256") ms × HasNumber (codes "sector_size") n ms
HasResilience ms (Datashift n) = HasDecimal (codes "shift_size") n ms

pub record HasArea (ms : Members) (a : ReencryptArea) : Type 0 where
  pub kind : HasText (codes "type") (area_type_name a.resilience) ms
  pub offset : HasDecimal (codes "offset") a.offset ms
  pub size : HasDecimal (codes "size") a.size ms
  pub resilience : HasResilience ms a.resilience
  pub rest : a.rest ≡ without_all (area_names a.resilience) ms

pub record HasReencrypt (ms : Members) (s : Reencrypt) : Type 0 where
  pub key_size : HasNumber (codes "key_size") 1 ms
  pub mode : HasText (codes "mode") (mode_name s.mode) ms
  pub direction : HasText (codes "direction") (direction_name s.direction) ms
  pub area : (inner : Members) × HasObject (codes "area") inner ms × HasArea inner s.area
  pub rest : s.rest ≡ without_all reencrypt_names ms
