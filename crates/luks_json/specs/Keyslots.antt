-- A keyslot as the members of an object.
use Rattle.std.specs.Prelude.{◌≡◌, ℕ, ◌==◌, List, [], ◌∷◌, codes, Bool, true, false}
use Rattle.std.specs.Prelude.{Option, Some, None, option_map, Result, Ok, if◌then◌else◌}
use Rattle.std.specs.Prelude.{decimal}
use Rattle.std.specs.Str.{bytes_eq}
use Rattle.base64.specs.GeneralPurpose.{encode_of}
use Rattle.base64.specs.Engines.{standard}
use Rattle.serde_json.specs.Data.{Data, string, number, unsigned, object, Members}
use Rattle.json_members.specs.declared.faults.JsonFault.{JsonFault}
use Rattle.json_members.specs.Fields.{◌>>=◌, under, text_in, word_in, number_in, counted_in}
use Rattle.json_members.specs.Fields.{decimal_in, bytes_in, object_in, optional}
use Rattle.json_members.specs.Forms.{HasText, HasNumber, HasDecimal, HasBytes, HasObject}
use Rattle.json_members.specs.Forms.{HasOptional}
use Rattle.json_members.specs.Members.{without_all, put_all, put_optional}
use Rattle.luks_meta.specs.declared.keyslot.SlotArea.{SlotArea}
use Rattle.luks_meta.specs.declared.keyslot.Pbkdf2.{Pbkdf2}
use Rattle.luks_meta.specs.declared.keyslot.Derivation.{Derivation}
use Rattle.luks_meta.specs.declared.keyslot.Derivation.TheVariants as derivations
use Rattle.luks_meta.specs.declared.keyslot.Kdf.{Kdf}
use Rattle.luks_meta.specs.declared.keyslot.Splitter.{Splitter}
use Rattle.luks_meta.specs.declared.keyslot.Priority.{Priority}
use Rattle.luks_meta.specs.declared.keyslot.Priority.TheVariants.{Ignore, Normal, High}
use Rattle.luks_meta.specs.declared.keyslot.Luks2.{Luks2}
use Rattle.luks_meta.specs.declared.keyslot.OtherArea.{OtherArea}
use Rattle.luks_meta.specs.declared.keyslot.OtherSlot.{OtherSlot}
use Rattle.luks_meta.specs.declared.keyslot.Keyslot.{Keyslot}
use Rattle.luks_meta.specs.declared.keyslot.Keyslot.TheVariants as keyslots
use Rattle.luks_meta.specs.declared.keyslot.Origin.{Origin}
use Rattle.luks_meta.specs.declared.keyslot.Origin.TheVariants.{Own}
use Rattle.luks_meta.specs.declared.keyslot.SlotType.{SlotType}
use Rattle.luks_meta.specs.declared.keyslot.SlotType.TheVariants as types
use Rattle.luks_meta.specs.Names.{is_iterations, iterations_of}
use Rattle.luks_json.specs.Reencrypts.{reencrypt_of, reencrypt_members, HasReencrypt}
use Rattle.luks_meta.specs.Keyslots.{slot_area_names, kdf_names, splitter_names, luks2_names}
use Rattle.luks_meta.specs.Keyslots.{other_area_names, other_names, slot_type, priority_number}

-- ---- from members to a keyslot
unfoldable pub slot_area_of : List ℕ → Members → Result SlotArea JsonFault
slot_area_of path ms = do
  _ ← word_in (codes "raw") path (codes "type") ms
  encryption ← text_in path (codes "encryption") ms
  key_size ← number_in path (codes "key_size") ms
  offset ← decimal_in path (codes "offset") ms
  size ← decimal_in path (codes "size") ms
  Ok (record {
    encryption = encryption;
    key_size = key_size;
    offset = offset;
    size = size;
    rest =
        without_all slot_area_names ms;
  })

unfoldable pub pbkdf2_in : List ℕ → Members → Result Pbkdf2 JsonFault
pbkdf2_in path ms = do
  hash ← text_in path (codes "hash") ms
  iterations ← counted_in iterations_of path (codes "iterations") ms
  salt ← bytes_in path (codes "salt") ms
  Ok (record { hash = hash; iterations = iterations; salt = salt })

abbrev pub derivation_by : Bool → List ℕ → List ℕ → Members → Result Derivation JsonFault
derivation_by true kind path ms = do
  k ← pbkdf2_in path ms
  Ok (derivations.Pbkdf2 k)
derivation_by false kind path ms = Ok (derivations.Unknown kind)

unfoldable pub kdf_of : List ℕ → Members → Result Kdf JsonFault
kdf_of path ms = do
  kind ← text_in path (codes "type") ms
  derivation ← derivation_by (bytes_eq kind (codes "pbkdf2")) kind path ms
  Ok (record { derivation = derivation; rest = without_all (kdf_names derivation) ms })

unfoldable pub splitter_of : List ℕ → Members → Result Splitter JsonFault
splitter_of path ms = do
  _ ← word_in (codes "luks1") path (codes "type") ms
  stripes ← number_in path (codes "stripes") ms
  hash ← text_in path (codes "hash") ms
  Ok (record { stripes = stripes; hash = hash; rest = without_all splitter_names ms })

abbrev pub priority_of : ℕ → Option Priority
priority_of n =
    if n == 0 then Some Ignore else
    (if n == 1 then Some Normal else (if n == 2 then Some High else None))

unfoldable pub luks2_of : List ℕ → Members → Result Luks2 JsonFault
luks2_of path ms = do
  key_size ← number_in path (codes "key_size") ms
  area_members ← object_in path (codes "area") ms
  area ← slot_area_of (under path (codes "area")) area_members
  kdf_members ← object_in path (codes "kdf") ms
  kdf ← kdf_of (under path (codes "kdf")) kdf_members
  af_members ← object_in path (codes "af") ms
  af ← splitter_of (under path (codes "af")) af_members
  priority ← optional (codes "priority") ms (counted_in priority_of path (codes "priority") ms)
  Ok (record {
    key_size = key_size;
    area = area;
    kdf = kdf;
    af = af;
    priority = priority;
    rest =
        without_all luks2_names ms;
  })

unfoldable pub other_area_of : List ℕ → Members → Result OtherArea JsonFault
other_area_of path ms = do
  offset ← decimal_in path (codes "offset") ms
  size ← decimal_in path (codes "size") ms
  Ok (record { offset = offset; size = size; rest = without_all other_area_names ms })

unfoldable pub other_area_in : List ℕ → Members → Result OtherArea JsonFault
other_area_in path ms = do
  area_members ← object_in path (codes "area") ms
  other_area_of (under path (codes "area")) area_members

unfoldable pub other_of : List ℕ → List ℕ → Members → Result OtherSlot JsonFault
other_of kind path ms = do
  area ← optional (codes "area") ms (other_area_in path ms)
  Ok (record { kind = kind; area = area; rest = without_all other_names ms })

abbrev pub keyslot_by : SlotType → List ℕ → List ℕ → Members → Result Keyslot JsonFault
keyslot_by types.Luks2 kind path ms = do
  s ← luks2_of path ms
  Ok (keyslots.Luks2 s)
keyslot_by types.Reencrypt kind path ms = do
  s ← reencrypt_of path ms
  Ok (keyslots.Reencrypt s)
keyslot_by types.Unknown kind path ms = do
  s ← other_of kind path ms
  Ok (keyslots.Unknown s)

-- the keyslot that an object is, or its first fault
unfoldable pub keyslot_of : Origin → List ℕ → Members → Result Keyslot JsonFault
keyslot_of origin path ms = do
  kind ← text_in path (codes "type") ms
  keyslot_by (slot_type origin kind) kind path ms

-- ---- and back
abbrev pub slot_area_fields : SlotArea → List (List ℕ × Data)
slot_area_fields a =
    (codes "type", string (codes "raw")) ∷ (codes "encryption", string a.encryption)
    ∷ (codes "key_size", number (unsigned a.key_size))
    ∷ (codes "offset", string (decimal a.offset)) ∷ (codes "size", string (decimal a.size)) ∷ []

unfoldable pub slot_area_members : SlotArea → Members
slot_area_members a = put_all (slot_area_fields a) a.rest

abbrev pub kdf_fields : Derivation → List (List ℕ × Data)
kdf_fields (derivations.Pbkdf2 k) =
    (codes "type", string (codes "pbkdf2")) ∷ (codes "hash", string k.hash)
    ∷ (codes "iterations", number (unsigned k.iterations))
    ∷ (codes "salt", string (encode_of standard k.salt)) ∷ []
kdf_fields (derivations.Unknown kind) = (codes "type", string kind) ∷ []

unfoldable pub kdf_members : Kdf → Members
kdf_members k = put_all (kdf_fields k.derivation) k.rest

abbrev pub splitter_fields : Splitter → List (List ℕ × Data)
splitter_fields s =
    (codes "type", string (codes "luks1")) ∷ (codes "stripes", number (unsigned s.stripes))
    ∷ (codes "hash", string s.hash) ∷ []

unfoldable pub splitter_members : Splitter → Members
splitter_members s = put_all (splitter_fields s) s.rest

abbrev pub luks2_fields : Luks2 → List (List ℕ × Data)
luks2_fields s =
    (codes "type", string (codes "luks2")) ∷ (codes "key_size", number (unsigned s.key_size))
    ∷ (codes "area", object (slot_area_members s.area))
    ∷ (codes "kdf", object (kdf_members s.kdf)) ∷ (codes "af", object (splitter_members s.af)) ∷ []

unfoldable pub luks2_members : Luks2 → Members
luks2_members s =
    put_all (luks2_fields s)
    (put_optional (codes "priority")
    (option_map (λ p. number (unsigned (priority_number p))) s.priority) s.rest)

abbrev pub other_area_fields : OtherArea → List (List ℕ × Data)
other_area_fields a =
    (codes "offset", string (decimal a.offset)) ∷ (codes "size", string (decimal a.size)) ∷ []

unfoldable pub other_area_members : OtherArea → Members
other_area_members a = put_all (other_area_fields a) a.rest

abbrev pub other_fields : OtherSlot → List (List ℕ × Data)
other_fields s = (codes "type", string s.kind) ∷ []

unfoldable pub other_members : OtherSlot → Members
other_members s =
    put_all (other_fields s)
    (put_optional (codes "area") (option_map (λ a. object (other_area_members a)) s.area) s.rest)

-- the members of a keyslot
unfoldable pub keyslot_members : Keyslot → Members
keyslot_members (keyslots.Luks2 s) = luks2_members s
keyslot_members (keyslots.Reencrypt s) = reencrypt_members s
keyslot_members (keyslots.Unknown s) = other_members s

-- ---- which members, of which form
pub record HasSlotArea (ms : Members) (a : SlotArea) : Type 0 where
  pub kind : HasText (codes "type") (codes "raw") ms
  pub encryption : HasText (codes "encryption") a.encryption ms
  pub key_size : HasNumber (codes "key_size") a.key_size ms
  pub offset : HasDecimal (codes "offset") a.offset ms
  pub size : HasDecimal (codes "size") a.size ms
  pub rest : a.rest ≡ without_all slot_area_names ms

pub record HasPbkdf2 (ms : Members) (k : Pbkdf2) : Type 0 where
  pub kind : HasText (codes "type") (codes "pbkdf2") ms
  pub hash : HasText (codes "hash") k.hash ms
  pub iterations : HasNumber (codes "iterations") k.iterations ms
  pub within : is_iterations k.iterations ≡ true
  pub salt : HasBytes (codes "salt") k.salt ms

pub record HasOtherKdf (ms : Members) (kind : List ℕ) : Type 0 where
  pub has_kind : HasText (codes "type") kind ms
  pub other : bytes_eq kind (codes "pbkdf2") ≡ false

abbrev pub HasDerivation : Members → Derivation → Type 0
HasDerivation ms (derivations.Pbkdf2 k) = HasPbkdf2 ms k
HasDerivation ms (derivations.Unknown kind) = HasOtherKdf ms kind

pub record HasKdf (ms : Members) (k : Kdf) : Type 0 where
  pub derivation : HasDerivation ms k.derivation
  pub rest : k.rest ≡ without_all (kdf_names k.derivation) ms

pub record HasSplitter (ms : Members) (s : Splitter) : Type 0 where
  pub kind : HasText (codes "type") (codes "luks1") ms
  pub stripes : HasNumber (codes "stripes") s.stripes ms
  pub hash : HasText (codes "hash") s.hash ms
  pub rest : s.rest ≡ without_all splitter_names ms

pub record HasLuks2 (ms : Members) (s : Luks2) : Type 0 where
  pub key_size : HasNumber (codes "key_size") s.key_size ms
  pub area : (inner : Members) × HasObject (codes "area") inner ms × HasSlotArea inner s.area
  pub kdf : (inner : Members) × HasObject (codes "kdf") inner ms × HasKdf inner s.kdf
  pub af : (inner : Members) × HasObject (codes "af") inner ms × HasSplitter inner s.af
  pub priority : HasOptional (codes "priority")
      (λ p. HasNumber (codes "priority") (priority_number p) ms) s.priority ms
  pub rest : s.rest ≡ without_all luks2_names ms

pub record HasOtherArea (ms : Members) (a : OtherArea) : Type 0 where
  pub offset : HasDecimal (codes "offset") a.offset ms
  pub size : HasDecimal (codes "size") a.size ms
  pub rest : a.rest ≡ without_all other_area_names ms

pub record HasOther (ms : Members) (s : OtherSlot) : Type 0 where
  pub area : HasOptional (codes "area")
      (λ a. (inner : Members) × HasObject (codes "area") inner ms × HasOtherArea inner a) s.area ms
  pub rest : s.rest ≡ without_all other_names ms

abbrev pub HasKeyslot : Origin → Members → Keyslot → Type 0
HasKeyslot origin ms (keyslots.Luks2 s) = HasText (codes "type") (codes "luks2") ms × HasLuks2 ms s
HasKeyslot origin ms (keyslots.Reencrypt s) =
    HasText (codes "type") (codes "reencrypt") ms × (origin ≡ Own) × HasReencrypt ms s
HasKeyslot origin ms (keyslots.Unknown s) =
    HasText (codes "type") s.kind ms × (slot_type origin s.kind ≡ types.Unknown) × HasOther ms s
