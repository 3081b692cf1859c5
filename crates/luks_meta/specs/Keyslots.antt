-- Keyslots that have a text, and by which table one is read.
use Rattle.std.specs.Prelude.{◌≡◌, ℕ, ◌^◌, ◌<◌, ◌&&◌, List, [], ◌∷◌, codes, Bool, true, false}
use Rattle.std.specs.Prelude.{if◌then◌else◌, IfSome}
use Rattle.std.specs.Str.{bytes_eq}
use Rattle.base64.specs.GeneralPurpose.{IsBytes}
use Rattle.json_members.specs.Members.{Lacks, IsPlain}
use Rattle.luks_meta.specs.declared.keyslot.SlotArea.{SlotArea}
use Rattle.luks_meta.specs.declared.keyslot.Pbkdf2.{Pbkdf2}
use Rattle.luks_meta.specs.declared.keyslot.Derivation.{Derivation}
use Rattle.luks_meta.specs.declared.keyslot.Derivation.TheVariants as derivations
use Rattle.luks_meta.specs.declared.keyslot.Kdf.{Kdf}
use Rattle.luks_meta.specs.declared.keyslot.Splitter.{Splitter}
use Rattle.luks_meta.specs.declared.keyslot.Priority.{Priority}
use Rattle.luks_meta.specs.declared.keyslot.Priority.TheVariants.{Ignore, Normal, High}
use Rattle.luks_meta.specs.declared.keyslot.Luks2.{Luks2}
use Rattle.luks_meta.specs.declared.keyslot.OtherArea.{OtherArea}
use Rattle.luks_meta.specs.declared.keyslot.OtherSlot.{OtherSlot}
use Rattle.luks_meta.specs.declared.keyslot.Keyslot.{Keyslot}
use Rattle.luks_meta.specs.declared.keyslot.Keyslot.TheVariants as keyslots
use Rattle.luks_meta.specs.declared.keyslot.Origin.{Origin}
use Rattle.luks_meta.specs.declared.keyslot.Origin.TheVariants.{Own, Foreign}
use Rattle.luks_meta.specs.declared.keyslot.SlotType.{SlotType}
use Rattle.luks_meta.specs.declared.keyslot.SlotType.TheVariants as types
use Rattle.luks_meta.specs.Names.{is_iterations}
use Rattle.luks_meta.specs.Reencrypts.{IsReencrypt}

-- ---- the names of the members
abbrev pub slot_area_names : List (List ℕ)
slot_area_names =
    codes "type" ∷ codes "encryption" ∷ codes "key_size" ∷ codes "offset" ∷ codes "size" ∷ []

abbrev pub kdf_names : Derivation → List (List ℕ)
kdf_names (derivations.Pbkdf2 k) =
    codes "type" ∷ codes "hash" ∷ codes "iterations" ∷ codes "salt" ∷ []
kdf_names (derivations.Unknown kind) = codes "type" ∷ []

abbrev pub splitter_names : List (List ℕ)
splitter_names = codes "type" ∷ codes "stripes" ∷ codes "hash" ∷ []

abbrev pub luks2_names : List (List ℕ)
luks2_names =
    codes "type" ∷ codes "key_size" ∷ codes "area" ∷ codes "kdf" ∷ codes "af" ∷ codes "priority"
    ∷ []

abbrev pub other_area_names : List (List ℕ)
other_area_names = codes "offset" ∷ codes "size" ∷ []

abbrev pub other_names : List (List ℕ)
other_names = codes "type" ∷ codes "area" ∷ []

-- ---- by which table
abbrev pub is_own : Origin → Bool
is_own Own = true
is_own Foreign = false

-- by which table a keyslot of a type is read: in a header that asks for something foreign, one of
-- the type reencrypt is as any other
abbrev pub slot_type : Origin → List ℕ → SlotType
slot_type origin kind =
    if bytes_eq kind (codes "luks2") then types.Luks2 else
    (if bytes_eq kind (codes "reencrypt") && is_own origin then types.Reencrypt else types.Unknown)

abbrev pub priority_number : Priority → ℕ
priority_number Ignore = 0
priority_number Normal = 1
priority_number High = 2

-- ---- keyslots that have a text
pub record IsSlotArea (a : SlotArea) : Type 0 where
  pub offset : a.offset < 2 ^ 64
  pub size : a.size < 2 ^ 64
  pub lacks : Lacks slot_area_names a.rest
  pub plain : IsPlain 123 a.rest

pub record IsPbkdf2 (k : Pbkdf2) : Type 0 where
  pub iterations : is_iterations k.iterations ≡ true
  pub salt : IsBytes k.salt

abbrev pub IsDerivation : Derivation → Type 0
IsDerivation (derivations.Pbkdf2 k) = IsPbkdf2 k
IsDerivation (derivations.Unknown kind) = bytes_eq kind (codes "pbkdf2") ≡ false

pub record IsKdf (k : Kdf) : Type 0 where
  pub derivation : IsDerivation k.derivation
  pub lacks : Lacks (kdf_names k.derivation) k.rest
  pub plain : IsPlain 123 k.rest

pub record IsSplitter (s : Splitter) : Type 0 where
  pub lacks : Lacks splitter_names s.rest
  pub plain : IsPlain 123 s.rest

pub record IsLuks2 (s : Luks2) : Type 0 where
  pub area : IsSlotArea s.area
  pub kdf : IsKdf s.kdf
  pub af : IsSplitter s.af
  pub lacks : Lacks luks2_names s.rest
  pub plain : IsPlain 124 s.rest

pub record IsOtherArea (a : OtherArea) : Type 0 where
  pub offset : a.offset < 2 ^ 64
  pub size : a.size < 2 ^ 64
  pub lacks : Lacks other_area_names a.rest
  pub plain : IsPlain 123 a.rest

pub record IsOther (s : OtherSlot) : Type 0 where
  pub area : IfSome s.area IsOtherArea
  pub lacks : Lacks other_names s.rest
  pub plain : IsPlain 124 s.rest

abbrev pub IsKeyslot : Origin → Keyslot → Type 0
IsKeyslot origin (keyslots.Luks2 s) = IsLuks2 s
IsKeyslot origin (keyslots.Reencrypt s) = (origin ≡ Own) × IsReencrypt s
IsKeyslot origin (keyslots.Unknown s) = (slot_type origin s.kind ≡ types.Unknown) × IsOther s
