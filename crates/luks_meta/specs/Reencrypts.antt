-- The keyslot of a conversion: its names, and when it has a text.
use Rattle.std.specs.Prelude.{ℕ, ◌^◌, ◌<◌, List, [], ◌∷◌, codes, Option, Some, None}
use Rattle.std.specs.Prelude.{if◌then◌else◌}
use Rattle.std.specs.Str.{bytes_eq}
use Rattle.json_members.specs.Members.{Lacks, IsPlain}
use Rattle.luks_meta.specs.declared.reencrypt.Mode.{Mode}
use Rattle.luks_meta.specs.declared.reencrypt.Mode.TheVariants as modes
use Rattle.luks_meta.specs.declared.reencrypt.Direction.{Direction}
use Rattle.luks_meta.specs.declared.reencrypt.Direction.TheVariants.{Forward, Backward}
use Rattle.luks_meta.specs.declared.reencrypt.Resilience.{Resilience}
use Rattle.luks_meta.specs.declared.reencrypt.Resilience.TheVariants.{Journal, Checksum, Datashift}
use Rattle.luks_meta.specs.declared.reencrypt.ReencryptArea.{ReencryptArea}
use Rattle.luks_meta.specs.declared.reencrypt.Reencrypt.{Reencrypt}

abbrev pub mode_name : Mode → List ℕ
mode_name modes.Reencrypt = codes "reencrypt"
mode_name modes.Encrypt = codes "encrypt"
mode_name modes.Decrypt = codes "decrypt"

abbrev pub mode_named : List ℕ → Option Mode
mode_named name =
    if bytes_eq name (codes "reencrypt") then Some modes.Reencrypt else
    (if bytes_eq name (codes "encrypt") then Some modes.Encrypt else
    (if bytes_eq name (codes "decrypt") then Some modes.Decrypt else None))

abbrev pub direction_name : Direction → List ℕ
direction_name Forward = codes "forward"
direction_name Backward = codes "backward"

abbrev pub direction_named : List ℕ → Option Direction
direction_named name =
    if bytes_eq name (codes "forward") then Some Forward else
    (if bytes_eq name (codes "backward") then Some Backward else None)

abbrev pub area_type_name : Resilience → List ℕ
area_type_name Journal = codes "journal"
area_type_name (Checksum n) = codes "checksum"
area_type_name (Datashift n) = codes "datashift"

-- ---- the names of the members
abbrev pub area_names : Resilience → List (List ℕ)
area_names Journal = codes "type" ∷ codes "offset" ∷ codes "size" ∷ []
area_names (Checksum n) =
    codes "type" ∷ codes "offset" ∷ codes "size" ∷ codes "hash" ∷ codes "sector_size" ∷ []
area_names (Datashift n) = codes "type" ∷ codes "offset" ∷ codes "size" ∷ codes "shift_size" ∷ []

abbrev pub reencrypt_names : List (List ℕ)
reencrypt_names =
    codes "type" ∷ codes "key_size" ∷ codes "mode" ∷ codes "direction" ∷ codes "area" ∷ []

-- ---- keyslots that have a text
abbrev pub IsResilience : Resilience → Type 0
IsResilience Journal = Unit {0}
IsResilience (Checksum n) = Unit {0}
IsResilience (Datashift n) = n < 2 ^ 64

pub record IsArea (a : ReencryptArea) : Type 0 where
  pub resilience : IsResilience a.resilience
  pub offset : a.offset < 2 ^ 64
  pub size : a.size < 2 ^ 64
  pub lacks : Lacks (area_names a.resilience) a.rest
  pub plain : IsPlain 123 a.rest

pub record IsReencrypt (s : Reencrypt) : Type 0 where
  pub area : IsArea s.area
  pub lacks : Lacks reencrypt_names s.rest
  pub plain : IsPlain 124 s.rest
