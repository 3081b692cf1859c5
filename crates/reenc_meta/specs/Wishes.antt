-- What a conversion is to become, and which wishes a volume has room for.
use Rattle.std.specs.Prelude.{ℕ, ◌≡◌, ◌+◌, ◌-◌, ◌*◌, ◌%◌, ◌^◌, ◌<◌, ◌≤◌, ◌++◌, Bool, true, false}
use Rattle.std.specs.Prelude.{List, [], ◌∷◌, codes, is_some, Option, Some, None, IfSome}
use Rattle.std.specs.Prelude.{if◌then◌else◌}
use Rattle.std.specs.List.{All}
use Rattle.base_terms.specs.declared.disk_sizes.Sizes.{Sizes}
use Rattle.luks_meta.specs.Configs.{profile}
use Rattle.luks_meta.specs.Digests.{IsDigest}
use Rattle.luks_meta.specs.Keyslots.{IsLuks2}
use Rattle.luks_meta.specs.Reencrypts.{IsArea}
use Rattle.luks_meta.specs.Segments.{is_sector_size}
use Rattle.luks_meta.specs.declared.config.Config.{Config}
use Rattle.luks_meta.specs.declared.config.Requirements.{Requirements}
use Rattle.luks_meta.specs.declared.digest.Digest.{Digest}
use Rattle.luks_meta.specs.declared.keyslot.Luks2.{Luks2}
use Rattle.luks_meta.specs.declared.meta.Parts.{Parts}
use Rattle.luks_meta.specs.declared.reencrypt.Direction.{Direction}
use Rattle.luks_meta.specs.declared.reencrypt.Direction.TheVariants.{Forward, Backward}
use Rattle.luks_meta.specs.declared.reencrypt.Mode.{Mode}
use Rattle.luks_meta.specs.declared.reencrypt.Mode.TheVariants.{Reencrypt, Encrypt, Decrypt}
use Rattle.luks_meta.specs.declared.reencrypt.Resilience.{Resilience}
use Rattle.luks_meta.specs.declared.reencrypt.Resilience.TheVariants.{Journal, Checksum, Datashift}
use Rattle.luks_meta.specs.declared.segment.Encryption.{Encryption}
use Rattle.luks_meta.specs.declared.segment.Segment.{Segment}
use Rattle.luks_meta.specs.declared.segment.SegmentSize.{SegmentSize}
use Rattle.luks_meta.specs.declared.segment.SegmentSize.TheVariants.{Dynamic, Sized}
use Rattle.luks_rules.specs.Areas.{areas_end, areas_of, header_bytes, main_bytes}
use Rattle.luks_rules.specs.Overlaps.{TwoShare}
use Rattle.luks_rules.specs.Plain.{IsWithin}
use Rattle.luks_rules.specs.Rooms.{capacity_by}
use Rattle.luks_rules.specs.Shapes.{fits_mode, stays_dynamic}
use Rattle.luks_rules.specs.declared.areas.Area.{Area}
use Rattle.luks_rules.specs.declared.idle.Idle.{Idle}
use Rattle.reenc_meta.specs.declared.wish.Wish.{Wish}
use Rattle.serde_json.specs.Data.{no_members}

-- ---- the new whole segment
-- where it begins: where the old one does, or a shift in front of it or behind it
abbrev pub shifted_by : Direction → ℕ → ℕ → ℕ
shifted_by Forward shift offset = offset - shift
shifted_by Backward shift offset = offset + shift

abbrev pub offset_by : Direction → Resilience → ℕ → ℕ
offset_by direction Journal offset = offset
offset_by direction (Checksum n) offset = offset
offset_by direction (Datashift shift) offset = shifted_by direction shift offset

abbrev pub size_by : Bool → ℕ → SegmentSize
size_by dynamic bytes = if dynamic then Dynamic else Sized bytes

-- its sectors are numbered from 0
abbrev pub encryption_for : Wish → Mode → Option Encryption
encryption_for w Reencrypt =
    Some (record { iv_tweak = 0; cipher = w.encryption; sector_size = w.sector_size })
encryption_for w Encrypt =
    Some (record { iv_tweak = 0; cipher = w.encryption; sector_size = w.sector_size })
encryption_for w Decrypt = None

-- The whole segment that the volume becomes, of so many bytes; it goes to the disk's end where the
-- old one does, unless blocks are shifted.
unfoldable pub new_whole : Wish → Segment → ℕ → Segment
new_whole w old bytes = record {
  offset = offset_by w.direction w.area.resilience old.offset;
  size = size_by (stays_dynamic w.area.resilience old.size) bytes;
  encryption = encryption_for w w.mode;
  flags = Some (codes "backup-final" ∷ []);
  rest = no_members;
}

-- ---- the next header's sizes and requirements
abbrev pub asked_by : Option Requirements → Requirements
asked_by None = record { mandatory = profile ∷ []; rest = no_members }
asked_by (Some r) = record r { mandatory = r.mandatory ++ profile ∷ [] }

unfoldable pub config_by : Wish → Config → Config
config_by w c = record c {
  json_size = w.header_size - 4096;
  keyslots_size = w.keyslots_size;
  requirements = Some (asked_by c.requirements);
}

-- a header for a volume that has none: one linear segment over the whole disk, and nothing else
unfoldable pub unencrypted : Wish → Parts
unencrypted w = record {
  keyslots = [];
  tokens = [];
  segments =
      (0, record { offset = 0; size = Dynamic; encryption = None; flags = None; rest = no_members })
      ∷ [];
  digests = [];
  config = record {
    json_size = w.header_size - 4096;
    keyslots_size = w.keyslots_size;
    requirements = None;
    rest = no_members;
  };
  rest = no_members;
}

-- the header of the volume, or one for a volume without
abbrev pub header_or : Wish → Option Parts → Parts
header_or w None = unencrypted w
header_or w (Some m) = m

-- ---- wishes that there is room for
abbrev pub key_area : Option (Luks2 × Digest) → List Area
key_area None = []
key_area (Some key) = record { offset = key.0.area.offset; size = key.0.area.size } ∷ []

abbrev pub new_areas : Wish → List Area
new_areas w = key_area w.key ++ record { offset = w.area.offset; size = w.area.size } ∷ []

-- there is a key exactly where the new segment is encrypted
abbrev pub has_key : Mode → Bool → Bool
has_key Reencrypt key = key
has_key Encrypt key = key
has_key Decrypt key = if key then false else true

-- the shift doesn't lead beyond the disk's first byte, or beyond 64 bits
abbrev pub HasOffset : Direction → Resilience → ℕ → Type 0
HasOffset direction Journal offset = Unit {0}
HasOffset direction (Checksum n) offset = Unit {0}
HasOffset Forward (Datashift shift) offset = shift ≤ offset
HasOffset Backward (Datashift shift) offset = offset + shift < 2 ^ 64

-- a checksum's sectors are atoms; a shift is whole atoms, and has room on the disk
abbrev pub HasRoomFor : Direction → ℕ → ℕ → ℕ → ℕ → Type 0
HasRoomFor Forward shift offset bytes last = shift ≤ offset
HasRoomFor Backward shift offset bytes last = offset + bytes + shift ≤ last

abbrev pub IsSafe : ℕ → Direction → Resilience → ℕ → ℕ → ℕ → Type 0
IsSafe atom direction Journal offset bytes last = Unit {0}
IsSafe atom direction (Checksum n) offset bytes last = n ≡ atom
IsSafe atom direction (Datashift shift) offset bytes last =
    (shift % atom ≡ 0) × HasRoomFor direction shift offset bytes last

-- What is wished has a text: the new keyslot, its digest and the area are ones that a header may
-- have, sectors, where there are any, have a size that is known, and a copy has room for a binary
-- header; and the new segment's place has 64 bits.
pub record IsWish (w : Wish) (v : Idle) : Type 0 where
  pub key : IfSome w.key (λ key. IsLuks2 key.0 × IsDigest key.1)
  pub area : IsArea w.area
  pub sectors : IfSome (encryption_for w w.mode) (λ e. is_sector_size e.sector_size ≡ true)
  pub header : 4096 ≤ w.header_size
  pub offset : HasOffset w.direction w.area.resilience v.segment.offset

-- The area that guards zones, and that of the new keyslot, lie in the keyslots area that there will
-- be, as the old ones do, and share no byte with each other or with those; and it ends in front of
-- both segments or, where the header is detached, on its disk.
pub record HaveGaps (m : Parts) (sizes : Sizes) (w : Wish) (offset : ℕ) : Type 0 where
  pub whole : All (λ a. (a.offset % sizes.atom ≡ 0) × (a.size % sizes.atom ≡ 0)) (new_areas w)
  pub apart : TwoShare (new_areas w ++ areas_of m.keyslots) → ⊥
  pub within : All (IsWithin (config_by w m.config)) (new_areas w ++ areas_of m.keyslots)
  pub old : sizes.detached ≡ false → areas_end (config_by w m.config) ≤ offset
  pub new : sizes.detached ≡ false → areas_end (config_by w m.config)
      ≤ offset_by w.direction w.area.resilience offset
  pub detached : sizes.detached ≡ true → areas_end (config_by w m.config) ≤ header_bytes sizes

-- A volume of which nothing is converted, in this header, has room for what is wished. A linear
-- segment, as the one without a header is, is under no digest.
pub record MayStart (m : Parts) (sizes : Sizes) (w : Wish) (v : Idle) : Type 0 where
  pub some : 0 < v.blocks
  pub mode : fits_mode w.mode (is_some v.segment.encryption) (is_some (encryption_for w w.mode))
      ≡ true
  pub linear : v.segment.encryption ≡ None → v.segment.digest ≡ None
  pub key : has_key w.mode (is_some w.key) ≡ true
  pub sectors : IfSome (encryption_for w w.mode) (λ e. sizes.atom % e.sector_size ≡ 0)
  pub gaps : HaveGaps m sizes w v.segment.offset
  pub safe : IsSafe sizes.atom w.direction w.area.resilience v.segment.offset
      (v.blocks * sizes.atom) (main_bytes sizes)
  pub room : 0 < capacity_by sizes.atom w.area.size w.area.resilience
