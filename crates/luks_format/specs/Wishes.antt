-- What a new volume may be, and on which disks.
use Rattle.std.specs.Prelude.{ℕ, ◌≡◌, ◌+◌, ◌-◌, ◌*◌, ◌%◌, ◌^◌, ◌<◌, ◌≤◌, min, true, false}
use Rattle.std.specs.Prelude.{if◌then◌else◌}
use Rattle.base_terms.specs.declared.disk_sizes.Sizes.{Sizes}
use Rattle.luks_bin.specs.Fields.{is_size}
use Rattle.luks_format.specs.declared.wish.Wish.{Wish}
use Rattle.luks_meta.specs.Segments.{is_sector_size}
use Rattle.luks_rules.specs.Areas.{header_bytes, main_bytes}
use Rattle.luks_slots.specs.Functions.{named_cipher}
use Rattle.sector_cipher.specs.Names.{IsKeyLength}
use Rattle.sector_disk.specs.Geometry.{IsAtom}

-- the most bytes of a new volume's keyslots area
abbrev pub most_keyslots : ℕ
most_keyslots = 134217728

-- where the keyslots area ends of a header that has a disk of its own
abbrev pub detached_end : ℕ
detached_end = 16777216

-- where its keyslots area ends, unless that would have too many bytes
abbrev pub keyslots_end : Wish → ℕ
keyslots_end w = if w.detached then detached_end else w.data_offset

-- the bytes of its keyslots area: those from the copies of its header up to there
unfoldable pub keyslots_size_for : Wish → ℕ
keyslots_size_for w = min (keyslots_end w - 2 * w.metadata_size) most_keyslots

-- the first byte behind its keyslots area
abbrev pub areas_end_for : Wish → ℕ
areas_end_for w = 2 * w.metadata_size + keyslots_size_for w

-- Its key has a length of its cipher's, its sectors and its copies have a size that is known, its
-- data begin at whole pages, and its rounds are some that PBKDF2 may have.
pub record IsWish (w : Wish) : Type 0 where
  pub key : IsKeyLength (named_cipher w.cipher) w.key_size
  pub sector : is_sector_size w.sector_size ≡ true
  pub page : w.data_offset % 4096 ≡ 0
  pub within : w.data_offset < 2 ^ 64
  pub some_rounds : 1 ≤ w.iterations
  pub most_rounds : w.iterations ≤ 268435456
  pub size : is_size w.metadata_size ≡ true

-- The header lies on a disk of its own where that is wished, else on the one disk that there is;
-- atoms hold whole sectors, and either disk has less than 2 ^ 63 bytes.
pub record FitsDisk (w : Wish) (sizes : Sizes) : Type 0 where
  pub atom : IsAtom sizes.atom
  pub sector : sizes.atom % w.sector_size ≡ 0
  pub detached : sizes.detached ≡ w.detached
  pub alone : sizes.detached ≡ false → sizes.header_atoms ≡ sizes.main_atoms
  pub header : header_bytes sizes < 2 ^ 63
  pub main : main_bytes sizes < 2 ^ 63
