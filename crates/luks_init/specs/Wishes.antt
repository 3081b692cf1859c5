-- What a conversion may be, and how much room it takes.
use Rattle.std.specs.Prelude.{ℕ, ◌≡◌, ◌*◌, ◌/◌, ◌%◌, ◌<◌, ◌≤◌, true}
use Rattle.luks_init.specs.declared.wish.Guard.{Guard}
use Rattle.luks_init.specs.declared.wish.Guard.TheVariants.{Journal, Checksum}
use Rattle.luks_init.specs.declared.wish.Wish.{Wish}
use Rattle.luks_meta.specs.Segments.{is_sector_size}
use Rattle.luks_meta.specs.declared.reencrypt.Resilience.{Resilience}
use Rattle.luks_meta.specs.declared.reencrypt.Resilience.TheVariants as kept
use Rattle.luks_slots.specs.Functions.{named_cipher}
use Rattle.luks_slots.specs.Stripes.{rounded}
use Rattle.sector_cipher.specs.Names.{IsKeyLength}

-- the most bytes of a zone
abbrev pub most_hotzone : ℕ
most_hotzone = 67108864

-- For a disk of atoms of so many bytes: its key has a length of its cipher's, its sectors have a
-- size that is known and divide the atom, its rounds are some that PBKDF2 may have, and the largest
-- zone is whole atoms, at least one.
pub record IsWish (w : Wish) (atom : ℕ) : Type 0 where
  pub key : IsKeyLength (named_cipher w.cipher) w.key_size
  pub sector : is_sector_size w.sector_size ≡ true
  pub whole_sectors : atom % w.sector_size ≡ 0
  pub some_rounds : 1 ≤ w.iterations
  pub most_rounds : w.iterations ≤ 268435456
  pub whole_hotzone : w.hotzone_size % atom ≡ 0
  pub some_hotzone : 0 < w.hotzone_size
  pub most : w.hotzone_size ≤ most_hotzone

-- what is saved of a zone of so many bytes: a copy, or a digest of 32 bytes for each of its blocks,
-- which are atoms
abbrev pub saved_len : Guard → ℕ → ℕ → ℕ
saved_len Journal hotzone atom = hotzone
saved_len Checksum hotzone atom = hotzone / atom * 32

-- the bytes of the area that guards zones, in whole pages
unfoldable pub guard_len : Wish → ℕ → ℕ
guard_len w atom = rounded (saved_len w.resilience w.hotzone_size atom) 4096

-- the same as a header names it: the digests are those of atoms
abbrev pub resilience_for : Guard → ℕ → Resilience
resilience_for Journal atom = kept.Journal
resilience_for Checksum atom = kept.Checksum atom
