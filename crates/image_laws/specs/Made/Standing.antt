-- What the disk of a new volume stands for; where its header has a disk of its own, what both stand
-- for as one, the header's in front.
use Rattle.std.specs.Prelude.{ℕ, ◌≡◌, ◌+◌, ◌-◌, ◌*◌, ◌/◌, List, length, map, Some}
use Rattle.std.specs.List.{range_with_len}
use Rattle.cipher_laws.specs.Bytes.{AreBytes}
use Rattle.base_terms.specs.declared.disk_sizes.Sizes.{Sizes}
use Rattle.sector_disk.specs.DiskViews.Parts.{block_at}
use Rattle.luks_format.specs.DiskFormat.Calls.{FitsNew, WritesVolume}
use Rattle.luks_format.specs.DiskFormat.Fitting.{draw_of}
use Rattle.luks_format.specs.DiskFormat.Volumes.{IsNewVolume}
use Rattle.luks_format.specs.DiskFormat.Written.{written_over}
use Rattle.luks_format.specs.declared.format_disk.volume.NewVolume.{NewVolume}
use Rattle.luks_format.specs.Wishes.{FitsDisk, IsWish}
use Rattle.luks_format.specs.declared.wish.Wish.{Wish}
use Rattle.luks_rules.specs.Areas.{main_bytes}
use Rattle.luks_slots.specs.Functions.{named_cipher}
use Rattle.reenc_meta.specs.Placements.{base_of}
use Rattle.reenc_recovery.specs.Images.{StandsFor}
use Rattle.reenc_recovery.specs.Placings.{RestsIn}
use Rattle.sector_cipher.specs.Context.{opened_under}
use Rattle.sector_disk.specs.Devices.{Device, succeeded}

-- the whole atoms behind the data's offset, of the disk that holds the data
abbrev pub block_count : Wish → Sizes → ℕ
block_count w sizes = (main_bytes sizes - w.data_offset) / sizes.atom

-- the first of them, which is counted from where the disk of the data begins
abbrev pub first_atom : Wish → Sizes → ℕ
first_atom w sizes = base_of sizes + w.data_offset / sizes.atom

-- what a key unseals from one of them: the sectors are numbered from the data's offset on
abbrev pub unsealed_block : Wish → Sizes → List ℕ → List ℕ → ℕ → List ℕ
unsealed_block w sizes key bytes b =
    opened_under (named_cipher w.cipher) key w.sector_size (b * (sizes.atom / 512))
    (block_at sizes.atom bytes (first_atom w sizes + b))

-- and from all, block by block
unfoldable pub content_of : Wish → Sizes → List ℕ → List ℕ → List (List ℕ)
content_of w sizes key bytes =
    map (unsealed_block w sizes key bytes) (range_with_len 0 (block_count w sizes))

-- A new volume was written over the bytes of a disk. It holds both copies of the header and the
-- keyslot's area, and behind them what was there; and this stands, under the passphrase, for what
-- the new key unseals from the bytes that were there. Nothing is being converted by its header.
abbrev pub NewVolumesStand : Type 0
NewVolumesStand = (w : Wish) (sizes : Sizes) (pass seed : List ℕ) (v : NewVolume)
    (old new : Device) (bytes : List ℕ) → IsWish w → FitsDisk w sizes
    → IsNewVolume w sizes pass seed v → FitsNew v old → old.values ≡ Some bytes
    → length bytes ≡ old.atoms * old.size → AreBytes bytes → WritesVolume v old new succeeded
    → (new.values ≡ Some (written_over v bytes))
    × StandsFor sizes pass (written_over v bytes)
    (content_of w sizes (draw_of w seed).key bytes)
    × RestsIn sizes (written_over v bytes)
