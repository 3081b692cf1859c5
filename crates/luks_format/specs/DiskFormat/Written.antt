-- What stands on a disk once a new volume was written to it: on two as one, the header's in front,
-- where the header has a disk of its own.
use Rattle.std.specs.Prelude.{ℕ, ◌≡◌, ◌*◌, List, ◌++◌, length, drop, Some, Ok, true}
use Rattle.base_terms.specs.declared.disk_sizes.Sizes.{Sizes}
use Rattle.luks_format.specs.DiskFormat.Calls.{FitsNew, WritesVolume}
use Rattle.luks_format.specs.DiskFormat.Fitting.{draw_of, metadata_of}
use Rattle.luks_format.specs.DiskFormat.Rests.{end_of_front}
use Rattle.luks_format.specs.DiskFormat.Volumes.{IsNewVolume}
use Rattle.luks_format.specs.declared.format_disk.volume.NewVolume.{NewVolume}
use Rattle.sector_disk.specs.JoinedDisks.Counts.{HasSizes}
use Rattle.luks_store.specs.Copying.Held.{primary_of, secondary_of}
use Rattle.luks_format.specs.Wishes.{FitsDisk, IsWish}
use Rattle.luks_format.specs.declared.wish.Wish.{Wish}
use Rattle.luks_meta.specs.declared.digest.Digest.{Digest}
use Rattle.luks_rules.specs.References.{value_at}
use Rattle.luks_slots.specs.Unlocks.{key_of, matches}
use Rattle.luks_store.specs.Devices.{front_of}
use Rattle.luks_store.specs.Loads.{stored_in}
use Rattle.luks_store.specs.declared.loaded.Stored.{Stored}
use Rattle.sector_disk.specs.Devices.{Device, succeeded}

-- A new volume lies on each disk of the sizes that it is made for.
abbrev pub FitTheirDisk : Type 0
FitTheirDisk = (w : Wish) (sizes : Sizes) (pass seed : List ℕ) (v : NewVolume) (device : Device)
    → IsWish w → FitsDisk w sizes → IsNewVolume w sizes pass seed v → HasSizes sizes device
    → FitsNew v device

-- both copies of its header, its keyslot's area, and behind them what was there
abbrev pub written_over : NewVolume → List ℕ → List ℕ
written_over v bytes =
    primary_of v.slot.commit.copies
    ++ (secondary_of v.slot.commit.copies ++ (v.slot.area ++ drop (end_of_front v) bytes))

-- Where all calls succeeded the disk holds just this.
abbrev pub AreWritten : Type 0
AreWritten = (w : Wish) (sizes : Sizes) (pass seed : List ℕ) (v : NewVolume) (old new : Device)
    (bytes : List ℕ) → IsWish w → FitsDisk w sizes → IsNewVolume w sizes pass seed v
    → FitsNew v old → old.values ≡ Some bytes → length bytes ≡ old.atoms * old.size
    → WritesVolume v old new succeeded → new.values ≡ Some (written_over v bytes)

-- The header that is loaded from these bytes has the metadata of a new volume, from whose keyslot
-- the passphrase unseals its key, which is that of its one digest.
pub record OpensTo (w : Wish) (sizes : Sizes) (pass seed image : List ℕ) : Type 0 where
  pub stored : Stored
  pub loaded : stored_in sizes (front_of sizes image) ≡ Ok stored
  pub meta : stored.valid.meta ≡ metadata_of w seed
  pub digest : Digest
  pub there : value_at (metadata_of w seed).digests 0 ≡ Some digest
  pub same : matches digest (draw_of w seed).key ≡ true
  pub key : key_of (metadata_of w seed) digest image pass ≡ Some (draw_of w seed).key

-- So it is with what is written over any bytes.
abbrev pub AreOpened : Type 0
AreOpened = (w : Wish) (sizes : Sizes) (pass seed : List ℕ) (v : NewVolume) (bytes : List ℕ)
    → IsWish w → FitsDisk w sizes → IsNewVolume w sizes pass seed v
    → OpensTo w sizes pass seed (written_over v bytes)
