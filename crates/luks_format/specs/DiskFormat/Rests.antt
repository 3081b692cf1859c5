-- What the device calls that write a new volume leave as it was.
use Rattle.std.specs.Prelude.{◌≡◌, ℕ, ◌+◌, ◌≤◌, List, length, drop, Some, Result, if◌then◌else◌}
use Rattle.base_terms.specs.declared.failed.Failed.{Failed}
use Rattle.base_terms.specs.declared.disk_sizes.Sizes.{Sizes}
use Rattle.luks_format.specs.DiskFormat.Calls.{WritesVolume}
use Rattle.luks_format.specs.DiskFormat.Volumes.{IsNewVolume}
use Rattle.luks_format.specs.declared.format_disk.volume.NewVolume.{NewVolume}
use Rattle.luks_format.specs.Wishes.{IsWish}
use Rattle.luks_format.specs.declared.wish.Wish.{Wish}
use Rattle.luks_rules.specs.Areas.{header_bytes}
use Rattle.sector_disk.specs.Devices.{Device}

-- the first byte behind all that is written
abbrev pub end_of_front : NewVolume → ℕ
end_of_front v = v.slot.area_offset + length v.slot.area

-- the bytes that a new volume's header and keyslots may take: all of the header's disk where that
-- is one of its own, else those in front of the data
abbrev pub front_room : Wish → Sizes → ℕ
front_room w sizes = if w.detached then header_bytes sizes else w.data_offset

-- a disk that told what it holds tells it again, and from a byte on it is the same
abbrev pub KeepsFrom : ℕ → Device → Device → Type 0
KeepsFrom from old new = (bytes : List ℕ) → old.values ≡ Some bytes
    → (now : List ℕ) × (new.values ≡ Some now) × (drop from now ≡ drop from bytes)

-- What is written ends in front of the data, and on the header's disk where that is one of its own,
-- so that none of the other is written; and whatever the calls answer, all bytes behind it are what
-- they were.
abbrev pub LeaveTheRest : Type 0
LeaveTheRest = (w : Wish) (sizes : Sizes) (pass seed : List ℕ) (v : NewVolume) (old new : Device)
    (result : Result (Unit {0}) Failed) → IsWish w → IsNewVolume w sizes pass seed v
    → WritesVolume v old new result
    → (end_of_front v ≤ front_room w sizes) × KeepsFrom (end_of_front v) old new
