-- Where a new volume's keyslot and data lie.
use Rattle.std.specs.Prelude.{ℕ, ◌≡◌, ◌*◌, ◌/◌, ◌<◌, ◌≤◌, true, [], None}
use Rattle.base_terms.specs.declared.disk_sizes.Sizes.{Sizes}
use Rattle.luks_format.specs.Drawings.{Draw}
use Rattle.luks_format.specs.Metadata.{parts_for}
use Rattle.luks_format.specs.Wishes.{FitsDisk, IsWish, areas_end_for, keyslots_size_for}
use Rattle.luks_format.specs.declared.wish.Wish.{Wish}
use Rattle.luks_rules.specs.Areas.{header_bytes}
use Rattle.luks_rules.specs.Rules.{first_fault}
use Rattle.luks_slots.specs.Gaps.{IsLowest}
use Rattle.luks_slots.specs.NewSlots.{area_len}
use Rattle.sector_disk.specs.Geometry.{IsAtom}

-- at the lowest place of an empty keyslots area, where that has room for it
abbrev pub TakeLowest : Type 0
TakeLowest = (w : Wish) (d : Draw) (atom : ℕ) → IsWish w → IsAtom atom
    → area_len w.key_size ≤ keyslots_size_for w
    → IsLowest (record (parts_for w d) { keyslots = [] }) [] atom (area_len w.key_size)
    (2 * w.metadata_size)

-- its metadata break no rule where that has room, the keyslots area ends on the header's disk where
-- that is one of its own, and the disk of the data has a block behind the data's offset
abbrev pub BreakNone : Type 0
BreakNone = (w : Wish) (d : Draw) (sizes : Sizes) → IsWish w → FitsDisk w sizes
    → area_len w.key_size ≤ keyslots_size_for w
    → (w.detached ≡ true → areas_end_for w ≤ header_bytes sizes)
    → w.data_offset / sizes.atom < sizes.main_atoms
    → first_fault (parts_for w d) sizes ≡ None
