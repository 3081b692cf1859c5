-- What a disk shows while a copy of its header is written anew.
use Rattle.std.specs.Prelude.{ℕ, ◌≡◌, ◌+◌, ◌*◌, ◌<◌, ◌≤◌, Bool, false, List, length, Contains}
use Rattle.base_terms.specs.Blocks.{joined}
use Rattle.crash_laws.specs.HeaderAreas.Commits.{HasPast, ShowsRepair}
use Rattle.crash_laws.specs.HeaderAreas.Headers.{Copy, Handed, Header, IsGenuine, IsHeader, IsLaidOut, Layout}
use Rattle.base_terms.specs.declared.disk_sizes.Sizes.{Sizes}
use Rattle.sector_disk.specs.DiskViews.Parts.{block_at, cell_in}
use Rattle.sector_disk.specs.DiskViews.Views.{view_of_cells}
use Rattle.luks_store.specs.Copying.Meanings.{header_reader, meaning_of}
use Rattle.luks_rules.specs.Areas.{areas_begin}
use Rattle.luks_store.specs.Devices.{front_of}
use Rattle.luks_store.specs.declared.loaded.Stored.{Stored}
use Rattle.sector_disk.specs.Cells.{Cell, IsImage}

-- A header that was loaded, as the laws of repairs speak of it: both copies' texts, of which one is
-- written anew, lie in front of all else on its disk.
pub record IsRepaired (sizes : Sizes) (stored : Stored) (header : Header (List ℕ))
    (layout : Layout) (handed : Handed) : Type 0 where
  pub whole : IsHeader header_reader header
  pub means : header.means ≡ meaning_of stored.copies.used.bytes
  pub past : HasPast header_reader header handed
  pub laid : IsLaidOut sizes.atom sizes.header_atoms (header_reader.size header.means) layout
  pub begin : areas_begin stored.valid.meta.config
      ≡ (layout.second.start + layout.second.count) * sizes.atom
  pub sizes_are : stored.valid.sizes ≡ sizes

-- The disk shows a repair of one copy, and behind both copies what it held for certain.
pub record ShowsRepairOf (sizes : Sizes) (layout : Layout) (header : Header (List ℕ))
    (bad : Copy) (written broken : Bool) (first : List ℕ) (cells : List Cell) : Type 0 where
  pub copies : ShowsRepair sizes.atom layout header bad written broken (view_of_cells cells)
  pub now : broken ≡ false → (place : ℕ) → layout.second.start + layout.second.count ≤ place
      → place < length cells → (cell_in cells place).current ≡ block_at sizes.atom first place
  pub behind : (place : ℕ) → layout.second.start + layout.second.count ≤ place
      → place < length cells → (value : List ℕ)
      → Contains (cell_in cells place).candidates value → value ≡ block_at sizes.atom first place
  pub long : length first ≡ length cells * sizes.atom
  pub header_atoms : sizes.header_atoms ≤ length cells

-- An image that a stop leaves of it, in which no torn copy is valid.
pub record IsLeft (sizes : Sizes) (header : Header (List ℕ)) (handed : Handed)
    (cells : List Cell) (image : List (List ℕ)) : Type 0 where
  pub is : IsImage cells image
  pub genuine : IsGenuine header_reader (header_reader.size header.means) handed
      (front_of sizes (joined image))
