-- What is promised of images, and of what a repair leaves.
use Rattle.std.specs.Prelude.{ℕ, ◌≡◌, ◌↔◌, Bool, true, false, List, length, take, drop, Ok}
use Rattle.base_terms.specs.Blocks.{joined}
use Rattle.crash_laws.specs.HeaderAreas.Commits.{TriesCopy, WritesCopy, other}
use Rattle.crash_laws.specs.HeaderAreas.Headers.{Copy, Handed, Header, IsLaidOut, Layout, byte_of, text_of}
use Rattle.base_terms.specs.declared.disk_sizes.Sizes.{Sizes}
use Rattle.sector_disk.specs.DiskViews.Views.{IsSynced, IsThinned, view_of_cells}
use Rattle.luks_rules.specs.States.{IsSound}
use Rattle.luks_store.specs.Devices.{front_of, IsCertain}
use Rattle.luks_store.specs.Loads.{IsStored, stored_in}
use Rattle.luks_store.specs.declared.loaded.Stored.{Stored}
use Rattle.reenc_meta.specs.Placements.{IsPlacementOf}
use Rattle.reenc_meta.specs.Places.{IsRightFor}
use Rattle.reenc_meta.specs.declared.placement.Placement.{Placement}
use Rattle.reenc_recovery.specs.Images.{HoldsOn, StandsFor, StandsUnder}
use Rattle.reenc_recovery.specs.Repairing.{IsLeft, IsRepaired, ShowsRepairOf}
use Rattle.sector_disk.specs.Cells.{AreSized, Cell}

-- What is written in front of the keyslots' areas leaves what an image stands for under the keys of
-- its sides, as long as its header says the same. `p` is where the header places the volume, of
-- which nothing is being converted.
abbrev pub ContentsStay : Type 0
ContentsStay =
    (sizes : Sizes) (header : Stored) (p : Placement) (first now : List ℕ)
    → IsPlacementOf header.valid.meta sizes p → IsRightFor header.valid.meta sizes p
    → HoldsOn sizes header first now → (old new : List ℕ) (content : List (List ℕ))
    → StandsUnder sizes old new first content ↔ StandsUnder sizes old new now content

-- and under a passphrase
abbrev pub ContentsStayFor : Type 0
ContentsStayFor =
    (sizes : Sizes) (header : Stored) (p : Placement) (first now : List ℕ)
    → IsPlacementOf header.valid.meta sizes p → IsRightFor header.valid.meta sizes p
    → IsSound header.valid.meta sizes → HoldsOn sizes header first now
    → (pass : List ℕ) (content : List (List ℕ))
    → StandsFor sizes pass first content ↔ StandsFor sizes pass now content

-- Each image that a stop leaves of a disk during a repair holds the metadata that the bytes of the
-- disk held before it, and behind both copies what these had there.
abbrev pub RepairsHoldOn : Type 0
RepairsHoldOn =
    (sizes : Sizes) (stored : Stored) (header : Header (List ℕ)) (layout : Layout) (handed : Handed)
    (bad : Copy) (written broken : Bool) (first : List ℕ) (cells : List Cell)
    (image : List (List ℕ)) → IsRepaired sizes stored header layout handed
    → ShowsRepairOf sizes layout header bad written broken first cells
    → AreSized sizes.atom cells → IsLeft sizes header handed cells image → IsStored stored
    → stored_in sizes (front_of sizes first) ≡ Ok stored
    → HoldsOn sizes stored first (joined image)

-- The calls of a repair lead from what it shows to what it shows; one that fails leaves what a stop
-- may leave.
pub record RepairGoesOn (sizes : Sizes) (layout : Layout) (header : Header (List ℕ)) (bad : Copy)
    (first : List ℕ) (old new : List Cell) : Type 0 where
  pub written : ShowsRepairOf sizes layout header bad false false first old
      → WritesCopy sizes.atom layout header bad (view_of_cells old) (view_of_cells new)
      → ShowsRepairOf sizes layout header bad true false first new
  pub tried : ShowsRepairOf sizes layout header bad false false first old
      → TriesCopy sizes.atom layout header bad (view_of_cells old) (view_of_cells new)
      → ShowsRepairOf sizes layout header bad false true first new
  pub synced : ShowsRepairOf sizes layout header bad true false first old
      → IsSynced (view_of_cells old) (view_of_cells new)
      → ShowsRepairOf sizes layout header bad true false first new
  pub thinned : ShowsRepairOf sizes layout header bad true false first old
      → IsThinned (view_of_cells old) (view_of_cells new)
      → ShowsRepairOf sizes layout header bad true true first new

abbrev pub RepairsGoOn : Type 0
RepairsGoOn =
    (sizes : Sizes) (layout : Layout) (header : Header (List ℕ)) (bad : Copy) (first : List ℕ)
    (old new : List Cell) → IsLaidOut sizes.atom sizes.header_atoms (length header.first) layout
    → length new ≡ length old → RepairGoesOn sizes layout header bad first old new

-- A disk that holds its bytes for certain, of which the one copy stands at its place, shows the
-- beginning of a repair of the other.
abbrev pub RepairsBegin : Type 0
RepairsBegin =
    (sizes : Sizes) (layout : Layout) (size : ℕ) (first : List ℕ) (cells : List Cell)
    (header : Header (List ℕ)) (bad : Copy) → IsCertain sizes first cells
    → IsLaidOut sizes.atom sizes.header_atoms size layout
    → take size (drop (byte_of size (other bad)) first) ≡ text_of header (other bad)
    → ShowsRepairOf sizes layout header bad false false first cells
