-- What follows for the tables of a new keyslot's writing.
use Rattle.std.specs.Prelude.{ℕ, ◌≡◌, ◌*◌, List, length, Option, Some, Result}
use Rattle.base_terms.specs.declared.failed.Failed.{Failed}
use Rattle.base_terms.specs.declared.disk_sizes.Sizes.{Sizes}
use Rattle.luks_init.specs.DiskInit.Calls.{IsReady}
use Rattle.luks_init.specs.DiskInit.Makings.{draw_of}
use Rattle.luks_init.specs.DiskInit.Tables.{HasBegun, KeepsNext, TellsOn}
use Rattle.luks_store.specs.declared.header_copies.repair.Repair.{Repair}
use Rattle.luks_init.specs.Wishes.{IsWish}
use Rattle.luks_init.specs.declared.wish.Wish.{Wish}
use Rattle.luks_meta.specs.declared.meta.Parts.{Parts}
use Rattle.luks_store.specs.declared.loaded.Stored.{Stored}
use Rattle.reenc_meta.specs.Placements.{all_atoms}
use Rattle.reenc_recovery.specs.Calls.{DiskOpeningRun}
use Rattle.reenc_recovery.specs.Tables.{ShowsSizes}
use Rattle.sector_disk.specs.Cells.{content}
use Rattle.sector_disk.specs.Devices.{Device, succeeded}
use Rattle.sector_disk.specs.Geometry.{IsDisk}
use Rattle.sector_disk.specs.Steps.{Told}
use Rattle.luks_store.specs.SlotCommits.Calls.{FitsSlot, WritesSlot}
use Rattle.luks_store.specs.declared.slot_commit.writing.SlotCommit.{SlotCommit}

-- The images of all tables since stand for what these bytes stand for, and where all was done what
-- the disk tells holds the next header for certain, by which a conversion is under way. That is under
-- way in the bytes of a disk, too, that tells all of them, whether it tells tables or not.
pub record KeepsOn (sizes : Sizes) (w : Wish) (pass seed : List ℕ) (header : Stored)
    (slot : SlotCommit) (meta : Parts) (first : List ℕ) (old new : Device)
    (result : Result (Unit {0}) Failed) : Type 0 where
  pub tables : TellsOn sizes pass header slot first old new
  pub done : result ≡ succeeded → (now : Told) → new.told ≡ Some now
      → HasBegun sizes pass (draw_of w seed).key first (content now.now)
  pub kept : result ≡ succeeded → (now : Told) → new.told ≡ Some now
      → KeepsNext sizes slot meta now.now
  pub held : result ≡ succeeded
      → ((all : List ℕ) → old.values ≡ Some all → length all ≡ old.atoms * old.size)
      → (now : List ℕ) → new.values ≡ Some now
      → HasBegun sizes pass (draw_of w seed).key first now

-- So it is with the calls that write what was made, behind those of an opening that were all done.
abbrev pub SlotsKeepContents : Type 0
SlotsKeepContents =
    (sizes : Sizes) (key : Option (List ℕ)) (w : Wish) (pass seed : List ℕ) (old : Device)
    (header : Stored) (repair : Option Repair) (slot : SlotCommit) (between new : Device)
    (result : Result (Unit {0}) Failed) (first : List ℕ) → IsDisk sizes.atom (all_atoms sizes)
    → IsWish w sizes.atom → ShowsSizes sizes old
    → (ready : IsReady sizes key w pass seed old header repair slot)
    → DiskOpeningRun repair old between succeeded → ShowsSizes sizes between → FitsSlot slot between
    → WritesSlot slot between new result → old.values ≡ Some first
    → KeepsOn sizes w pass seed header slot ready.made.begun.meta first between new result
