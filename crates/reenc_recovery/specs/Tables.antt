-- What a stop leaves while a volume is opened: each image stands for the same content.
use Rattle.std.specs.Prelude.{ℕ, ◌≡◌, ◌*◌, ◌≤◌, ◌++◌, List, ◌∷◌, length, map, replicate, Option}
use Rattle.std.specs.Prelude.{Some}
use Rattle.std.specs.Prelude.{Ok, Result}
use Rattle.std.specs.List.{All}
use Rattle.base_terms.specs.Blocks.{joined, lengths}
use Rattle.base_terms.specs.declared.failed.Failed.{Failed}
use Rattle.crash_laws.specs.HeaderAreas.Commits.{HasPast}
use Rattle.crash_laws.specs.HeaderAreas.Headers.{Handed, Header, IsGenuine}
use Rattle.base_terms.specs.declared.disk_sizes.Sizes.{Sizes}
use Rattle.sector_disk.specs.JoinedDisks.Joined.{Joint, joined_disk}
use Rattle.luks_store.specs.Copying.Meanings.{header_of, header_reader}
use Rattle.luks_store.specs.declared.header_copies.repair.Repair.{Repair}
use Rattle.luks_rules.specs.Areas.{areas_begin, header_bytes}
use Rattle.luks_rules.specs.States.{IsSound}
use Rattle.luks_store.specs.Devices.{front_of}
use Rattle.luks_store.specs.Loads.{IsStored, stored_in}
use Rattle.luks_store.specs.declared.loaded.Stored.{Stored}
use Rattle.reenc_meta.specs.Placements.{IsPlacementOf}
use Rattle.reenc_meta.specs.Places.{IsRightFor}
use Rattle.reenc_meta.specs.declared.placement.Placement.{Placement}
use Rattle.reenc_recovery.specs.Calls.{DiskOpeningRun, DiskSyncsAndReads, IsRepairFor, OpeningRun}
use Rattle.reenc_recovery.specs.Calls.{SyncsAndReads, TellsSized}
use Rattle.reenc_recovery.specs.Images.{StandsAs}
use Rattle.sector_disk.specs.Cells.{Cell, IsImage, content, currents, synced}
use Rattle.sector_disk.specs.Devices.{Device}
use Rattle.sector_disk.specs.Geometry.{IsAtom}
use Rattle.sector_disk.specs.Steps.{Told}

-- ---- images
-- a header that was loaded, as the laws of copies name it
abbrev pub header_in : Stored → Header (List ℕ)
header_in stored = header_of stored.copies.used.bytes stored.copies.used.bytes

-- An image of a table in which no torn copy of this header is valid: a copy that is valid at a
-- copy's place is one of some texts that mean this header or an older one, and nothing else in
-- front of the secondary is a copy.
pub record IsSpared (sizes : Sizes) (stored : Stored) (cells : List Cell)
    (image : List (List ℕ)) : Type 0 where
  pub is : IsImage cells image
  pub handed : Handed
  pub past : HasPast header_reader (header_in stored) handed
  pub genuine : IsGenuine header_reader stored.copies.used.header.hdr_size handed
      (front_of sizes (joined image))

-- Each such image of a table holds the metadata that these bytes hold, and what they have behind
-- both copies; it stands for what they stand for, under the same keys and the same passphrase.
abbrev pub StandsStill : Sizes → List ℕ → List Cell → Type 0
StandsStill sizes first cells =
    (stored : Stored) → stored_in sizes (front_of sizes first) ≡ Ok stored
    → (image : List (List ℕ)) → IsSpared sizes stored cells image
    → StandsAs sizes stored first (joined image)

-- ---- tables
-- The tables since an opening began: that of its first sync, by which each atom is certain, and
-- then some of which each image stands for what the bytes of the disk stood for; so does each of
-- the table at hand.
pub record StandsSince (sizes : Sizes) (before now : Told) : Type 0 where
  pub more : List (Option ℕ × List Cell)
  pub past : now.past ≡ before.past ++ (before.mark, map synced before.now) ∷ more
  pub each : All (λ table. StandsStill sizes (content before.now) table.1) more
  pub last : StandsStill sizes (content before.now) now.now

-- where a disk tells its tables, it told them when the opening began
abbrev pub TellsSince : Sizes → Device → Device → Type 0
TellsSince sizes old new = (now : Told) → new.told ≡ Some now
    → (before : Told) × (old.told ≡ Some before) × StandsSince sizes before now

-- ---- the law
-- a disk of these sizes, whose table, where it is told, is that of its bytes
pub record ShowsSizes (sizes : Sizes) (device : Device) : Type 0 where
  pub atom : sizes.atom ≡ device.size
  pub known : IsAtom sizes.atom
  pub header : sizes.header_atoms ≤ device.atoms
  pub agrees : (told : Told) → device.told ≡ Some told → device.values ≡ Some (content told.now)
  pub even : (told : Told) → device.told ≡ Some told
      → lengths (currents told.now) ≡ replicate device.atoms device.size
  pub whole : (all : List ℕ) → device.values ≡ Some all → header_bytes sizes ≤ length all

-- A header that passed all checks, and the repair that it asks for: it is the one that the disk
-- holds, where the disk tells what it holds.
pub record IsFoundOn (sizes : Sizes) (header : Stored) (p : Placement) (repair : Option Repair)
    (device : Device) : Type 0 where
  pub stored : IsStored header
  pub sizes_are : header.valid.sizes ≡ sizes
  pub sound : IsSound header.valid.meta sizes
  pub begin : areas_begin header.valid.meta.config ≡ 2 * header.copies.used.header.hdr_size
  pub room : 2 * header.copies.used.header.hdr_size ≤ header_bytes sizes
  pub placed : IsPlacementOf header.valid.meta sizes p
  pub right : IsRightFor header.valid.meta sizes p
  pub asked : IsRepairFor header.copies repair
  pub held : (all : List ℕ) → device.values ≡ Some all
      → stored_in sizes (front_of sizes all) ≡ Ok header

-- After the sync and the reads, and so after each call of the repair, done or failed, the tables
-- are as they were said to be.
abbrev pub ReadsKeepContents : Type 0
ReadsKeepContents = (sizes : Sizes) (old read : Joint) → SyncsAndReads old read
    → TellsSince sizes (joined_disk old) (joined_disk read)

abbrev pub OpeningsKeepContents : Type 0
OpeningsKeepContents =
    (sizes : Sizes) (header : Stored) (p : Placement) (repair : Option Repair) (old : Joint)
    (new : Device) (result : Result (Unit {0}) Failed) → ShowsSizes sizes (joined_disk old)
    → IsFoundOn sizes header p repair (joined_disk old) → OpeningRun repair old new result
    → TellsSized new → TellsSince sizes (joined_disk old) new

-- so it is with the same calls of one disk, of whatever kind
abbrev pub DiskReadsKeepContents : Type 0
DiskReadsKeepContents =
    (sizes : Sizes) (old read : Device) → DiskSyncsAndReads old read → TellsSince sizes old read

abbrev pub DiskOpeningsKeepContents : Type 0
DiskOpeningsKeepContents =
    (sizes : Sizes) (header : Stored) (p : Placement) (repair : Option Repair) (old new : Device)
    (result : Result (Unit {0}) Failed) → ShowsSizes sizes old
    → IsFoundOn sizes header p repair old → DiskOpeningRun repair old new result → TellsSized new
    → TellsSince sizes old new
