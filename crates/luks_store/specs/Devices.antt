-- What reads leave of a disk, and which of its bytes are the header's disk.
use Rattle.std.specs.Prelude.{ℕ, ◌≡◌, ◌≤◌, ◌%◌, ◌==◌, ◌&&◌, nat_lt, Bool, List, ◌++◌, take, Option}
use Rattle.std.specs.Prelude.{Some, if◌then◌else◌, length, replicate, Contains}
use Rattle.std.specs.List.{All, list_all}
use Rattle.base_terms.specs.Blocks.{joined, lengths}
use Rattle.base_terms.specs.Causes.{Rose}
use Rattle.base_terms.specs.declared.disk_sizes.Sizes.{Sizes}
use Rattle.sector_disk.specs.DiskViews.Parts.{cell_in}
use Rattle.sector_disk.specs.JoinedDisks.Counts.{joint_in}
use Rattle.sector_disk.specs.JoinedDisks.Joined.{Joint, joined_disk}
use Rattle.sector_disk.specs.declared.joined.joined.JoinedDisk.{JoinedDisk}
use Rattle.luks_rules.specs.Areas.{header_bytes, main_bytes}
use Rattle.luks_store.specs.declared.fault.ReadFault.{ReadFault}
use Rattle.luks_store.specs.declared.fault.ReadFault.TheVariants.{Memory, Device}
use Rattle.luks_store.specs.declared.fault.StoreFault.{StoreFault}
use Rattle.luks_store.specs.declared.fault.StoreFault.TheVariants as faults
use Rattle.sector_disk.specs.Cells.{Cell, currents}
use Rattle.sector_disk.specs.Devices.{Device as disk_type}
use Rattle.sector_disk.specs.Steps.{Told}
use Rattle.sector_disk.specs.declared.device.Disk.{Ghosts}

-- what a disk of two shows
abbrev pub device_of : {D : Type 0} {shown : Ghosts D} → JoinedDisk D shown → disk_type
device_of disk = joined_disk (joint_in disk)

-- the bytes of the disk on which the header lies, of all that a disk of two has
abbrev pub front_of : Sizes → List ℕ → List ℕ
front_of sizes all = take (header_bytes sizes) all

-- the bytes of the disk on which both copies of the header lie: a disk of its own, or the main one
abbrev pub header_room : Sizes → ℕ
header_room sizes = if sizes.detached then header_bytes sizes else main_bytes sizes

-- the tables after some more calls, none of which changed what the atoms hold
pub record IsRead (before now : Told) : Type 0 where
  pub cells : now.now ≡ before.now
  pub mark : now.mark ≡ before.mark
  pub more : List (Option ℕ × List Cell)
  pub past : now.past ≡ before.past ++ more
  pub same : All (λ table. table.1 ≡ before.now) more

-- What one disk holds stands, and so does each table that it tells since: its calls were reads
-- alone. It may have been marked between them. Its count of faults doesn't fall.
pub record KeepsBytes (old new : disk_type) : Type 0 where
  pub size : new.size ≡ old.size
  pub atoms : new.atoms ≡ old.atoms
  pub tail : new.tail ≡ old.tail
  pub values : new.values ≡ old.values
  pub later : old.faults ≤ new.faults
  pub told : (now : Told) → new.told ≡ Some now
      → (before : Told) × (old.told ≡ Some before) × IsRead (record before { mark = now.mark }) now

-- Nothing was written to two joined disks: what both hold as one is as before, and so is each table
-- that they tell since; and what each of them holds and tells.
pub record IsUnwritten (old new : Joint) : Type 0 where
  pub size : (joined_disk new).size ≡ (joined_disk old).size
  pub atoms : (joined_disk new).atoms ≡ (joined_disk old).atoms
  pub tail : (joined_disk new).tail ≡ (joined_disk old).tail
  pub values : (joined_disk new).values ≡ (joined_disk old).values
  pub told : (now : Told) → (joined_disk new).told ≡ Some now
      → (before : Told) × ((joined_disk old).told ≡ Some before) × IsRead before now
  pub later : (joined_disk old).faults ≤ (joined_disk new).faults
  pub head : KeepsBytes old.head new.head
  pub main : KeepsBytes old.main new.main

-- A disk of these sizes whose table this is holds these bytes for certain.
pub record IsCertain (sizes : Sizes) (bytes : List ℕ) (cells : List Cell) : Type 0 where
  pub only : (place : ℕ) (value : List ℕ) → Contains (cell_in cells place).candidates value
      → value ≡ (cell_in cells place).current
  pub even : lengths (currents cells) ≡ replicate (length cells) sizes.atom
  pub holds : joined (currents cells) ≡ bytes
  pub header_atoms : sizes.header_atoms ≤ length cells

-- a read failed only where the count of the disk's faults rose
abbrev pub IsCauseOf : disk_type → disk_type → ReadFault → Type 0
IsCauseOf old new Memory = Unit {0}
IsCauseOf old new Device = Rose old.faults new.faults

abbrev pub store_fault : ReadFault → StoreFault
store_fault Memory = faults.Memory
store_fault Device = faults.Device

-- places that are whole pages of 4096 bytes, and not the first
abbrev pub are_pages : List ℕ → Bool
are_pages places = list_all (λ place. nat_lt 0 place && (place % 4096 == 0)) places
