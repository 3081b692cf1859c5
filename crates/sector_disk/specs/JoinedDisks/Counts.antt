-- What callers see of two joined disks besides what they show as one: both disks, the count of
-- calls, and the sizes that a header is judged by.
use Rattle.std.specs.Prelude.{◌≡◌, ◌+◌, ◌<◌, ◌≤◌, min, Bool, false, if◌then◌else◌, IsSome, is_some}
use Rattle.base_terms.specs.declared.disk_sizes.Sizes.{Sizes}
use Rattle.sector_disk.specs.Devices.{Device}
use Rattle.sector_disk.specs.declared.device.Disk.{Ghosts}
use Rattle.sector_disk.specs.JoinedDisks.Joined.{Joint, joint_of, last_call, shown_told}
use Rattle.sector_disk.specs.declared.joined.joined.JoinedDisk.{JoinedDisk}

-- both disks, by what each of them shows
abbrev pub joint_in : {D : Type 0} {shown : Ghosts D} → JoinedDisk D shown → Joint
joint_in {D} {shown} disk =
    joint_of shown.device disk.atom disk.head_was.value disk.main_was.value disk.head disk.main
    disk.used disk.calls

-- whether there is a head
abbrev pub has_head : {D : Type 0} {shown : Ghosts D} → JoinedDisk D shown → Bool
has_head disk = is_some disk.head

-- the sizes of the disk of the header and of the main disk: of one disk where there is no head
abbrev pub sizes_of : {D : Type 0} {shown : Ghosts D} → JoinedDisk D shown → Sizes
sizes_of disk = record {
  atom = disk.atom;
  header_atoms = if is_some disk.head then disk.base else disk.used;
  main_atoms = disk.used;
  detached = is_some disk.head;
}

-- A disk of these sizes: the atoms of the main disk, and before them those of a header's disk that
-- is one of its own, are all that it has.
pub record HasSizes (sizes : Sizes) (device : Device) : Type 0 where
  pub atom : sizes.atom ≡ device.size
  pub header : sizes.header_atoms ≤ device.atoms
  pub main : sizes.main_atoms ≤ device.atoms
  pub all : (if sizes.detached then sizes.header_atoms else 0) + sizes.main_atoms ≡ device.atoms
  pub alone : sizes.detached ≡ false → sizes.header_atoms ≡ sizes.main_atoms

-- One device call more was counted, and what the disks were when they were joined stands. Below the
-- full count a disk with a head of atoms that told its tables tells them after it.
pub record Counts (old new : Joint) : Type 0 where
  pub calls : new.calls ≡ min (old.calls + 1) last_call
  pub used : new.used ≡ old.used
  pub head_was : new.head_was ≡ old.head_was
  pub main_was : new.main_was ≡ old.main_was
  pub tells : 0 < old.head.atoms → new.calls < last_call → IsSome (shown_told old)
      → IsSome (shown_told new)
