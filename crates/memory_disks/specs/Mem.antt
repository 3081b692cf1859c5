-- What callers see of the disk in memory that tells its tables.
use Rattle.std.specs.Prelude.{ℕ, ◌/◌, List, length, Some}
use Rattle.memory_disks.specs.Calls.{table, tables}
use Rattle.sector_disk.specs.Devices.{Device}
use Rattle.memory_disks.specs.Faults.{Limits}
use Rattle.sector_disk.specs.Steps.{Told}
use Rattle.memory_disks.specs.declared.mem_disk.MemDisk.{MemDisk}

-- an atom's bytes
abbrev pub atom_of : MemDisk → ℕ
atom_of disk = disk.atom

-- how many atoms there are
abbrev pub atoms_of : MemDisk → ℕ
atoms_of disk = disk.atoms

-- how many bytes lie behind the last whole atom
abbrev pub tail_of : MemDisk → ℕ
tail_of disk = disk.tail

-- how many atoms some bytes fill
abbrev pub atoms_in : MemDisk → List ℕ → ℕ
atoms_in disk bytes = length bytes / disk.atom

-- the current bytes
abbrev pub bytes_of : MemDisk → List ℕ
bytes_of disk = disk.bytes.items

-- the tables after its device calls
abbrev pub told_of : MemDisk → Told
told_of disk = record {
  now = table disk.atom disk.atoms disk.start.items disk.calls.calls;
  past = tables disk.atom disk.atoms disk.start.items disk.calls.calls;
  mark = Some disk.mark;
}

-- what decides whether its device calls fail
abbrev pub limits_of : MemDisk → Limits
limits_of disk =
    record { plan = disk.plan; stop = disk.stop; room = disk.calls.room; used = disk.calls.used }

-- what the disk shows
abbrev pub device_of : MemDisk → Device
device_of disk = record {
  size = disk.atom;
  atoms = disk.atoms;
  tail = disk.tail;
  values = Some disk.bytes.items;
  told = Some (told_of disk);
  faults = disk.plan.faults;
}
