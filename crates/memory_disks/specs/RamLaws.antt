-- Why the disk that tells its current bytes alone is a disk.
use Rattle.std.specs.Prelude.{ℕ, ◌≡◌, ◌*◌, ◌<◌, List, length, slice_index, Some}
use Rattle.sector_disk.specs.Geometry.{is_atom-true, IsDisk}
use Rattle.memory_disks.specs.declared.ram_disk.RamDisk.{RamDisk}

pub ram_geometry : (d : RamDisk) → IsDisk d.atom d.atoms
ram_geometry d = record { known = is_atom-true d.atom d.known; fits = d.fits }

pub ram_whole : (d : RamDisk) (bytes : List ℕ) → Some d.bytes.items ≡ Some bytes
    → length bytes ≡ d.atoms * d.atom
ram_whole d bytes is = let e : d.bytes.items ≡ bytes = cc in rw (← e) d.whole

pub ram_bytes : (d : RamDisk) (bytes : List ℕ) → Some d.bytes.items ≡ Some bytes
    → (k : ℕ) → slice_index bytes k < 256
ram_bytes d bytes is = let e : d.bytes.items ≡ bytes = cc in rw (← e) d.are_bytes
