-- Why the disk in memory that tells its tables is a disk.
use Rattle.std.specs.Prelude.{ℕ, ◌≡◌, ◌*◌, ◌<◌, List, length, replicate, slice_index, Some}
use Rattle.std.proofs.Common.{sym, ap}
use Rattle.base_terms.specs.Blocks.{lengths}
use Rattle.sector_disk.specs.Cells.{content, currents, AreHeld, AreSized}
use Rattle.sector_disk.specs.Geometry.{is_atom-true, IsDisk}
use Rattle.memory_disks.specs.EachCell.{held_table, sized_table}
use Rattle.memory_disks.specs.Mem.{told_of}
use Rattle.sector_disk.specs.Steps.{Told}
use Rattle.memory_disks.specs.declared.mem_disk.MemDisk.{MemDisk}

pub mem_geometry : (d : MemDisk) → IsDisk d.atom d.atoms
mem_geometry d = record { known = is_atom-true d.atom d.known; fits = d.fits }

pub mem_whole : (d : MemDisk) (bytes : List ℕ) → Some d.bytes.items ≡ Some bytes
    → length bytes ≡ d.atoms * d.atom
mem_whole d bytes is = let e : d.bytes.items ≡ bytes = cc in rw (← e) d.whole

pub mem_bytes : (d : MemDisk) (bytes : List ℕ) → Some d.bytes.items ≡ Some bytes
    → (k : ℕ) → slice_index bytes k < 256
mem_bytes d bytes is = let e : d.bytes.items ≡ bytes = cc in rw (← e) d.are_bytes

pub mem_agrees : (d : MemDisk) (t : Told) → Some (told_of d) ≡ Some t
    → Some d.bytes.items ≡ Some (content t.now)
mem_agrees d t is = let e : told_of d ≡ t = cc in rw (← e) (ap (λ text. Some text) (sym d.agrees))

pub mem_even : (d : MemDisk) (t : Told) → Some (told_of d) ≡ Some t
    → lengths (currents t.now) ≡ replicate d.atoms d.atom
mem_even d t is = let e : told_of d ≡ t = cc in rw (← e) d.even

pub mem_held : (d : MemDisk) (t : Told) → Some (told_of d) ≡ Some t → AreHeld t.now
mem_held d t is = let e : told_of d ≡ t =
    cc in rw (← e) (held_table d.atom d.atoms d.start.items d.calls.calls)

pub mem_sized : (d : MemDisk) (t : Told) → Some (told_of d) ≡ Some t → AreSized d.atom t.now
mem_sized d t is = let e : told_of d ≡ t =
    cc in rw (← e) (sized_table d.atom d.atoms d.start.items d.calls.calls d.began)
