-- Operations: what they mean, the blocks that they touch, and with which numbers they are refused.
use Rattle.std.specs.Prelude.{ℕ, suc, ◌+◌, ◌-◌, ◌/◌, ◌%◌, not, ◌==◌, ◌||◌, nat_lt, if◌then◌else◌}
use Rattle.std.specs.Prelude.{length, Option, Some, None, replicate}
use Rattle.base_terms.specs.ErrorNumbers.{invalid, no_space}
use Rattle.plain_disk.specs.declared.operation.Op.{Op}
use Rattle.plain_disk.specs.declared.operation.Op.TheVariants.{Read, Write, Zeroes, Flush}

-- what an operation means to the disk: zeroes are the write of so many zero bytes
abbrev pub meaning_of : Op → Op
meaning_of (Read offset len) = Read offset len
meaning_of (Write offset body fua) = Write offset body fua
meaning_of (Zeroes offset len fua) = Write offset (replicate len 0) fua
meaning_of Flush = Flush

-- the block behind the last one of which a range has a byte; a range of no bytes touches none
unfoldable pub touched_end : ℕ → ℕ → ℕ → ℕ
touched_end atom offset len =
    if len == 0 then offset / atom else suc ((offset + len - 1) / atom)

-- how many blocks a range touches, from that of its first byte on
abbrev pub touched : ℕ → ℕ → ℕ → ℕ
touched atom offset len = touched_end atom offset len - offset / atom

-- a range that isn't of whole blocks, or passes the end of `size` bytes
abbrev pub wrong_range_of : ℕ → ℕ → ℕ → ℕ → ℕ → Option ℕ
wrong_range_of atom size offset len past =
    if not (offset % atom == 0) || not (len % atom == 0) then Some invalid
    else (if nat_lt size (offset + len) then Some past else None)

-- the number with which an operation is refused; a flush never is
abbrev pub wrong_of : ℕ → ℕ → Op → Option ℕ
wrong_of atom size (Read offset len) =
    if nat_lt 33554432 len then Some invalid else wrong_range_of atom size offset len invalid
wrong_of atom size (Write offset body fua) = wrong_range_of atom size offset (length body) no_space
wrong_of atom size (Zeroes offset len fua) = wrong_range_of atom size offset len no_space
wrong_of atom size Flush = None

-- the operation takes memory: a read, for its content
abbrev pub TakesMemory : Op → Type 0
TakesMemory (Read offset len) = Unit {0}
TakesMemory (Write offset body fua) = ⊥
TakesMemory (Zeroes offset len fua) = ⊥
TakesMemory Flush = ⊥
