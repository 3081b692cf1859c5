-- What operations ask for: their blocks, how they lock them, and which are wrong.
use Rattle.std.specs.Prelude.{ℕ, ◌≡◌, ◌/◌, ◌<◌, true, Bool, false, Option, Some, None, nat_lt}
use Rattle.std.specs.Prelude.{if◌then◌else◌}
use Rattle.base_terms.specs.ErrorNumbers.{invalid, no_space}
use Rattle.base_terms.specs.declared.block_range.BlockRange.{BlockRange}
use Rattle.plain_disk.specs.Operations.{touched_end, wrong_range_of}
use Rattle.range_lock.specs.declared.Kind.{Kind}
use Rattle.range_lock.specs.declared.Kind.TheVariants.{Shared, Alone}
use Rattle.range_lock.specs.declared.Entry.{Entry}
use Rattle.volume_machine.specs.declared.ask.Ask.{Ask}
use Rattle.volume_machine.specs.declared.ask.Ask.TheVariants.{Read, Write, Flush}

-- the blocks that it reads or writes, also in part
abbrev pub range_of : ℕ → Ask → BlockRange
range_of atom (Read offset len) =
    record { start = offset / atom; end = touched_end atom offset len }
range_of atom (Write offset len fua) =
    record { start = offset / atom; end = touched_end atom offset len }
range_of atom Flush = record { start = 0; end = 0 }

-- the offset from which on it reads or writes
abbrev pub offset_of : Ask → ℕ
offset_of (Read offset len) = offset
offset_of (Write offset len fua) = offset
offset_of Flush = 0

-- a read has its blocks with others, a write for itself
abbrev pub kind_of : Ask → Kind
kind_of (Read offset len) = Shared
kind_of (Write offset len fua) = Alone
kind_of Flush = Shared

-- whether it has an entry in the table of locks; a flush has none
abbrev pub has_lock : Ask → Bool
has_lock (Read offset len) = true
has_lock (Write offset len fua) = true
has_lock Flush = false

-- the number with which it is refused on a volume of `size` bytes in blocks of `atom`
abbrev pub wrong_ask : ℕ → ℕ → Ask → Option ℕ
wrong_ask atom size (Read offset len) =
    if nat_lt 33554432 len then Some invalid else wrong_range_of atom size offset len invalid
wrong_ask atom size (Write offset len fua) = wrong_range_of atom size offset len no_space
wrong_ask atom size Flush = None

abbrev pub IsRead : Ask → Type 0
IsRead (Read offset len) = Unit {0}
IsRead _ = ⊥

abbrev pub IsWrite : Ask → Type 0
IsWrite (Write offset len fua) = Unit {0}
IsWrite _ = ⊥

-- a write of some bytes that is done once they are certain to be kept
abbrev pub IsForced : Ask → Type 0
IsForced (Write offset len fua) = (fua ≡ true) × (0 < len)
IsForced _ = ⊥

-- a lane's entry in the table of locks
abbrev pub entry_of : ℕ → ℕ → Ask → Entry
entry_of atom lane ask = record { lane = lane; range = range_of atom ask; kind = kind_of ask }
