-- The device calls of a disk in memory, and the tables that they leave.
use Rattle.std.specs.Prelude.{ℕ, ◌/◌, List, [], ◌∷◌, length, map, Option, Some}
use Rattle.base_terms.specs.Blocks.{changed, blocks_of}
use Rattle.sector_disk.specs.Cells.{Cell, sures, wrote, tried, synced}
use Rattle.memory_disks.specs.declared.call_record.Kind.{Kind}
use Rattle.memory_disks.specs.declared.call_record.Kind.TheVariants.{Read, Write, FailedWrite, Sync}

-- one device call: its kind, its first atom, the bytes that it wrote or tried to write, and the
-- number that was marked last before it
pub record Call : Type 0 where
  pub kind : Kind
  pub at : ℕ
  pub body : List ℕ
  pub mark : ℕ

-- the record of a disk's calls: an atom's bytes, how many calls and written atoms there is room
-- for, how many there are, and the calls
pub record Kept : Type 0 where
  pub atom : ℕ
  pub room : ℕ
  pub used : ℕ
  pub calls : List Call

-- a table after values were written, or tried, from atom `at` on
abbrev pub changed_by : Kind → List Cell → ℕ → List (List ℕ) → List Cell
changed_by Read cells at values = cells
changed_by Write cells at values = changed wrote cells at values
changed_by FailedWrite cells at values = changed tried cells at values
changed_by Sync cells at values = map synced cells

-- a table after a call
unfoldable pub table_after : ℕ → List Cell → Call → List Cell
table_after atom cells call = changed_by call.kind cells call.at
    (blocks_of atom (length call.body / atom) call.body)

-- a table after calls
unfoldable pub last_table : ℕ → List Cell → List Call → List Cell
last_table atom cells [] = cells
last_table atom cells (call ∷ calls) = last_table atom (table_after atom cells call) calls

-- the tables after each of the calls, each with the call's mark
unfoldable pub tables_after : ℕ → List Cell → List Call → List (Option ℕ × List Cell)
tables_after atom cells [] = []
tables_after atom cells (call ∷ calls) =
    (Some call.mark, table_after atom cells call)
    ∷ tables_after atom (table_after atom cells call) calls

-- the table of a disk of so many atoms that began with this content, after calls
unfoldable pub table : ℕ → ℕ → List ℕ → List Call → List Cell
table atom atoms start calls = last_table atom (sures (blocks_of atom atoms start)) calls

-- its tables after each of the calls
unfoldable pub tables : ℕ → ℕ → List ℕ → List Call → List (Option ℕ × List Cell)
tables atom atoms start calls = tables_after atom (sures (blocks_of atom atoms start)) calls
