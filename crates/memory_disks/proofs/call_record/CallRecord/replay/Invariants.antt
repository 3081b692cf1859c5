use Rattle.std.proofs.Common.{◌≡◌, length, drop}
use Rattle.memory_disks.specs.Calls.{last_table}
use Rattle.memory_disks.specs.Notes.{calls_of, noted_bytes}
use Rattle.memory_disks.proofs.call_record.CallRecord.replay.Given as goal

abbrev pub invariant-loop-note : goal.invariant-loop-note
invariant-loop-note l = record {
  left : last_table l.self-inside.atom l.cells
      (calls_of (drop l.note-index l.self-inside.notes.items) l.rest)
      ≡ last_table l.self-inside.atom l.initial.cells
      (calls_of l.self-inside.notes.items l.self-inside.log.items);
  enough : length l.rest ≡ noted_bytes (drop l.note-index l.self-inside.notes.items);
}
