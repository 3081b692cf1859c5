use Rattle.std.proofs.Common.{◌≡◌, ◌++◌, map, take, string_bytes}
use Rattle.header_report.specs.Reports.{slot_line, text_of_lines}
use Rattle.header_report.proofs.text.add_slots.Given as goal

abbrev pub invariant-loop-slot : goal.invariant-loop-slot
invariant-loop-slot l = string_bytes l.report
    ≡ string_bytes l.initial.report ++ text_of_lines (map slot_line (take l.slot-index l.slots))
