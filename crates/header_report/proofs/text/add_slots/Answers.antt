use Rattle.std.proofs.Common.{◌∙◌, ◌++◌, ap, rules, string_bytes}
use Rattle.header_report.specs.Reports.{slot_line}
use Rattle.header_report.proofs.LineLemmas.{none_yet, slots_more}
use Rattle.header_report.proofs.text.add_slots.Goals as goal

pub loop-slot-init : goal.loop-slot-init
loop-slot-init c = none_yet (string_bytes c.args.report.now)

pub loop-slot-preserved : goal.loop-slot-preserved
loop-slot-preserved c =
    slots_more (string_bytes c.args.report.now) (string_bytes c.loop-slot.report) _
    (string_bytes c.in_ok-line.line) c.args.slots.now c.loop-slot.slot-index c.slot-item.result
    (search rules)
    c.loop-slot.invariant (c.in_ok-line.ensures ∙ ap slot_line (search (rules, c.slot-item.is)))
    (c.in_ok-push_str.ensures.bytes
    ∙ ap (λ line. string_bytes c.loop-slot.report ++ line) c.as_str.ensures.value)
