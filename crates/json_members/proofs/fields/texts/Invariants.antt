use Rattle.std.proofs.Common.{◌≡◌, drop}
use Rattle.serde_json.specs.View.{items_view}
use Rattle.json_members.specs.Fields.{each_item, text_item}
use Rattle.json_members.proofs.LoopLemmas.{after}
use Rattle.json_members.proofs.fields.texts.Given as goal

abbrev pub invariant-loop-i : goal.invariant-loop-i
invariant-loop-i l =
    after l.found.items (each_item text_item l.path l.i (items_view (drop l.i l.values)))
    ≡ each_item text_item l.path 0 (items_view l.values)
