use Rattle.std.proofs.Common.{◌≡◌, drop}
use Rattle.serde_json.specs.View.{items_view}
use Rattle.luks_json.specs.Configs.{any_foreign_item}
use Rattle.luks_json.proofs.config.any_asks_for_something_else.Given as goal

abbrev pub invariant-loop-value : goal.invariant-loop-value
invariant-loop-value l =
    any_foreign_item (items_view (drop l.value-index l.values))
    ≡ any_foreign_item (items_view l.values)
