use Rattle.std.proofs.Common.{◌≡◌, take, map, decimal}
use Rattle.serde_json.specs.Data.{string}
use Rattle.serde_json.specs.View.{view}
use Rattle.json_members.proofs.writing.decimal_values.Given as goal

abbrev pub invariant-loop-number : goal.invariant-loop-number
invariant-loop-number l =
    map view l.values.items ≡ map (λ n. string (decimal n)) (take l.number-index l.numbers)
