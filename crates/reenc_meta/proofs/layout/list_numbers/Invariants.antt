use Rattle.std.proofs.Common.{◌≡◌, ◌++◌, drop}
use Rattle.reenc_meta.specs.Layouts.{numbers_under}
use Rattle.reenc_meta.proofs.layout.list_numbers.Given as goal

abbrev pub invariant-loop-side : goal.invariant-loop-side
invariant-loop-side l =
    record {
      counted : l.number ≡ l.side-index;
      listed : l.numbers.items ++ numbers_under l.new l.number (drop l.side-index l.sides)
          ≡ numbers_under l.new 0 l.sides;
    }
