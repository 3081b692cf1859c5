use Rattle.std.proofs.Common.{◌≡◌, ◌∙◌, sym, true, get_or}
use Rattle.std.specs.Str.{bytes_eq}
use Rattle.std.specs.String.{string_bytes}
use Rattle.bays.proofs.NameLemmas.{stands_here}
use Rattle.bays.proofs.names.find_name.Goals as goal

pub returns-then-eq-clause-stands : goal.returns-then-eq-clause-stands
returns-then-eq-clause-stands g c =
    let same : bytes_eq (string_bytes
    (get_or c.args.entries.now c.loop-i.i c.index-entries-i.result).0) c.args.name.now ≡ true =
    rw (← c.as_str.ensures.value) (sym c.eq.ensures ∙ c.if-eq.true) in
    stands_here _ _ _ c.index-entries-i.result c.loop-i-test.true c.loop-i.invariant.first
    c.loop-i.invariant.others same
