use Rattle.std.proofs.Common.{◌≡◌, ℕ, ◌+◌, take, nat_cmp, unwrap_or, if◌then◌else◌}
use Rattle.std.specs.BTreeMap as map
use Rattle.std.specs.BTreeSet as set
use Rattle.luks_rules.specs.References.{lists}
use Rattle.luks_rules.proofs.references.count_once.Given as goal

abbrev pub invariant-loop-number : goal.invariant-loop-number
invariant-loop-number l = record {
  seen : (n : ℕ) → set.contains nat_cmp l.seen n ≡ lists (take l.number-index l.numbers) n;
  counted : (n : ℕ)
      → unwrap_or (map.get nat_cmp l.counts n) 0
      ≡ unwrap_or (map.get nat_cmp l.initial.counts n) 0
      + (if lists (take l.number-index l.numbers) n then 1 else 0);
}
