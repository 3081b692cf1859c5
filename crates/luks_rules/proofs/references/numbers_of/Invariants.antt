use Rattle.std.proofs.Common.{◌≡◌, ℕ, take, nat_cmp}
use Rattle.std.specs.BTreeSet as set
use Rattle.luks_rules.specs.References.{is_there}
use Rattle.luks_rules.proofs.references.numbers_of.Given as goal

abbrev pub invariant-loop-entry : goal.invariant-loop-entry
invariant-loop-entry g l =
    (n : ℕ) → set.contains nat_cmp l.numbers n ≡ is_there (take l.entry-index l.entries) n
