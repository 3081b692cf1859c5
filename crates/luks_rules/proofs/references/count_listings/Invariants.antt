use Rattle.std.proofs.Common.{◌≡◌, ℕ, take, nat_cmp, unwrap_or}
use Rattle.std.specs.BTreeMap as map
use Rattle.luks_rules.specs.References.{times_listed}
use Rattle.luks_rules.proofs.references.count_listings.Given as goal

abbrev pub invariant-loop-digest : goal.invariant-loop-digest
invariant-loop-digest l =
    (n : ℕ) → unwrap_or (map.get nat_cmp l.counts n) 0
    ≡ times_listed (take l.digest-index l.digests) n
