use Rattle.std.proofs.Common.{◌≡◌, drop}
use Rattle.reenc_meta.specs.Starts.{lowest_free, lowest_from}
use Rattle.reenc_meta.proofs.starting.lowest_number.Given as goal

abbrev pub invariant-loop-entry : goal.invariant-loop-entry
invariant-loop-entry g l =
    (l.lowest ≡ l.entry-index)
    × (lowest_from l.lowest (drop l.entry-index l.entries) ≡ lowest_free l.entries)
