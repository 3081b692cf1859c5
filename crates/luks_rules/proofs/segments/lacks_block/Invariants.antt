use Rattle.std.proofs.Common.{◌≡◌, ◌-◌, take}
use Rattle.std.specs.List.{sum_by}
use Rattle.luks_rules.specs.Segments.{live_bytes}
use Rattle.luks_rules.proofs.segments.lacks_block.Given as goal

abbrev pub invariant-loop-segment : goal.invariant-loop-segment
invariant-loop-segment l =
    l.missing
    ≡ l.sizes.atom
    - sum_by (λ s. live_bytes l.progress l.sizes s.1) (take l.segment-index l.segments)
