use Rattle.std.proofs.Common.{◌≡◌, ◌∙◌, ◌<◌, ◌+◌, ◌-◌, ℕ, List, length, get_or, take, ap, arith}
use Rattle.std.specs.List.{sum_by}
use Rattle.std.proofs.lemmas.List.Sums.{sum_by_more}
use Rattle.luks_meta.specs.declared.segment.Segment.{Segment}
use Rattle.luks_rules.specs.Segments.{live_bytes}
use Rattle.luks_rules.proofs.segments.lacks_block.Goals as goal

taken : (f : ℕ × Segment → ℕ) (xs : List (ℕ × Segment)) (i : ℕ) (x : ℕ × Segment)
    (atom before bytes after : ℕ) → i < length xs → x ≡ get_or xs i x → bytes ≡ f x
    → before ≡ atom - sum_by f (take i xs) → after ≡ before - bytes
    → after ≡ atom - sum_by f (take (i + 1) xs)
taken f xs i x atom before bytes after h at is left now =
    let more : sum_by f (take (i + 1) xs) ≡ sum_by f (take i xs) + f (get_or xs i x) =
    sum_by_more f xs i x h in
    let same : bytes ≡ f (get_or xs i x) = is ∙ ap f at in
    omega arith

pub loop-segment-preserved : goal.loop-segment-preserved
loop-segment-preserved c =
    taken (λ (s : ℕ × Segment). live_bytes c.args.progress c.args.sizes.now s.1) c.args.segments.now
    c.loop-segment.segment-index c.segment-item.result c.args.sizes.now.atom c.loop-segment.missing
    c.bytes_if_live.result c.saturating_sub-missing.result c.loop-segment-test.true
    c.segment-item.is c.bytes_if_live.ensures c.loop-segment.invariant
    c.saturating_sub-missing.ensures
