use Rattle.std.proofs.Common.{◌≡◌, ◌∙◌, ◌≤◌, ◌<◌, ◌+◌, ℕ, List, length, get_or, take, cond, sym, ap}
use Rattle.std.proofs.Common.{arith, length-take}
use Rattle.std.proofs.lemmas.Grind.{common_steps}
use Rattle.std.proofs.lemmas.List.Sums.{sum_by_more, count_by-le-length}
use Rattle.std.specs.List.{sum_by}
use Rattle.luks_meta.specs.declared.digest.Digest.{Digest}
use Rattle.luks_rules.specs.References.{times_listed, lists}
use Rattle.luks_rules.proofs.references.count_listings.Goals as goal

fewer : (ds : List (ℕ × Digest)) (i n : ℕ) → times_listed (take i ds) n ≤ i
unfolding times_listed
fewer ds i n =
    omega (
      arith,
      count_by-le-length (λ (d : ℕ × Digest). lists d.1.segments n) (take i ds),
      length-take i ds,
    )

more : (ds : List (ℕ × Digest)) (i n : ℕ) (d : ℕ × Digest) → i < length ds → d ≡ get_or ds i d
    → times_listed (take (i + 1) ds) n
    ≡ times_listed (take i ds) n + cond (lists d.1.segments n) 1 0
unfolding times_listed
more ds i n d h at =
    sum_by_more (λ (d : ℕ × Digest). cond (lists d.1.segments n) 1 0) ds i d h
    ∙ ap (λ (e : ℕ × Digest). sum_by (λ (d : ℕ × Digest). cond (lists d.1.segments n) 1 0)
    (take i ds) + cond (lists e.1.segments n) 1 0) (sym at)

pub loop-digest-init : goal.loop-digest-init
unfolding times_listed
loop-digest-init c = λ n. grind (arith, common_steps)

pub count_once-requires : goal.count_once-requires
count_once-requires c =
    λ n. omega
    (arith, c.loop-digest.invariant n, fewer c.args.digests.now c.loop-digest.digest-index n)

pub loop-digest-preserved : goal.loop-digest-preserved
loop-digest-preserved c = λ n.
    let added =
    more c.args.digests.now c.loop-digest.digest-index n c.digest-item.result
    c.loop-digest-test.true c.digest-item.is in
    let own = ap {B = ℕ} (λ (xs : List ℕ). cond (lists xs n) 1 0) c.as_slice.ensures in
    omega (arith, c.in_ok-count_once.ensures n, c.loop-digest.invariant n, added, own)
