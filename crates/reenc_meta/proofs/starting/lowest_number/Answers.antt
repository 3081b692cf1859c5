use Rattle.std.proofs.Common.{◌+◌, arith, ap, refl}
use Rattle.reenc_meta.specs.Starts.{lowest_free}
use Rattle.reenc_meta.proofs.FreeNumberLemmas.{free-found, free-last, free-next}
use Rattle.reenc_meta.proofs.starting.lowest_number.Goals as goal

pub loop-entry-init : goal.loop-entry-init
loop-entry-init g c = (refl, refl)

pub returns-then-entry-lowest-clause-is : goal.returns-then-entry-lowest-clause-is
returns-then-entry-lowest-clause-is g c =
    free-found c.args.entries.now c.loop-entry.entry-index c.loop-entry.lowest
    (lowest_free c.args.entries.now) c.loop-entry.invariant.1 c.entry-item.result
    c.loop-entry-test.true c.entry-item.is c.if-entry-lowest.true

pub returns-then-entry-lowest-clause-within : goal.returns-then-entry-lowest-clause-within
returns-then-entry-lowest-clause-within g c =
    let at = c.loop-entry.invariant.0 in
    let below = c.loop-entry-test.true in
    omega (arith, at, below)

pub returns-then-entry-lowest-clause-few : goal.returns-then-entry-lowest-clause-few
returns-then-entry-lowest-clause-few g c =
    let is = returns-then-entry-lowest-clause-is g c in
    let fits = c.loop-entry.auto.lowest-fits in
    omega (arith, is, fits)

pub loop-entry-preserved : goal.loop-entry-preserved
loop-entry-preserved g c = (
  ap (λ n. n + 1) c.loop-entry.invariant.0,
  free-next c.args.entries.now c.loop-entry.entry-index c.loop-entry.lowest
      (lowest_free c.args.entries.now) c.loop-entry.invariant.1 c.entry-item.result
      c.loop-entry-test.true c.entry-item.is c.if-entry-lowest.false,
)

pub returns-clause-is : goal.returns-clause-is
returns-clause-is g c =
    free-last c.args.entries.now c.loop-entry.entry-index c.loop-entry.lowest
    (lowest_free c.args.entries.now) c.loop-entry.invariant.1 c.loop-entry-test.false

pub returns-clause-within : goal.returns-clause-within
returns-clause-within g c =
    let at = c.loop-entry.invariant.0 in
    let end = c.loop-entry.auto.entry-index-end in
    omega (arith, at, end)

pub returns-clause-few : goal.returns-clause-few
returns-clause-few g c =
    let is = returns-clause-is g c in
    let fits = c.loop-entry.auto.lowest-fits in
    omega (arith, is, fits)
