use Rattle.std.proofs.Common.{refl, arith, rules}
use Rattle.io_edge.specs.Calls.{ReadsInVain, ReadsOn}
use Rattle.io_edge.proofs.ReadLemmas.{in_vain_more}
use Rattle.io_edge.proofs.input_stream.read_uninterrupted.Goals as goal

pub loop-init : goal.loop-init
unfolding ReadsInVain
loop-init g c = refl

pub loop-preserved : goal.loop-preserved
loop-preserved g c =
    in_vain_more g.R.InputStream.reads c.loop.counter _ c.loop.reader _ _ c.read_some.result
    c.loop.invariant (search rules) c.read_some.ensures.reads

pub returns-in-Ok-clause-reads : goal.returns-in-Ok-clause-reads
unfolding ReadsOn
returns-in-Ok-clause-reads g c = (
  c.loop.counter,
  c.loop.reader,
  c.loop.invariant,
  c.in-Ok.ensures.reads,
  λ interrupted. absurd interrupted,
)

pub returns-then-ne-clause-reads : goal.returns-then-ne-clause-reads
unfolding ReadsOn
returns-then-ne-clause-reads g c = (
  c.in-Err.error,
  (
    c.loop.counter,
    c.loop.reader,
    c.loop.invariant,
    c.in-Err.ensures.reads,
    λ interrupted. absurd (search (rules, interrupted)),
  ),
)

pub returns-in-Ok-read_some-clause-reads : goal.returns-in-Ok-read_some-clause-reads
unfolding ReadsOn
returns-in-Ok-read_some-clause-reads g c = (
  c.loop.counter,
  c.loop.reader,
  c.loop.invariant,
  c.in-Ok-read_some.ensures.reads,
  λ interrupted. absurd interrupted,
)

pub returns-in-Err-read_some-clause-reads : goal.returns-in-Err-read_some-clause-reads
unfolding ReadsOn
returns-in-Err-read_some-clause-reads g c = (
  c.in-Err-read_some.field-0,
  (
    c.loop.counter,
    c.loop.reader,
    c.loop.invariant,
    c.in-Err-read_some.ensures.reads,
    λ interrupted. omega arith,
  ),
)
