use Rattle.std.proofs.Common.{arith, ap, slice_index}
use Rattle.io_edge.proofs.SupplyLemmas.{set_more, next_more}
use Rattle.io_edge.specs.Memory.{round_from}
use Rattle.io_edge.proofs.seeds.fill_round.Goals as goal

pub loop-byte-preserved : goal.loop-byte-preserved
loop-byte-preserved c = record {
  inside = omega arith;
  next = next_more c.args.at _ _ _ c.loop-byte.invariant.next;
  round = set_more _ _ _ (round_from c.args.bytes.now c.args.at) (omega arith)
      (ap (λ i. slice_index c.args.bytes.now i) c.loop-byte.invariant.next)
      c.loop-byte.invariant.round;
}
