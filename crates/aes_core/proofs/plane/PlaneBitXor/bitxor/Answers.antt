use Rattle.std.proofs.Common.{arith}
use Rattle.aes_core.specs.Planes.{bit_in}
use Rattle.aes_core.proofs.BitLemmas.{bit_of_sums}
use Rattle.aes_core.proofs.plane.PlaneBitXor.bitxor.Goals as goal

pub returns : goal.returns
unfolding bit_in
returns c = bit_of_sums c.args.self.0 c.args.other.0 (omega arith)
