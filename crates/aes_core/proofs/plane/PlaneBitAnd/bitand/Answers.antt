use Rattle.std.proofs.Common.{arith}
use Rattle.aes_core.specs.Planes.{bit_in}
use Rattle.aes_core.proofs.BitLemmas.{bit_of_products}
use Rattle.aes_core.proofs.plane.PlaneBitAnd.bitand.Goals as goal

pub returns : goal.returns
unfolding bit_in
returns c = bit_of_products c.args.self.0 c.args.other.0 (omega arith)
