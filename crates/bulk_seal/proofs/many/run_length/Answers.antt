use Rattle.std.proofs.Math.Nat.{mul-mod_left}
use Rattle.bulk_seal.proofs.many.run_length.Goals as goal

pub returns-clause-whole : goal.returns-clause-whole
returns-clause-whole c = mul-mod_left c.div_ceil.result c.args.atom
