use Rattle.std.proofs.Common.{◌≡◌}
use Rattle.af_split.specs.Af.{chain}
use Rattle.af_split.proofs.diffusion.put_chain.Given as goal

abbrev pub invariant-stripes : goal.invariant-stripes
invariant-stripes l = l.last ≡ chain l.hash l.size l.stripes l.k
