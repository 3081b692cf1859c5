use Rattle.std.proofs.Common.{◌≡◌, ◌∙◌, ◌+◌, ◌-◌, ◌*◌, refl, add-one, length, arith}
use Rattle.af_split.specs.Af.{chain}
use Rattle.af_split.proofs.diffusion.put_chain.Goals as goal

pub stripes-init : goal.stripes-init
unfolding chain
stripes-init c = c.fill.ensures.after (λ y is. is)

pub stripes-preserved : goal.stripes-preserved
unfolding chain
stripes-preserved c =
    let cut : c.stripes.k * length c.args.last.now
    + length c.args.last.now - c.stripes.k * length c.args.last.now ≡ length c.args.last.now =
    omega arith in
    rw (add-one, ← c.stripes.invariant) (c.diffuse.ensures ∙ rw (c.xor_into.ensures, cut) refl)

pub returns : goal.returns
returns c =
    let end : c.stripes.k ≡ c.args.count = omega arith in
    rw end at c.stripes.invariant
