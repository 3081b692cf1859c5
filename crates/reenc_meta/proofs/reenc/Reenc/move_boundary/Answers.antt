use Rattle.std.proofs.Common.{arith}
use Rattle.reenc_meta.proofs.GoLemmas.{under-way}
use Rattle.reenc_meta.proofs.StepLemmas.{main-few}
use Rattle.reenc_meta.proofs.reenc.Reenc.move_boundary.Goals as goal

pub plan_moved-requires-clause-fits : goal.plan_moved-requires-clause-fits
plan_moved-requires-clause-fits c =
    let sizes = c.args.self.now.valid.now.sizes in
    let way = under-way c.args.self.now.valid.now.meta sizes c.args.self.now.progress
    c.is_sound.ensures c.args.self.now.known (main-few sizes c.args.self.now.fits) in
    let few = way.few in
    omega (arith, few)
