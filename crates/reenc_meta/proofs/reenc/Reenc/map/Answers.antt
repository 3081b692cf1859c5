use Rattle.std.proofs.Common.{rules}
use Rattle.reenc_meta.proofs.StepLemmas.{main-few, reads-off}
use Rattle.reenc_meta.proofs.reenc.Reenc.map.Goals as goal

pub returns-clause-live : goal.returns-clause-live
returns-clause-live c =
    reads-off c.args.self.now.valid.now.meta c.args.self.now.valid.now.sizes
    c.args.self.now.progress _ c.is_sound.ensures c.args.self.now.known
    (main-few c.args.self.now.valid.now.sizes c.args.self.now.fits) (search rules)
