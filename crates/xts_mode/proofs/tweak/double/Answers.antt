use Rattle.xts_mode.proofs.TweakLemmas.{doubled_is}
use Rattle.xts_mode.proofs.tweak.double.Goals as goal

pub returns : goal.returns
returns c = doubled_is c.args.tweak c.ranges.tweak.fits
