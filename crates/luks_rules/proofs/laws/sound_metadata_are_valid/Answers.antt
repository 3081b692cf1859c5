use Rattle.luks_rules.proofs.ValidLemmas.{valid}
use Rattle.luks_rules.proofs.laws.sound_metadata_are_valid.Goals as goal

pub returns : goal.returns
returns c = valid
