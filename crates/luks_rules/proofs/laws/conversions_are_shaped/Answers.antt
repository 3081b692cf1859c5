use Rattle.luks_rules.proofs.ShapeLemmas.{shaped, from_shaped}
use Rattle.luks_rules.proofs.laws.conversions_are_shaped.Goals as goal

pub returns : goal.returns
returns c =
    λ m sizes p some busy. (shaped m sizes p busy, λ is. from_shaped m sizes p is.0 some busy is.1)
