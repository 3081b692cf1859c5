use Rattle.crash_laws.proofs.HotZones.SameTexts.{zone_same}
use Rattle.crash_laws.proofs.zones.laws.zones_are_told_by_atoms.Goals as goal

pub returns : goal.returns
returns c =
    λ atom layout zone texts next phase broken view. zone_same atom layout zone texts next phase
    broken view
