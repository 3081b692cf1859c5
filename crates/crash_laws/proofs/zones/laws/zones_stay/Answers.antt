use Rattle.crash_laws.proofs.HotZones.ZoneFrames.{zone_stays}
use Rattle.crash_laws.proofs.zones.laws.zones_stay.Goals as goal

pub returns : goal.returns
returns c =
    λ atom layout zone texts phase broken old new. zone_stays atom layout zone texts phase broken
    old new
