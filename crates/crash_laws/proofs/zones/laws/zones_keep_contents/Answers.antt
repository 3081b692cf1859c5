use Rattle.crash_laws.proofs.HotZones.Recoveries.{zone_image_taken}
use Rattle.crash_laws.proofs.HotZones.ZoneFrames.{zone_sharp}
use Rattle.crash_laws.proofs.HotZones.ZoneImages.{zone_stands}
use Rattle.crash_laws.proofs.zones.laws.zones_keep_contents.Goals as goal

pub returns-clause-stands : goal.returns-clause-stands
returns-clause-stands c =
    λ atom atoms reader layout zone texts phase hash side handed image broken view.
    zone_stands atom atoms reader layout zone texts phase hash side handed image

pub returns-clause-now : goal.returns-clause-now
returns-clause-now c =
    λ atom layout zone texts phase view. zone_sharp atom layout zone texts phase view

pub returns-clause-taken : goal.returns-clause-taken
returns-clause-taken c =
    λ atom size layout zone cells image. zone_image_taken atom size layout zone cells image
