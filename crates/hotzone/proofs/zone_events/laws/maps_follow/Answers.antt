use Rattle.hotzone.proofs.ZoneEvents.FollowLemmas.{maps-follow}
use Rattle.hotzone.proofs.zone_events.laws.maps_follow.Goals as goal

pub returns : goal.returns
returns g c = maps-follow g.C.SectorCipher.sector
