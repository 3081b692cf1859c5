use Rattle.hotzone.proofs.ZoneEvents.PlanLemmas.{zones-planned}
use Rattle.hotzone.proofs.zone_events.laws.zones_are_planned.Goals as goal

pub returns : goal.returns
returns g c = zones-planned g.C.SectorCipher.sector
