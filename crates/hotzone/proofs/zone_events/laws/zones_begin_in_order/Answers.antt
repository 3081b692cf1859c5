use Rattle.hotzone.proofs.ZoneEvents.OrderLemmas.{begins-in-order}
use Rattle.hotzone.proofs.zone_events.laws.zones_begin_in_order.Goals as goal

pub returns : goal.returns
returns g c = begins-in-order g.C.SectorCipher.sector
