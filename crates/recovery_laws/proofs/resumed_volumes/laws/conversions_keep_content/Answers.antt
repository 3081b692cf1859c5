use Rattle.recovery_laws.proofs.Resumed.RunLemmas.{conversions-keep, stops-keep}
use Rattle.recovery_laws.proofs.resumed_volumes.laws.conversions_keep_content.Goals as goal

pub returns : goal.returns
returns g c =
    let serves = c.every_conversion_is_served.ensures in
    let now = c.conversions_stand_where_they_stop.ensures.now in
    let stops = c.conversions_stand_where_they_stop.ensures.stops in
    record {
      finished = conversions-keep serves now stops;
      stops = stops-keep serves now stops;
    }
