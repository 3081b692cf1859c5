use Rattle.volume_laws.proofs.BesideServing.Stops.{stops_anywhere}
use Rattle.volume_laws.proofs.served_beside.laws.deeds_stop_anywhere.Goals as goal

pub returns : goal.returns
returns g c = λ reading start seals. stops_anywhere reading start seals
    (c.every_conversion_is_served.ensures reading start seals)
    (c.conversions_stand_where_they_stop.ensures.stops reading start seals)
