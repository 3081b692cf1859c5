use Rattle.volume_laws.proofs.BesideConverted.Newest.{hold-newest}
use Rattle.volume_laws.proofs.converted_beside.laws.conversions_end_beside_clients.Goals as goal

pub returns : goal.returns
returns g c =
    hold-newest c.every_conversion_is_served.ensures
    c.conversions_stand_where_they_stop.ensures.now
