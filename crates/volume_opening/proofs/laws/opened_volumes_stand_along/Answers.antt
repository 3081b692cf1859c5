use Rattle.volume_opening.proofs.AlongLemmas.{stands_along}
use Rattle.volume_opening.proofs.laws.opened_volumes_stand_along.Goals as goal

pub returns : goal.returns
returns g c =
    λ device pass first lanes volume run by told is_run.
    stands_along g.C.SectorCipher.sector g.C.SectorCipher.sealed g.C.SectorCipher.opened device pass
    first lanes volume by told (c.runs_leave_the_rest.ensures volume)
    (c.failures_go_by_events.ensures.along volume) c.keys_are_in_areas.ensures
    c.headers_stand_in_front.ensures.loads c.headers_stand_in_front.ensures.areas run is_run
