use Rattle.image_laws.proofs.Made.StandLemmas.{new-stands}
use Rattle.image_laws.proofs.new_volumes.laws.new_volumes_stand.Goals as goal

pub returns : goal.returns
returns c =
    new-stands c.streams_go_on.ensures c.new_volumes_leave_the_rest.ensures
    c.new_volumes_are_written.ensures c.new_volumes_are_opened.ensures
