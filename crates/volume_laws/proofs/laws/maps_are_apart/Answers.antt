use Rattle.volume_laws.proofs.Places.{forward_apart, backward_apart}
use Rattle.volume_laws.proofs.laws.maps_are_apart.Goals as goal

pub returns : goal.returns
returns c = record { forward = forward_apart; backward = backward_apart }
