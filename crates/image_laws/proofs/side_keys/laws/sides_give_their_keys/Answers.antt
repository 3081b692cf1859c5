use Rattle.image_laws.proofs.Sides.KeyLemmas.{one-key, sides-give}
use Rattle.image_laws.proofs.side_keys.laws.sides_give_their_keys.Goals as goal

pub returns : goal.returns
returns _ = record { keys = one-key; given = sides-give }
