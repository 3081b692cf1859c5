use Rattle.luks_format.proofs.PlaceLemmas.{lowest}
use Rattle.luks_format.proofs.laws.new_volumes_take_the_lowest_place.Goals as goal

pub returns : goal.returns
returns c = λ w d atom wish known room. lowest w d atom wish known room
