use Rattle.crash_laws.proofs.HeaderAreas.TextsHanded.{opening_dated}
use Rattle.crash_laws.proofs.areas.laws.openings_are_dated.Goals as goal

pub returns : goal.returns
returns c = λ reader bytes header to. opening_dated reader bytes header to
