use Rattle.crash_laws.proofs.HeaderAreas.ImagesTaken.{image_taken}
use Rattle.crash_laws.proofs.areas.laws.images_are_taken.Goals as goal

pub returns : goal.returns
returns c = λ atom size layout cells image. image_taken atom size layout cells image
