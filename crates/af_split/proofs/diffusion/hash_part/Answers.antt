use Rattle.std.proofs.Common.{◌∙◌, refl}
use Rattle.af_split.specs.Af.{hashed_part}
use Rattle.af_split.proofs.diffusion.hash_part.Goals as goal

pub returns : goal.returns
unfolding hashed_part
returns c = c.copy_from_slice.ensures.after ∙ rw (c.digest.ensures, c.to_be_bytes.ensures) refl
