use Rattle.std.proofs.Common.{◌≡◌, ◌*◌, ◌++◌, drop}
use Rattle.af_split.specs.Af.{hashed_parts}
use Rattle.af_split.proofs.diffusion.diffuse.Given as goal

-- the parts before this one are hashed, and the rest stands
abbrev pub invariant-parts : goal.invariant-parts
invariant-parts l =
    l.bytes ≡ hashed_parts l.hash l.initial.bytes l.i ++ drop (l.i * l.len) l.initial.bytes
