use Rattle.resil_checksum.specs.Digests.{AreDigests}
use Rattle.resil_checksum.proofs.digests.digest_front.Given as goal

-- the digests of the first i atoms are there
abbrev pub invariant-loop-i : goal.invariant-loop-i
invariant-loop-i l = AreDigests l.atom l.i l.old l.out
