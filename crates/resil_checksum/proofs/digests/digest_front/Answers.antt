use Rattle.std.proofs.Common.{◌≡◌, ◌∙◌, ◌+◌, ◌-◌, ◌*◌, ◌≤◌, ap, arith, length, take, drop}
use Rattle.resil_checksum.proofs.DigestLemmas.{digests-next}
use Rattle.resil_checksum.proofs.digests.digest_front.Goals as goal
use Rattle.sha2.specs.Sha256.{sha256}

pub loop-i-preserved : goal.loop-i-preserved
loop-i-preserved c =
    let atom = c.args.atom in
    let k = c.loop-i.i in
    let within : k * 32 ≤ length c.loop-i.out = omega (arith, c.loop-i.auto.out, c.loop-i-test.true) in
    let size_is : k * atom + atom - k * atom ≡ atom = omega arith in
    digests-next atom k c.args.old.now c.loop-i.out c.copy_from_slice.new.self _ within
    (c.copy_from_slice.ensures.after ∙ c.digest-digest.ensures
    ∙ ap (λ n. sha256 (take n (drop (k * atom) c.args.old.now))) size_is)
    c.loop-i.invariant
