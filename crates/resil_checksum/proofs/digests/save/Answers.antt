use Rattle.std.proofs.Common.{rules, ◌≡◌, ◌∙◌, ◌*◌, ◌/◌, ◌≤◌, ◌++◌, arith, drop, length, length-append, length-take-le}
use Rattle.resil_checksum.proofs.DigestLemmas.{digests-front, saved}
use Rattle.resil_checksum.proofs.RoomLemmas.{digests-within}
use Rattle.resil_checksum.proofs.digests.save.Goals as goal

pub returns-clause-saved : goal.returns-clause-saved
returns-clause-saved g c =
    let atom = c.args.atom in
    let blocks = length c.args.old.now / atom in
    let out = c.args.out.now in
    let digests = c.digest_all.new.out in
    let all = digests-within blocks atom c.requires.some in
    let long : length digests ≡ blocks * 32 =
    c.digest_all.ensures.length
    ∙ length-take-le (blocks * 32) out (omega (arith, all, c.requires.room)) in
    let within : blocks * 32 ≤ length (digests ++ drop (blocks * 32) out) =
    omega (arith, length-append digests (drop (blocks * 32) out), long) in
    saved atom blocks c.args.old.now (digests ++ drop (blocks * 32) out) c.fill.new.self within
    (c.fill.ensures.after (λ y is. is) ∙ search rules)
    (digests-front atom blocks c.args.old.now digests (drop (blocks * 32) out) (omega (arith, long))
    c.digest_all.ensures.digests)
