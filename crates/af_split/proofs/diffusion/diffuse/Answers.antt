use Rattle.std.proofs.Common.{◌≡◌, ◌∙◌, ◌+◌, ◌*◌, ◌<◌, length, min, refl, add-one, arith}
use Rattle.af_split.specs.Af.{hashed_parts}
use Rattle.af_split.proofs.Parts.{length-hashed_parts, part-replaced, put_mid-part, all_parts}
use Rattle.af_split.proofs.Parts.{digest_len-some}
use Rattle.pbkdf2_hmac.proofs.Cuts.{start_within}
use Rattle.af_split.proofs.diffusion.diffuse.Goals as goal

pub parts-init : goal.parts-init
unfolding hashed_parts
parts-init c = grind arith

pub parts-preserved : goal.parts-preserved
unfolding hashed_parts
parts-preserved c =
    let h = c.args.hash in
    let s = c.args.bytes.now in
    let i = c.parts.i in
    let len = c.digest_len-len.result in
    let done = hashed_parts h s i in
    let some : 0 < len = rw c.digest_len-len.ensures (digest_len-some h) in
    let within =
    start_within i len (length s) some (rw c.div_ceil-count.ensures at c.parts-test.true) in
    let before : length done ≡ i * len =
    rw c.digest_len-len.ensures
    (omega (arith, length-hashed_parts h s i, rw c.digest_len-len.ensures at within)) in
    let end_is : c.min-end.result ≡ min (i * len + len) (length s) =
    rw (← c.parts.auto.bytes) c.min-end.ensures in
    let read = part-replaced s done (i * len) len c.min-end.result before end_is in
    let write =
    put_mid-part s done c.hash_part.new.part (i * len) len c.min-end.result within before end_is in
    let next : (i + 1) * len ≡ i * len + len = omega arith in
    let part_is = rw (c.parts.invariant, read, c.digest_len-len.ensures) at c.hash_part.ensures in
    rw (c.parts.invariant, next, add-one, write, part_is) refl

pub returns : goal.returns
returns c =
    let end : c.parts.i ≡ c.div_ceil-count.result = omega arith in
    rw (c.parts.invariant, c.digest_len-len.ensures)
    (all_parts c.args.hash c.args.bytes.now c.parts.i
    (rw c.digest_len-len.ensures at (end ∙ c.div_ceil-count.ensures)))
