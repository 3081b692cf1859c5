use Rattle.std.proofs.Common.{◌≡◌, ◌<◌, length, get_or, bit_xor, add-one, arith}
use Rattle.std.proofs.lemmas.Simd.{length-zip2, get_or-zip2}
use Rattle.pbkdf2_hmac.specs.Xor.{xor_bytes}
use Rattle.pbkdf2_hmac.proofs.Overwrites.{get_or-overwritten, set-overwritten, overwritten}
use Rattle.pbkdf2_hmac.proofs.bytes.xor_into.Goals as goal

pub bytes-preserved : goal.bytes-preserved
bytes-preserved c =
    let same : length (xor_bytes c.args.target.now c.args.other.now) ≡ length c.args.target.now =
    length-zip2 bit_xor c.args.target.now c.args.other.now c.requires in
    let below : c.bytes.i < length c.args.target.now = omega arith in
    let was : get_or c.bytes.target c.bytes.i 0 ≡ get_or c.args.target.now c.bytes.i 0 =
    rw c.bytes.invariant
    (get_or-overwritten c.args.target.now (xor_bytes c.args.target.now c.args.other.now) c.bytes.i
    same below) in
    let value =
    get_or-zip2 bit_xor c.args.target.now c.args.other.now c.bytes.i 0 0 0 below
    (omega (arith, c.requires)) in
    let step =
    set-overwritten c.args.target.now (xor_bytes c.args.target.now c.args.other.now) c.bytes.i same
    below in
    rw (was, ← value, c.bytes.invariant, add-one) step

pub returns : goal.returns
returns c =
    let same = length-zip2 bit_xor c.args.target.now c.args.other.now c.requires in
    let end : c.bytes.i ≡ length c.args.target.now = omega arith in
    rw c.bytes.invariant (overwritten c.args.target.now _ c.bytes.i same end)
