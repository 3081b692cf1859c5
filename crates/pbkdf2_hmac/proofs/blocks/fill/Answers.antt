use Rattle.std.proofs.Common.{◌≡◌, ◌*◌, ◌+◌, length, ◌∙◌, sym, add-one, suc, arith}
use Rattle.std.proofs.lemmas.Grind.{div_ceil_times}
use Rattle.std.proofs.lemmas.List.{take_all}
use Rattle.std.specs.Int.{div_ceil}
use Rattle.pbkdf2_hmac.specs.Pbkdf2.{blocks_of, block_of, derived_key}
use Rattle.pbkdf2_hmac.proofs.Cuts.{take-put_mid_cut, start_within}
use Rattle.pbkdf2_hmac.proofs.Lengths.{length-blocks_of, length-block_of}
use Rattle.pbkdf2_hmac.proofs.blocks.fill.Goals as goal

pub output-init : goal.output-init
unfolding blocks_of
output-init g c = λ pass keyed. grind arith

pub output-preserved : goal.output-preserved
unfolding blocks_of
output-preserved g c = λ pass keyed.
    let h = g.H.Hasher.hash in
    let len = c.digest_len-len.result in
    let i = c.output.i in
    let made = blocks_of h pass c.args.salt.now c.args.rounds i in
    let block = block_of h pass c.args.salt.now c.args.rounds (suc i) in
    let within =
    start_within i len (length c.args.out.now) c.digest_len-len.ensures.some
    (rw c.div_ceil-count.ensures at c.output-test.true) in
    let block_is : c.put_block.new.sum ≡ block = rw add-one at (c.put_block.ensures pass keyed) in
    let next : (i + 1) * len ≡ i * len + len = omega arith in
    let cut =
    take-put_mid_cut c.output.out made block c.copy_from_slice.new.self (i * len) len
    c.min-end.result
    (omega (arith, within))
    (rw (← c.digest_len-len.ensures.is) at
    (length-blocks_of h pass c.args.salt.now c.args.rounds i))
    (length-block_of h pass c.args.salt.now c.args.rounds (suc i) ∙ sym c.digest_len-len.ensures.is)
    c.min-end.ensures
    (rw block_is at c.copy_from_slice.ensures.after)
    (rw (← c.output.auto.out) at (c.output.invariant pass keyed)) in
    rw (next, add-one, ← c.output.auto.out) cut

pub returns : goal.returns
unfolding derived_key
returns g c = λ pass keyed.
    let times =
    div_ceil_times (length c.args.out.now) c.digest_len-len.result c.digest_len-len.ensures.some in
    let end : c.output.i ≡ div_ceil (length c.args.out.now) c.digest_len-len.result =
    omega (arith, c.div_ceil-count.ensures) in
    let all =
    take_all (c.output.i * c.digest_len-len.result) c.output.out (rw end (omega (arith, times))) in
    sym all ∙ c.output.invariant pass keyed ∙ rw (← c.digest_len-len.ensures.is, ← end) (cc)
