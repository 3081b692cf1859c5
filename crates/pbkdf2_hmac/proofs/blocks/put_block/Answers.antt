use Rattle.std.proofs.Common.{◌≡◌, ◌++◌, add-one, append_assoc, arith}
use Rattle.std.specs.Int.{w32, to_be_bytes}
use Rattle.pbkdf2_hmac.specs.Hmac.{hmac_of}
use Rattle.pbkdf2_hmac.specs.Pbkdf2.{block_of}
use Rattle.pbkdf2_hmac.proofs.Rounds.{after_first, after_next}
use Rattle.pbkdf2_hmac.proofs.blocks.put_block.Goals as goal

pub rounds-init : goal.rounds-init
rounds-init g c = λ pass keyed.
    let h = g.H.Hasher.hash in
    let seed = c.args.salt.now ++ to_be_bytes w32 c.args.number in
    let held = c.take-2.ensures _ (c.take.ensures _ (c.begin-seed.ensures pass keyed)) in
    let tag : c.end.new.out ≡ hmac_of h pass seed =
    c.end.ensures pass seed keyed (rw (append_assoc, c.to_be_bytes.ensures) at held) in
    rw c.copy_from_slice.ensures.after (after_first h pass seed c.end.new.out tag)

pub rounds-preserved : goal.rounds-preserved
rounds-preserved g c = λ pass keyed.
    rw add-one
    (after_next _ pass _ _ c.rounds.iterate c.rounds.sum _ _ (c.rounds.invariant pass keyed)
    (c.advance.ensures pass keyed) c.xor_into.ensures)

pub returns : goal.returns
unfolding block_of
returns g c = λ pass keyed.
    let end : c.rounds.counter ≡ c.args.rounds = omega arith in
    let after = c.rounds.invariant pass keyed in
    rw end at after.all_is
