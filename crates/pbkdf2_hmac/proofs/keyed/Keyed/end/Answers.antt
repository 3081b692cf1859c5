use Rattle.std.proofs.Common.{◌++◌}
use Rattle.pbkdf2_hmac.specs.Hmac.{padded_key, hmac_of}
use Rattle.pbkdf2_hmac.proofs.keyed.Keyed.end.Goals as goal

pub returns : goal.returns
unfolding hmac_of
returns g c = λ key text keyed holds.
    let inner = c.finish.ensures (padded_key g.H.Hasher.hash key 0x36 ++ text) holds in
    let outer =
    c.take.ensures (padded_key g.H.Hasher.hash key 0x5C) (c.copied-outer.ensures _ keyed.outer) in
    let whole = c.finish-2.ensures _ outer in
    rw inner at whole
