use Rattle.std.proofs.Common.{◌≡◌, ◌∙◌, arith}
use Rattle.pbkdf2_hmac.specs.Hmac.{padded}
use Rattle.pbkdf2_hmac.proofs.Padding.{xor_bytes-replicate}
use Rattle.pbkdf2_hmac.proofs.keyed.padded.Goals as goal

pub returns : goal.returns
returns g c =
    let is : c.xor_into.new.target ≡ padded c.args.key.now c.args.pad =
    c.xor_into.ensures
    ∙ xor_bytes-replicate 128 c.block_len.result c.args.pad c.args.key.now (omega arith)
    (omega arith) in
    rw is at c.take.ensures _ c.start-state.ensures
