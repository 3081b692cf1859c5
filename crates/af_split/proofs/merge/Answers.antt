use Rattle.std.proofs.Common.{◌≡◌, ◌-◌, ◌*◌, ◌∙◌, length, refl, arith}
use Rattle.af_split.specs.Af.{merged}
use Rattle.af_split.proofs.Undo.{times-pred}
use Rattle.af_split.proofs.merge.Goals as goal

pub returns : goal.returns
unfolding merged
returns c =
    let all = times-pred c.args.stripes (length c.args.key_out.now) c.requires.some_stripes in
    let start : length c.args.split.now - length c.args.key_out.now
    ≡ (c.args.stripes - 1) * length c.args.key_out.now = omega (arith, all) in
    let rest : length c.args.split.now - (length c.args.split.now - length c.args.key_out.now)
    ≡ length c.args.key_out.now = omega (arith, all) in
    c.xor_into.ensures ∙ rw (rest, start, c.put_chain.ensures) refl
