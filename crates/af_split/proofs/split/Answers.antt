use Rattle.std.proofs.Common.{◌≡◌, ℕ, ◌-◌, ◌*◌, ◌+◌, ◌≤◌, ◌∙◌, length, replicate, refl, arith}
use Rattle.std.proofs.lemmas.List.{length-take-le}
use Rattle.af_split.specs.Af.{split_of}
use Rattle.af_split.proofs.Undo.{merged-split_of, put_mid-end, times-pred}
use Rattle.af_split.proofs.split.Goals as goal

pub returns : goal.returns
unfolding split_of
returns c =
    let all = times-pred c.args.stripes (length c.args.key.now) c.requires.some_stripes in
    let start : length c.args.out.now - length c.args.key.now
    ≡ (c.args.stripes - 1) * length c.args.key.now = omega (arith, all) in
    let within : length c.args.out.now
    ≤ length c.args.out.now - length c.args.key.now
    + (length c.args.out.now - (length c.args.out.now - length c.args.key.now)) = omega arith in
    let buffer =
    length-take-le {A = ℕ} (length c.args.key.now) (replicate 64 0) c.requires.most_bytes in
    let is =
    put_mid-end c.args.out.now c.copy_from_slice.new.self _ _ within
    ∙ rw (start, c.copy_from_slice.ensures.after, c.xor_into.ensures, c.put_chain.ensures, buffer)
    refl in
    record {
      split = is;
      undone =
          rw is (merged-split_of c.args.hash c.args.key.now c.args.out.now c.args.stripes
          c.requires.some_stripes c.requires.room);
    }
