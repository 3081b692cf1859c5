use Rattle.std.proofs.Common.{◌≡◌, replicate, ◌∙◌, ap, arith}
use Rattle.luks_bin.specs.Copies.{copy_of, text_of}
use Rattle.luks_bin.specs.Writing.{moved, common, common_pieces, paste_all, written}
use Rattle.luks_bin.specs.Hidden.{hides_copy}
use Rattle.luks_bin.proofs.HiddenLemmas.{written-hides}
use Rattle.luks_bin.proofs.WriteLemmas.{IsShaped, written-back, written-text}
use Rattle.luks_bin.proofs.writing.write_copy.Goals as goal

shaped : (c : goal.After-slice_known-4-1) → IsShaped c.args.header.now
shaped c =
    record {
      seqid = omega arith;
      label = omega arith;
      salt = omega arith;
      uuid =
          omega arith;
      subsystem = omega arith;
    }

-- what was written
now : (c : goal.After-slice_known-4-1)
    → c.move_copy.new.copy ≡ written c.args.header.now c.args.json.now
unfolding written common
now c =
    c.move_copy.ensures.bytes
    ∙ ap (moved c.args.header.now.hdr_offset c.args.header.now.salt)
    (c.put_common.ensures
    ∙ ap (paste_all (common_pieces c.args.header.now c.args.json.now))
    (c.fill.ensures.after (λ y e. e) ∙ ap (λ n. replicate n 0) c.requires.size))

pub returns-clause-back : goal.returns-clause-back
returns-clause-back c =
    ap (copy_of c.args.header.now.hdr_offset) (now c)
    ∙ written-back c.args.header.now c.args.json.now (shaped c) c.requires.right c.requires.text

pub returns-clause-text : goal.returns-clause-text
returns-clause-text c =
    ap text_of (now c)
    ∙ written-text c.args.header.now c.args.json.now (shaped c) c.requires.right c.requires.text

pub returns-clause-hidden : goal.returns-clause-hidden
returns-clause-hidden c = λ utf8.
    ap hides_copy (now c)
    ∙ written-hides c.args.header.now c.args.json.now (shaped c) c.requires.right c.requires.text
    utf8
