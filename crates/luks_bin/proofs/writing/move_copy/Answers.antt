use Rattle.std.proofs.Common.{◌≡◌, List, ℕ, sym, subst, ◌∙◌, ap}
use Rattle.luks_bin.specs.Copies.{copy_of, text_of}
use Rattle.luks_bin.specs.Shares.{Agree}
use Rattle.luks_bin.specs.Writing.{moved, summed}
use Rattle.luks_bin.specs.Hidden.{hides_copy}
use Rattle.luks_bin.proofs.HiddenLemmas.{moved-hides}
use Rattle.luks_bin.proofs.WriteLemmas.{moved-back, text-moved, agree-moved}
use Rattle.luks_bin.proofs.writing.move_copy.Goals as goal

-- what was put
now : (c : goal.After-slice_known-3-1)
    → c.put_sum.new.copy ≡ moved c.args.place c.args.salt.now c.args.copy.now
unfolding moved
now c = c.put_sum.ensures ∙ ap summed c.put_own.ensures

pub returns-clause-back : goal.returns-clause-back
returns-clause-back c = λ from h k whole fits.
    ap (copy_of c.args.place) (now c)
    ∙ moved-back c.args.place from c.args.salt.now c.args.copy.now h c.told-salt k whole fits

pub returns-clause-text : goal.returns-clause-text
returns-clause-text c =
    ap text_of (now c)
    ∙ text-moved c.args.place c.args.salt.now c.args.copy.now c.told-salt c.requires

pub returns-clause-shared : goal.returns-clause-shared
returns-clause-shared c =
    subst (λ (w : List ℕ). Agree w c.args.copy.now) (sym (now c))
    (agree-moved c.args.place c.args.salt.now c.args.copy.now c.told-salt c.requires)

pub returns-clause-hidden : goal.returns-clause-hidden
returns-clause-hidden c =
    ap hides_copy (now c)
    ∙ moved-hides c.args.place c.args.salt.now c.args.copy.now c.told-salt c.requires
