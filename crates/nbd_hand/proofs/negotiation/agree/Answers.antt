use Rattle.std.proofs.Common.{⊎_elim, ap, ◌∙◌, [], ◌++◌, false, refl, None, arith, length}
use Rattle.std.proofs.Common.{length-append}
use Rattle.nbd_hand.specs.declared.options.Course.TheVariants.{GoesOn, Begins, Ends}
use Rattle.nbd_hand.specs.Grammar.{agreed_after}
use Rattle.nbd_hand.proofs.OptionLemmas.{answers-none, answers-more, answers-on}
use Rattle.nbd_hand.proofs.OptionLemmas.{answers-too_many, agreed_after-append, agreed_after-none}
use Rattle.nbd_hand.proofs.negotiation.agree.Goals as goal

pub loop-number-init : goal.loop-number-init
loop-number-init g c = record {
  out = c.requires;
  answered = (
    [],
    [],
    [],
    refl,
    agreed_after-none c.args.first,
    answers-none c.args.export.now c.args.first _,
  );
}

pub loop-number-preserved : goal.loop-number-preserved
loop-number-preserved g c =
    let old = c.loop-number.invariant.answered in
    let new = c.in-GoesOn.ensures.answers in
    record {
      out = ⊎_elim (λ is. absurd (cc)) (λ out. out) c.in-GoesOn.ensures.out;
      answered = (
        old.0 ++ new.0,
        old.1 ++ new.2,
        old.2 ++ new.3,
        omega (arith, length-append old.0 new.0, old.3, new.6 refl),
        new.7 ∙ ap (λ a. agreed_after a new.0) old.4 ∙ agreed_after-append c.args.first old.0 new.0,
        answers-more c.args.export.now c.args.first _ _ _ GoesOn (length old.0) old.0 new.0 None
            old.1 new.2 old.2 new.3 [] false old.5 refl
            (answers-on c.args.export.now (agreed_after c.args.first old.0) _ _ (length old.0)
            new.0 new.1 new.2 new.3 new.4 new.5
            (rw old.4 at (new.8 (length old.0) (omega (arith, old.3))))),
      );
    }

pub returns-in-Begins-clause-agrees : goal.returns-in-Begins-clause-agrees
returns-in-Begins-clause-agrees g c =
    let old = c.loop-number.invariant.answered in
    let new = c.in-Begins.ensures.answers in (
      old.0 ++ new.0,
      new.1,
      old.1 ++ new.2,
      old.2 ++ new.3,
      new.4,
      new.5,
      new.7 ∙ ap (λ a. agreed_after a new.0) old.4 ∙ agreed_after-append c.args.first old.0 new.0,
      answers-more c.args.export.now c.args.first _ _ _ Begins (length old.0) old.0 new.0 new.1
          old.1 new.2 old.2 new.3 new.4 new.5 old.5 refl
          (rw old.4 at (new.8 (length old.0) (omega (arith, old.3)))),
    )

pub returns-in-Ends-clause-agrees : goal.returns-in-Ends-clause-agrees
returns-in-Ends-clause-agrees g c =
    let old = c.loop-number.invariant.answered in
    let new = c.in-Ends.ensures.answers in (
      old.0 ++ new.0,
      new.1,
      old.1 ++ new.2,
      old.2 ++ new.3,
      new.4,
      new.5,
      tt,
      answers-more c.args.export.now c.args.first _ _ _ (Ends c.in-Ends.ending) (length old.0)
          old.0 new.0 new.1 old.1 new.2 old.2 new.3 new.4 new.5 old.5 refl
          (rw old.4 at (new.8 (length old.0) (omega (arith, old.3)))),
    )

pub returns-clause-agrees : goal.returns-clause-agrees
returns-clause-agrees g c =
    let all = c.loop-number.invariant.answered in (
      all.0,
      None,
      all.1,
      all.2,
      [],
      false,
      tt,
      answers-too_many c.args.export.now c.args.first _ _ all.0 all.1 all.2 all.5
          (omega (arith, all.3)),
    )
