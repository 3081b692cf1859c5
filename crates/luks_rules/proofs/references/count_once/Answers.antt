use Rattle.std.proofs.Common.{◌∙◌, unwrap_or, nat_cmp, sym, ap, arith}
use Rattle.std.specs.BTreeMap as map
use Rattle.std.proofs.lemmas.Grind.{common_steps}
use Rattle.std.proofs.lemmas.Bool.{not-true, not-false}
use Rattle.luks_rules.proofs.CountLemmas.{counted_more, counted_again}
use Rattle.luks_rules.proofs.references.count_once.Goals as goal
use Rattle.luks_rules.proofs.references.count_once.Goals.{then-branch+in_ok-count_up, else-branch}

pub loop-number-preserved : goal.loop-number-preserved
loop-number-preserved c = record {
  seen = λ n. grind (arith, common_steps, c.loop-number.invariant.seen n);
  counted = λ n. elim c.if-branch.branch [
    | then-branch+in_ok-count_up w ↦
        ap (λ m. unwrap_or (map.get nat_cmp m n) 0) w.counts-is
        ∙ counted_more c.args.numbers.now c.loop-number.number-index n
        (unwrap_or (map.get nat_cmp c.args.counts.now n) 0)
        (unwrap_or (map.get nat_cmp c.loop-number.counts n) 0) _
        c.loop-number-test.true (c.loop-number.invariant.counted n)
        (sym (c.loop-number.invariant.seen _)
        ∙ not-true _ (sym c.in_ok-insert.ensures.added ∙ w.if-branch.true))
        (w.in_ok-count_up.ensures n)
    | else-branch w ↦
        ap (λ m. unwrap_or (map.get nat_cmp m n) 0) w.counts-is
        ∙ counted_again c.args.numbers.now c.loop-number.number-index n
        (unwrap_or (map.get nat_cmp c.args.counts.now n) 0)
        (unwrap_or (map.get nat_cmp c.loop-number.counts n) 0)
        c.loop-number-test.true (c.loop-number.invariant.counted n)
        (sym (c.loop-number.invariant.seen _)
        ∙ not-false _ (sym c.in_ok-insert.ensures.added ∙ w.if-branch.false))
  ];
}
