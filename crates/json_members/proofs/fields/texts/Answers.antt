use Rattle.std.proofs.Common.{◌+◌, drop, sym, ap, subst, ◌∙◌, arith}
use Rattle.serde_json.specs.View.{view, items_view}
use Rattle.json_members.specs.Fields.{Fails, each_item, text_item}
use Rattle.json_members.proofs.LoopLemmas.{after, item_more, item_fails, items_done}
use Rattle.json_members.proofs.fields.texts.Goals as goal

pub returns-in-Err : goal.returns-in-Err
returns-in-Err c =
    let path = c.args.path.now in
    let vs = c.args.values.now in
    let i = c.loop-i.i in
    let at =
    subst (λ v. Fails c.in-Err.e (text_item path i (view v))) c.index-values-i.is
    c.in-Err.ensures in
    subst (Fails c.in-Err.e) c.loop-i.invariant
    (item_fails text_item path c.loop-i.found.items vs i c.index-values-i.result c.in-Err.e
    (omega arith) at)

pub loop-i-preserved : goal.loop-i-preserved
loop-i-preserved c =
    let path = c.args.path.now in
    let vs = c.args.values.now in
    let i = c.loop-i.i in
    let xs = c.loop-i.found.items in
    ap (λ ys. after ys (each_item text_item path (i + 1) (items_view (drop (i + 1) vs))))
    c.in_ok-push-in-Ok.ensures.items
    ∙ item_more text_item path xs vs i c.index-values-i.result c.in-Ok.text (omega arith)
    (ap (λ v. text_item path i (view v)) (sym c.index-values-i.is) ∙ c.in-Ok.ensures)
    ∙ c.loop-i.invariant

pub returns : goal.returns
returns c =
    sym c.loop-i.invariant
    ∙ items_done text_item c.args.path.now c.loop-i.found.items c.args.values.now c.loop-i.i
    c.loop-i-test.false
