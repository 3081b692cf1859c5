use Rattle.std.proofs.Common.{◌≡◌, ◌∷◌, Ok, sym, ap, subst, ◌∙◌}
use Rattle.serde_json.specs.View.{view}
use Rattle.json_members.specs.Fields.{Fails}
use Rattle.json_members.specs.Entries.{viewed, each_of, objects_in}
use Rattle.json_members.proofs.LoopLemmas.{after, each_more, each_fails, each_done}
use Rattle.luks_json.proofs.entries.read_entries.Goals as goal

pub returns-in-Err : goal.returns-in-Err
returns-in-Err g c =
    let of = g.E.EntryText.of c.args.terms.now in
    let path = c.args.path.now in
    let xs = c.loop-number.list.items in
    let all : after xs
    (each_of of path ((c.in-Some.number, view c.in-Some.value) ∷ viewed c.next.new.self))
    ≡ objects_in of path c.args.object =
    ap (λ r. after xs (each_of of path (viewed r))) (sym c.in-Some.ensures.steps)
    ∙ c.loop-number.invariant.2 in
    subst (Fails c.in-Err.e) all
    (each_fails of path xs (c.in-Some.number, view c.in-Some.value) (viewed c.next.new.self)
    c.in-Err.e c.in-Err.ensures)

pub loop-number-preserved : goal.loop-number-preserved
loop-number-preserved g c =
    let of = g.E.EntryText.of c.args.terms.now in
    let path = c.args.path.now in
    let xs = c.loop-number.list.items in
    let rest = c.next.new.self in (
      tt,
      tt,
      ap (λ r. after r (each_of of path (viewed rest))) c.in_ok-push-in-Ok.ensures.items
          ∙ each_more of path xs (c.in-Some.number, view c.in-Some.value) c.in-Ok.entry
          (viewed rest) c.in-Ok.ensures
          ∙ ap (λ r. after xs (each_of of path (viewed r))) (sym c.in-Some.ensures.steps)
          ∙ c.loop-number.invariant.2,
    )

pub returns : goal.returns
returns g c =
    let of = g.E.EntryText.of c.args.terms.now in
    let path = c.args.path.now in
    let xs = c.loop-number.list.items in
    sym c.loop-number.invariant.2
    ∙ ap (λ r. after xs (each_of of path (viewed r))) c.in-None.ensures.steps.0
    ∙ each_done of path xs ∙ ap Ok (sym c.new.ensures)
