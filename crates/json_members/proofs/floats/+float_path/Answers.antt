use Rattle.std.proofs.Common.{◌≡◌, ◌<◌, length, List, ℕ, Option, IfOk, option_map, string_bytes}
use Rattle.std.proofs.Common.{decimal, true, get_or, sym, ap, subst, ◌∙◌, arith}
use Rattle.std.proofs.lemmas.List.{get_or_default}
use Rattle.serde_json.specs.View.{view}
use Rattle.serde_json.specs.Written.{has_float}
use Rattle.json_members.specs.Fields.{under}
use Rattle.json_members.specs.Floats.{float_in}
use Rattle.json_members.proofs.FloatLemmas.{passed_item, found_item}
use Rattle.json_members.proofs.floats.+float_path.Goals as goal

pub float_path_in_items-returns-then-any_float : goal.float_path_in_items-returns-then-any_float
float_path_in_items-returns-then-any_float t c =
    let path = c.args.path.now in
    let vs = c.args.items.now.items in
    let i = c.loop-i.i in
    let v = c.index.result.now in
    let there : i < length vs = omega arith in
    let name : c.as_str.result.now ≡ decimal i = c.as_str.ensures.value ∙ c.in_ok-name.ensures in
    let place : c.as_str-then-any_float.result.now ≡ under path (decimal i) =
    c.as_str-then-any_float.ensures.value ∙ c.in_ok-place.ensures ∙ ap (under path) name in
    let again : c.index-then-any_float.result.now ≡ get_or vs i v =
    c.index-then-any_float.ensures
    ∙ get_or_default vs i c.index-then-any_float.result.now v there in
    let float : has_float (view (get_or vs i v)) ≡ true =
    ap (λ x. has_float (view x)) (sym c.index.ensures) ∙ sym c.any_float.ensures
    ∙ c.if-any_float.true in
    subst (λ (r : Option (List ℕ)). IfOk c.float_path.result (λ o. option_map string_bytes o ≡ r))
    (ap (λ p. float_in p (view c.index-then-any_float.result.now)) place
    ∙ ap (λ x. float_in (under path (decimal i)) (view x)) again
    ∙ found_item path vs i v there float ∙ c.loop-i.invariant)
    c.float_path.ensures

pub float_path_in_items-loop-i-preserved : goal.float_path_in_items-loop-i-preserved
float_path_in_items-loop-i-preserved t c =
    let path = c.args.path.now in
    let vs = c.args.items.now.items in
    let i = c.loop-i.i in
    passed_item path vs i c.index.result.now (omega arith)
    (ap (λ v. has_float (view v)) (sym c.index.ensures) ∙ sym c.any_float.ensures
    ∙ c.if-any_float.false) ∙ c.loop-i.invariant
