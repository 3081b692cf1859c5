use Rattle.std.proofs.Common.{◌∙◌, ◌∷◌, ◌++◌, ◌≤◌, [], ap, not, sym}
use Rattle.std.proofs.lemmas.List.Elements.{All-same}
use Rattle.std.specs.List.{filter}
use Rattle.hotzone.specs.Endings.{is_left}
use Rattle.luks_rules.specs.declared.areas.Area.{Area}
use Rattle.hotzone.proofs.ending.list_wipes.Goals as goal

pub returns-clause-areas : goal.returns-clause-areas
returns-clause-areas c =
    let all = c.as_slice.ensures.value ∙ c.in_ok-areas.ensures in
    let left = c.as_slice-2.ensures.value ∙ c.in_ok-push.ensures.items
    ∙ ap (λ l. l ++ (c.args.guard ∷ [])) c.in_ok-left.ensures in
    c.new.ensures ∙ c.in_ok-gone.ensures
    ∙ (λ i. filter (λ a. not (is_left (left i) a)) (all i))

pub returns-clause-zeros : goal.returns-clause-zeros
returns-clause-zeros c = record {
  most = c.longest.result;
  zeros = c.new-2.ensures ∙ c.in_ok-zeros.ensures;
  enough =
      All-same (λ (a : Area). a.size ≤ c.longest.result) c.new.result c.as_slice-3.result.now
      (c.new.ensures ∙ sym c.as_slice-3.ensures.value) c.longest.ensures;
}
