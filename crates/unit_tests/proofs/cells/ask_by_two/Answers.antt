use Rattle.std.proofs.Common.{ℕ, List, [], ◌∷◌, ◌+◌, ◌++◌, length, refl, ap, ◌∙◌}
use Rattle.volume_cell.specs.declared.history.Call.{Call}
use Rattle.volume_cell.specs.declared.knowledge.Knowledge.{Knowledge}
use Rattle.volume_cell.specs.Histories.{call}
use Rattle.volume_cell.specs.Knowing.{next_name, having_split, having_joined, retired}
use Rattle.volume_cell.specs.Numbered.{AreNumbered}
use Rattle.volume_cell.specs.Passes.{known}
use Rattle.volume_cell.proofs.Drawn.{both-back, drawn-left, drawn-right, drawn-all}
use Rattle.unit_tests.proofs.cells.ask_by_two.Goals as goal

abbrev Known : Type 0
Known = Knowledge (Unit {0}) (Unit {0}) ℕ

abbrev Calls : Type 0
Calls = List (Call (Unit {0}) ℕ)

pub new-requires-clause-machine : goal.new-requires-clause-machine
unfolding AreNumbered
new-requires-clause-machine g c = (refl, tt)

pub close-closed-requires-clause-whole : goal.close-closed-requires-clause-whole
close-closed-requires-clause-whole g c =
    let l = known c.turn-3.new.pass in let r = known c.turn-2.new.pass in
    let a = c.in-Ok.ensures.pass.1 in
    let b = c.split-left.ensures.pass.1 ∙ ap having_split a in
    let d = c.split-right.ensures.pass.1 ∙ ap having_split b in
    both-back tt _ l r
    (c.join-2.ensures.pass.1
    ∙ ap (λ (x : Known). having_joined x r)
    (c.join.ensures.pass.1 ∙ ap (λ (x : Known). having_joined x l) d))
    (c.in-Ok-turn-3.ensures.same.name
    ∙ (c.in-Ok-turn.ensures.same.name
    ∙ (ap (λ (x : Known). x.name) c.split-left.ensures.new.1 ∙ ap (λ (x : Known). next_name x) a)))
    (c.in-Ok-turn-2.ensures.same.name
    ∙ (ap (λ (x : Known). x.name) c.split-right.ensures.new.1 ∙ ap (λ (x : Known). next_name x) b))

pub returns : goal.returns
returns g c =
    let l = known c.turn-3.new.pass in let r = known c.turn-2.new.pass in
    let a = c.in-Ok.ensures.pass.1 in
    let b = c.split-left.ensures.pass.1 ∙ ap having_split a in
    let d = c.split-right.ensures.pass.1 ∙ ap having_split b in
    let t = c.close-closed.ensures.pass
    ∙ ap retired
    (c.join-2.ensures.pass.1
    ∙ ap (λ (x : Known). having_joined x r)
    (c.join.ensures.pass.1 ∙ ap (λ (x : Known). having_joined x l) d)) in
    let ln =
    c.in-Ok-turn-3.ensures.same.name
    ∙ (c.in-Ok-turn.ensures.same.name
    ∙ (ap (λ (x : Known). x.name) c.split-left.ensures.new.1
    ∙ ap (λ (x : Known). next_name x) a)) in
    let rn =
    c.in-Ok-turn-2.ensures.same.name
    ∙ (ap (λ (x : Known). x.name) c.split-right.ensures.new.1
    ∙ ap (λ (x : Known). next_name x) b) in
    let lj =
    c.in-Ok-turn-3.ensures.same.joined
    ∙ (c.in-Ok-turn.ensures.same.joined
    ∙ ap (λ (x : Known). x.joined) c.split-left.ensures.new.1) in
    let rj =
    c.in-Ok-turn-2.ensures.same.joined ∙ ap (λ (x : Known). x.joined) c.split-right.ensures.new.1 in
    let law = c.close-closed.ensures.law in
    let lc =
    c.in-Ok-turn-3.ensures.answer.calls
    ∙ ap (λ (k : Calls). k ++ call tt c.in-Ok-turn-3.three ∷ [])
    (c.in-Ok-turn.ensures.answer.calls
    ∙ ap (λ (k : Calls). k ++ call tt c.in-Ok-turn.one ∷ [])
    (ap (λ (x : Known). x.calls) c.split-left.ensures.new.1)) in
    let rc =
    c.in-Ok-turn-2.ensures.answer.calls
    ∙ ap (λ (k : Calls). k ++ call tt c.in-Ok-turn-2.two ∷ [])
    (ap (λ (x : Known). x.calls) c.split-right.ensures.new.1) in record {
      left = drawn-left tt _ l r t ln lj rn rj law ∙ lc;
      right = drawn-right tt _ l r t ln lj rn rj law ∙ rc;
      all = drawn-all tt _ l r t ln lj rn rj law
          ∙ ap (λ (z : Calls × Calls). length z.0 + length z.1) (λ i. (lc i, rc i));
      numbers = c.close-closed.ensures.stands.1;
    }
