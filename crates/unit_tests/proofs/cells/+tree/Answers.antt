use Rattle.std.proofs.Common.{◌≡◌, ℕ, ◌⊎◌, inl, inr, true, false, List, [], ◌∷◌, ◌++◌, refl, sym}
use Rattle.std.proofs.Common.{ap, ◌∙◌}
use Rattle.volume_cell.specs.declared.knowledge.Knowledge.{Knowledge}
use Rattle.volume_cell.specs.Histories.{is_same}
use Rattle.volume_cell.specs.Knowing.{without, next_name}
use Rattle.volume_cell.specs.Passes.{known}
use Rattle.volume_cell.proofs.Names.{true-or-false, names-same}
use Rattle.unit_tests.proofs.cells.+tree.Goals as goal

abbrev Known : Type 0
Known = Knowledge (Unit {0}) (Unit {0}) ℕ

both-back : (a b : List ℕ) → without b (without a (b ∷ a ∷ [])) ≡ []
unfolding without
both-back a b = decide (true-or-false (is_same a b))
  where
    decide : (is_same a b ≡ true) ⊎ (is_same a b ≡ false) → without b (without a (b ∷ a ∷ [])) ≡ []
    decide (inl same) = rw (same, names-same a a refl) refl
    decide (inr other) = rw (other, names-same a a refl, names-same b b refl) refl

pub join-requires-clause-child : goal.join-requires-clause-child
join-requires-clause-child g t c = (
  (known c.args.pass).splits,
  c.join-left.ensures.first.2
      ∙ (ap (λ (x : Known). x.name) c.split-left.ensures.new.1
      ∙ ap (λ (n : List ℕ). n ++ (known c.args.pass).splits ∷ [])
      (sym (ap (λ (x : Known). x.name) c.split-right.ensures.pass.1
      ∙ ap (λ (x : Known). x.name) c.split-left.ensures.pass.1))),
)

pub join-requires-2-clause-child : goal.join-requires-2-clause-child
join-requires-2-clause-child g t c = (
  (known c.split-left.new.pass).splits,
  c.join-left.ensures.second.2
      ∙ (ap (λ (x : Known). x.name) c.split-right.ensures.new.1
      ∙ ap (λ (n : List ℕ). n ++ (known c.split-left.new.pass).splits ∷ [])
      (sym (ap (λ (x : Known). x.name) c.join.ensures.pass.1
      ∙ ap (λ (x : Known). x.name) c.split-right.ensures.pass.1))),
)

pub returns : goal.returns
returns g t c =
    let a : List ℕ = next_name (known c.args.pass) in
    let b : List ℕ = next_name (known c.split-left.new.pass) in
    let l : List ℕ = (known c.join-left.result.0.0).name in
    let r : List ℕ = (known c.join-left.result.1.0).name in
    let ln : l ≡ a =
    c.join-left.ensures.first.2 ∙ ap (λ (x : Known). x.name) c.split-left.ensures.new.1 in
    let rn : r ≡ b =
    c.join-left.ensures.second.2 ∙ ap (λ (x : Known). x.name) c.split-right.ensures.new.1 in (
      c.join-2.ensures.pass.0,
      ap (λ (x : Known). x.away) c.join-2.ensures.pass.1
          ∙ (ap (λ (x : Known). without r x.away) c.join.ensures.pass.1
          ∙ (ap (λ (x : Known). without r (without l x.away)) c.split-right.ensures.pass.1
          ∙ (ap (λ (m : List (List ℕ)). without r (without l (b ∷ m)))
          (ap (λ (x : Known). x.away) c.split-left.ensures.pass.1
          ∙ ap (λ (m : List (List ℕ)). a ∷ m) c.requires.1)
          ∙ (ap (λ (z : List ℕ). without z (without l (b ∷ a ∷ []))) rn
          ∙ (ap (λ (z : List ℕ). without b (without z (b ∷ a ∷ []))) ln ∙ both-back a b))))),
      ap (λ (x : Known). x.name) c.join-2.ensures.pass.1
          ∙ (ap (λ (x : Known). x.name) c.join.ensures.pass.1
          ∙ (ap (λ (x : Known). x.name) c.split-right.ensures.pass.1
          ∙ ap (λ (x : Known). x.name) c.split-left.ensures.pass.1)),
    )
