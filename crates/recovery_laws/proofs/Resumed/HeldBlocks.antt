-- Blocks that hold one value each, on a volume on which no operation is under way or whose lanes have
-- nothing in plain: what they hold, and what is allowed of them.
use Rattle.std.proofs.Common.{◌≡◌, ◌∷◌, ◌∙◌, ◌-◌, ◌≤◌, inl, inr, ℕ, suc, zero, List, [], length}
use Rattle.std.proofs.Common.{ap, arith, refl, subst, sym, mul-le-mul_right}
use Rattle.std.proofs.lemmas.List.{length-map}
use Rattle.std.proofs.lemmas.List.Elements.{Contains-push_cases}
use Rattle.std.specs.Prelude.{Contains}
use Rattle.sector_disk.proofs.DiskViews.TableEntries.{none_contained}
use Rattle.sector_disk.specs.DiskViews.Parts.{value_in}
use Rattle.plain_disk.specs.Plain.{Block, settled, settled_blocks, values_of}
use Rattle.volume_laws.specs.Contents.{IsAllowedAt, IsNow, IsTriedBy, block_in}
use Rattle.volume_machine.specs.Edges.{InPlain}
use Rattle.volume_machine.specs.Runs.{no_plain}
use Rattle.volume_machine.specs.States.{IsIdle, State}

pub settled-in : (values : List (List ℕ)) (b : ℕ)
    → block_in (settled_blocks values) b ≡ settled (value_in values b)
unfolding settled_blocks
settled-in [] b = refl
settled-in (value ∷ values) zero = refl
settled-in (value ∷ values) (suc b) = settled-in values b

pub length-settled : (values : List (List ℕ)) → length (settled_blocks values) ≡ length values
unfolding settled_blocks
length-settled values = length-map values settled

-- the only value of a block is its newest
only-value : (x value : List ℕ) → Contains (values_of (settled x)) value → value ≡ x
only-value x value has =
    elim (Contains-push_cases [] x value has) as (λ _. value ≡ x) [
      | inl none ↦ none_contained (value ≡ x) value none
      | inr same ↦ sym same
    ]

module _ {K : Type 0} (state : State K) (values : List (List ℕ)) (left : List Block)
    (same : left ≡ settled_blocks values) (b : ℕ) (value : List ℕ) where
  in-left : block_in left b ≡ settled (value_in values b)
  in-left = ap (λ blocks. block_in blocks b) same ∙ settled-in values b

  -- with no operation under way
  pub now-settled : (plain : ℕ → InPlain) → IsIdle state → IsNow state plain left b value
      → value ≡ value_in values b
  now-settled plain idle is =
      elim is as (λ _. value ≡ value_in values b) [
        | inl tried ↦ absurd (let free = idle tried.0 in let at = tried.1.is in cc)
        | inr newest ↦ newest.1 ∙ ap (λ (block : Block). block.newest) in-left
      ]

  -- with nothing in plain
  tried-none : (plain : ℕ → InPlain) → plain ≡ no_plain → (lane : ℕ)
      → IsTriedBy state plain lane b value → ⊥
  tried-none plain none lane is =
      let long : length (plain lane).bytes ≡ 0 = ap (λ p. length (p lane).bytes) none in
      let some = state.map.some_atom in
      let tried = is.tried in
      let more : 1 ≤ suc (b - is.o.range.start) = omega arith in
      let least = mul-le-mul_right state.map.atom more in
      omega (arith, long, some, tried, least)

  pub allowed-settled : (plain : ℕ → InPlain) → plain ≡ no_plain
      → IsAllowedAt state plain left b value → value ≡ value_in values b
  allowed-settled plain none is =
      elim is as (λ _. value ≡ value_in values b) [
        | inl has ↦ only-value (value_in values b) value
            (subst (λ block. Contains (values_of block) value) in-left has)
        | inr tried ↦ absurd (tried-none plain none tried.0 tried.1)
      ]
