-- The sides of the blocks before and after a zone is opened: those of the zone were old ones, and every
-- other one is on the side that it was on.
use Rattle.std.proofs.Common.{◌≡◌, ◌⊎◌, inl, inr, ℕ, zero, suc, ◌+◌, ◌-◌, ◌<◌, ◌≤◌, List, ◌++◌}
use Rattle.std.proofs.Common.{replicate, slice_get, refl, sym, ◌∙◌, ap, arith}
use Rattle.luks_meta.specs.declared.reencrypt.Direction.{Direction}
use Rattle.luks_meta.specs.declared.reencrypt.Direction.TheVariants.{Backward, Forward}
use Rattle.luks_rules.specs.Plans.{blocks_in}
use Rattle.luks_rules.specs.declared.plan.Plan.{Plan}
use Rattle.image_laws.proofs.Opened.TurnLemmas.{LiesBeside, LiesIn, side_by}
use Rattle.reenc_meta.specs.Moves.{old_blocks, opened}
use Rattle.segment_map.specs.declared.Side.{Side}
use Rattle.segment_map.specs.declared.Side.TheVariants.{New, Old, Zone}
use Rattle.volume_machine.specs.Pieces.{known_side}

abbrev told : List Side → ℕ → Side
told all b = known_side (slice_get all b)

skip-run : (n b : ℕ) (side : Side) (rest : List Side) → n ≤ b
    → told (replicate n side ++ rest) b ≡ told rest (b - n)
skip-run zero b side rest far =
    ap (told rest) (let same : b ≡ b - 0 = omega arith in same)
skip-run (suc n) zero side rest far = absurd (omega (arith, far))
skip-run (suc n) (suc b) side rest far =
    skip-run n b side rest (omega (arith, far))
    ∙ ap (told rest) (let same : b - n ≡ suc b - suc n = omega arith in same)

in-run : (n b : ℕ) (side : Side) (rest : List Side) → b < n
    → told (replicate n side ++ rest) b ≡ side
in-run zero b side rest below = absurd (omega (arith, below))
in-run (suc n) zero side rest below = refl
in-run (suc n) (suc b) side rest below = in-run n b side rest (omega (arith, below))

-- behind the last block it is as on the old side
old-always : (n b : ℕ) → told (replicate n Old) b ≡ Old
old-always zero zero = refl
old-always zero (suc b) = refl
old-always (suc n) zero = refl
old-always (suc n) (suc b) = old-always n b

-- ---- forward: so many new ones, the zone, and old ones
module _ (f n k l b : ℕ) where
  forward-behind : f ≤ b → told (replicate f New ++ (replicate 0 Zone ++ replicate k Old)) b ≡ Old
  forward-behind from = skip-run f b New (replicate k Old) from ∙ old-always k (b - f)

  forward-same : (b < f) ⊎ (f + n ≤ b)
      → told (replicate f New ++ (replicate 0 Zone ++ replicate k Old)) b
      ≡ told (replicate f New ++ (replicate n Zone ++ replicate l Old)) b
  forward-same (inl before) =
      in-run f b New (replicate k Old) before
      ∙ sym (in-run f b New (replicate n Zone ++ replicate l Old) before)
  forward-same (inr behind) =
      forward-behind (omega (arith, behind))
      ∙ sym (skip-run f b New (replicate n Zone ++ replicate l Old) (omega (arith, behind))
      ∙ skip-run n (b - f) Zone (replicate l Old) (omega (arith, behind))
      ∙ old-always l (b - f - n))

-- ---- backward: so many old ones, the zone, and new ones
module _ (f n k b : ℕ) (few : n ≤ f) where
  backward-inside : b < f → told (replicate f Old ++ (replicate 0 Zone ++ replicate k New)) b ≡ Old
  backward-inside below = in-run f b Old (replicate k New) below

  backward-same : (b < f - n) ⊎ (f ≤ b)
      → told (replicate f Old ++ (replicate 0 Zone ++ replicate k New)) b
      ≡ told (replicate (f - n) Old ++ (replicate n Zone ++ replicate k New)) b
  backward-same (inl before) =
      in-run f b Old (replicate k New) (omega (arith, before))
      ∙ sym (in-run (f - n) b Old (replicate n Zone ++ replicate k New) before)
  backward-same (inr behind) =
      let same : b - f ≡ b - (f - n) - n = omega (arith, behind, few) in
      skip-run f b Old (replicate k New) behind ∙ ap (told (replicate k New)) same
      ∙ sym (skip-run (f - n) b Old (replicate n Zone ++ replicate k New) (omega (arith, behind))
      ∙ skip-run n (b - (f - n)) Zone (replicate k New) (omega (arith, behind, few)))

-- ---- by the plans of a conversion of which no zone is open, and of the next zone
-- the runs are those of these numbers
pub same-beside : (way : Direction) (plan : Plan) (n b : ℕ) → plan.zone ≡ 0
    → n ≤ old_blocks way plan → LiesBeside (opened way n plan) b
    → side_by way plan b ≡ side_by way (opened way n plan) b
same-beside Forward plan n b none few beside =
    ap (λ z. told (replicate plan.first New
    ++ (replicate z Zone ++ replicate (blocks_in plan - plan.first - z) Old)) b) none
    ∙ forward-same plan.first n (blocks_in plan - plan.first - 0)
    (blocks_in (opened Forward n plan) - plan.first - n) b beside
same-beside Backward plan n b none few beside =
    let front : plan.first + plan.zone - plan.zone ≡ plan.first = omega arith in
    let rest : blocks_in plan - (plan.first + plan.zone)
    ≡ blocks_in (opened Backward n plan) - (plan.first - n + n) =
    omega (arith, none, few) in
    let open_front : plan.first - n ≡ plan.first - n + n - n = omega arith in
    ap (λ z. told (replicate (plan.first + plan.zone - plan.zone) Old
    ++ (replicate z Zone ++ replicate (blocks_in plan - (plan.first + plan.zone)) New)) b) none
    ∙ ap (λ f. told (replicate f Old
    ++ (replicate 0 Zone ++ replicate (blocks_in plan - (plan.first + plan.zone)) New)) b) front
    ∙ backward-same plan.first n (blocks_in plan - (plan.first + plan.zone)) b few (go beside)
    ∙ ap (λ f. told (replicate f Old ++ (replicate n Zone
    ++ replicate (blocks_in plan - (plan.first + plan.zone)) New)) b) open_front
    ∙ ap (λ k. told (replicate (plan.first - n + n - n) Old ++ (replicate n Zone ++ replicate k New)) b)
    rest
  where
    go : (b < plan.first - n) ⊎ (plan.first - n + n ≤ b)
        → (b < plan.first - n) ⊎ (plan.first ≤ b)
    go (inl before) = inl before
    go (inr behind) = inr (omega (arith, behind, few))

pub old-inside : (way : Direction) (plan : Plan) (n b : ℕ) → plan.zone ≡ 0
    → n ≤ old_blocks way plan → LiesIn (opened way n plan) b → side_by way plan b ≡ Old
old-inside Forward plan n b none few inside =
    ap (λ z. told (replicate plan.first New
    ++ (replicate z Zone ++ replicate (blocks_in plan - plan.first - z) Old)) b) none
    ∙ forward-behind plan.first n (blocks_in plan - plan.first - 0) 0 b inside.0
old-inside Backward plan n b none few inside =
    let front : plan.first + plan.zone - plan.zone ≡ plan.first = omega arith in
    let below = inside.1 in
    ap (λ z. told (replicate (plan.first + plan.zone - plan.zone) Old
    ++ (replicate z Zone ++ replicate (blocks_in plan - (plan.first + plan.zone)) New)) b) none
    ∙ ap (λ f. told (replicate f Old
    ++ (replicate 0 Zone ++ replicate (blocks_in plan - (plan.first + plan.zone)) New)) b) front
    ∙ backward-inside plan.first n (blocks_in plan - (plan.first + plan.zone)) b few
    (omega (arith, below, few))
