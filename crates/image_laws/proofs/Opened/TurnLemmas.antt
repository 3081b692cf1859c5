-- The sides of the blocks before and after the boundary is moved over an open zone: the zone's blocks
-- become new ones, and every other one stays where it is.
use Rattle.std.proofs.Common.{◌≡◌, ◌⊎◌, inl, inr, ℕ, zero, suc, ◌+◌, ◌-◌, ◌<◌, ◌≤◌, List, ◌++◌}
use Rattle.std.proofs.Common.{replicate, slice_get, refl, sym, ◌∙◌, ap, subst, arith}
use Rattle.std.proofs.lemmas.Bool.{cases_lt}
use Rattle.base_terms.specs.declared.disk_sizes.Sizes.{Sizes}
use Rattle.luks_meta.specs.declared.reencrypt.Direction.{Direction}
use Rattle.luks_meta.specs.declared.reencrypt.Direction.TheVariants.{Backward, Forward}
use Rattle.luks_rules.specs.Plans.{blocks_in}
use Rattle.luks_rules.specs.declared.plan.Plan.{Plan}
use Rattle.luks_rules.specs.declared.shape.Progress.{Progress}
use Rattle.image_laws.specs.Opened.Promises.{ZoneIsRun}
use Rattle.reenc_meta.specs.ConversionMaps.{IsMapAt, boundary_in, direction_of}
use Rattle.reenc_meta.specs.Moves.{moved}
use Rattle.segment_map.specs.Maps.{sides_of}
use Rattle.segment_map.specs.Sides.{sides}
use Rattle.segment_map.specs.declared.Side.{Side}
use Rattle.segment_map.specs.declared.Side.TheVariants.{New, Old, Zone}
use Rattle.segment_map.specs.declared.map.Map.{Map}
use Rattle.volume_machine.specs.Pieces.{known_side, side_in}

-- ---- what becomes of a side
abbrev pub Turns : Side → Side → Type 0
Turns Zone side = side ≡ New
Turns Old side = side ≡ Old
Turns New side = side ≡ New

turns-self : (side : Side) → (side ≡ Zone → ⊥) → Turns side side
turns-self Old other = refl
turns-self New other = refl
turns-self Zone other = absurd (other refl)

-- ---- the blocks of a run of new ones, a zone and a rest, or of a run of old ones, a zone and a rest
abbrev told : List Side → ℕ → Side
told all b = known_side (slice_get all b)

none-in : (n k : ℕ) (side : Side) → (side ≡ Zone → ⊥) → told (replicate n side) k ≡ Zone → ⊥
none-in zero zero side other is = cc
none-in zero (suc k) side other is = cc
none-in (suc n) zero side other is = other is
none-in (suc n) (suc k) side other is = none-in n k side other is

-- the zone, and behind it
zone-turns : (n b : ℕ) (rest : List Side) → ((k : ℕ) → told rest k ≡ Zone → ⊥)
    → Turns (told (replicate n Zone ++ rest) b) (told (replicate n New ++ rest) b)
zone-turns zero b rest none = turns-self (told rest b) (none b)
zone-turns (suc n) zero rest none = refl
zone-turns (suc n) (suc b) rest none = zone-turns n b rest none

one-more : (n k : ℕ) → suc (n + k) ≡ suc n + k
one-more n k = omega arith

none-more : (n : ℕ) → n ≡ 0 + n
none-more n = omega arith

forward-turns : (f n b : ℕ) (rest : List Side) → ((k : ℕ) → told rest k ≡ Zone → ⊥)
    → Turns (told (replicate f New ++ (replicate n Zone ++ rest)) b)
    (told (replicate (f + n) New ++ rest) b)
forward-turns zero n b rest none =
    subst (λ (m : ℕ). Turns (told (replicate n Zone ++ rest) b) (told (replicate m New ++ rest) b))
    (none-more n) (zone-turns n b rest none)
forward-turns (suc f) n zero rest none =
    subst (λ (m : ℕ). Turns New (told (replicate m New ++ rest) zero)) (one-more f n) refl
forward-turns (suc f) n (suc b) rest none =
    subst (λ (m : ℕ). Turns (told (replicate f New ++ (replicate n Zone ++ rest)) b)
    (told (replicate m New ++ rest) (suc b))) (one-more f n) (forward-turns f n b rest none)

-- new blocks behind new ones
joined-run : (n k b : ℕ)
    → told (replicate n New ++ replicate k New) b ≡ told (replicate (n + k) New) b
joined-run zero k b = ap (λ (m : ℕ). told (replicate m New) b) (none-more k)
joined-run (suc n) k zero = ap (λ (m : ℕ). told (replicate m New) zero) (one-more n k)
joined-run (suc n) k (suc b) =
    joined-run n k b ∙ ap (λ (m : ℕ). told (replicate m New) (suc b)) (one-more n k)

backward-turns : (f n k b : ℕ)
    → Turns (told (replicate f Old ++ (replicate n Zone ++ replicate k New)) b)
    (told (replicate f Old ++ replicate (n + k) New) b)
backward-turns zero n k b =
    subst (λ (side : Side). Turns (told (replicate n Zone ++ replicate k New) b) side)
    (joined-run n k b)
    (zone-turns n b (replicate k New) (λ i. none-in k i New (λ e. cc)))
backward-turns (suc f) n k zero = refl
backward-turns (suc f) n k (suc b) = backward-turns f n k b

-- ---- by the plans of a conversion
abbrev pub side_by : Direction → Plan → ℕ → Side
side_by way plan b =
    told (sides (direction_of way) (blocks_in plan) (boundary_in way plan) plan.zone) b

pub plan-turns : (way : Direction) (plan : Plan) (b : ℕ)
    → Turns (side_by way plan b) (side_by way (moved way plan.zone plan) b)
plan-turns Forward plan b =
    let rest : blocks_in plan - plan.first - plan.zone
    ≡ blocks_in (moved Forward plan.zone plan) - (plan.first + plan.zone) - 0 = omega arith in
    subst (λ (n : ℕ). Turns (side_by Forward plan b)
    (told (replicate (plan.first + plan.zone) New ++ replicate n Old) b)) rest
    (forward-turns plan.first plan.zone b (replicate (blocks_in plan - plan.first - plan.zone) Old)
    (λ k. none-in (blocks_in plan - plan.first - plan.zone) k Old (λ e. cc)))
plan-turns Backward plan b =
    let first : plan.first + plan.zone - plan.zone ≡ plan.first + plan.zone - plan.zone + 0 - 0 =
    omega arith in
    let rest : plan.zone + (blocks_in plan - (plan.first + plan.zone))
    ≡ blocks_in (moved Backward plan.zone plan) - (plan.first + plan.zone - plan.zone + 0) =
    omega arith in
    subst (λ (n : ℕ). Turns (side_by Backward plan b)
    (told (replicate n Old
    ++ replicate (blocks_in (moved Backward plan.zone plan) - (plan.first + plan.zone - plan.zone + 0))
    New) b)) first
    (subst (λ (n : ℕ). Turns (side_by Backward plan b)
    (told (replicate (plan.first + plan.zone - plan.zone) Old ++ replicate n New) b)) rest
    (backward-turns (plan.first + plan.zone - plan.zone) plan.zone
    (blocks_in plan - (plan.first + plan.zone)) b))

-- ---- the zone's blocks are a run
skip-run : (n b : ℕ) (side : Side) (rest : List Side) → n ≤ b
    → told (replicate n side ++ rest) b ≡ told rest (b - n)
skip-run zero b side rest far =
    ap (told rest) (let same : b ≡ b - 0 = omega arith in same)
skip-run (suc n) zero side rest far = absurd (omega (arith, far))
skip-run (suc n) (suc b) side rest far =
    skip-run n b side rest (omega (arith, far))
    ∙ ap (told rest) (let same : b - n ≡ suc b - suc n = omega arith in same)

in-run : (n b : ℕ) (side : Side) (rest : List Side) → b < n
    → told (replicate n side ++ rest) b ≡ side
in-run zero b side rest below = absurd (omega (arith, below))
in-run (suc n) zero side rest below = refl
in-run (suc n) (suc b) side rest below = in-run n b side rest (omega (arith, below))

pub in-zone : (way : Direction) (plan : Plan) (b : ℕ) → plan.first ≤ b → b < plan.first + plan.zone
    → side_by way plan b ≡ Zone
in-zone Forward plan b from below =
    skip-run plan.first b New _ from
    ∙ in-run plan.zone (b - plan.first) Zone _ (omega (arith, from, below))
in-zone Backward plan b from below =
    skip-run (plan.first + plan.zone - plan.zone) b Old _ (omega (arith, from))
    ∙ in-run plan.zone (b - (plan.first + plan.zone - plan.zone)) Zone _
    (omega (arith, from, below))

in-front : (way : Direction) (plan : Plan) (b : ℕ) → b < plan.first
    → side_by way plan b ≡ Zone → ⊥
in-front Forward plan b below is =
    (let e : New ≡ Zone = sym (in-run plan.first b New _ below) ∙ is in cc)
in-front Backward plan b below is =
    (let e : Old ≡ Zone =
    sym (in-run (plan.first + plan.zone - plan.zone) b Old _ (omega (arith, below))) ∙ is in cc)

behind-it : (way : Direction) (plan : Plan) (b : ℕ) → plan.first + plan.zone ≤ b
    → side_by way plan b ≡ Zone → ⊥
behind-it Forward plan b from is =
    none-in (blocks_in plan - plan.first - plan.zone) (b - plan.first - plan.zone) Old (λ e. cc)
    (sym (skip-run plan.first b New _ (omega (arith, from))
    ∙ skip-run plan.zone (b - plan.first) Zone _ (omega (arith, from))) ∙ is)
behind-it Backward plan b from is =
    none-in (blocks_in plan - (plan.first + plan.zone))
    (b - (plan.first + plan.zone - plan.zone) - plan.zone) New (λ e. cc)
    (sym (skip-run (plan.first + plan.zone - plan.zone) b Old _ (omega (arith, from))
    ∙ skip-run plan.zone (b - (plan.first + plan.zone - plan.zone)) Zone _
    (omega (arith, from))) ∙ is)

abbrev pub LiesBeside : Plan → ℕ → Type 0
LiesBeside plan b = (b < plan.first) ⊎ (plan.first + plan.zone ≤ b)

abbrev pub LiesIn : Plan → ℕ → Type 0
LiesIn plan b = (plan.first ≤ b) × (b < plan.first + plan.zone)

lies : (plan : Plan) (b : ℕ) → LiesBeside plan b ⊎ LiesIn plan b
lies plan b =
    elim (cases_lt b plan.first) as (λ _. LiesBeside plan b ⊎ LiesIn plan b) [
      | inl before ↦ inl (inl before)
      | inr from ↦
          elim (cases_lt b (plan.first + plan.zone))
          as (λ _. LiesBeside plan b ⊎ LiesIn plan b) [
            | inl below ↦ inr (from, below)
            | inr behind ↦ inl (inr behind)
          ]
    ]

pub beside-zone : (way : Direction) (plan : Plan) (b : ℕ) → (side_by way plan b ≡ Zone → ⊥)
    → LiesBeside plan b
beside-zone way plan b other = go (lies plan b)
  where
    go : LiesBeside plan b ⊎ LiesIn plan b → LiesBeside plan b
    go (inl beside) = beside
    go (inr (from, below)) = absurd (other (in-zone way plan b from below))

within-zone : (way : Direction) (plan : Plan) (b : ℕ) → side_by way plan b ≡ Zone → LiesIn plan b
within-zone way plan b is = go (lies plan b)
  where
    go : LiesBeside plan b ⊎ LiesIn plan b → LiesIn plan b
    go (inl (inl before)) = absurd (in-front way plan b before is)
    go (inl (inr behind)) = absurd (behind-it way plan b behind is)
    go (inr inside) = inside

-- ---- by the map of a conversion that is so far
map-sides : (sizes : Sizes) (c : Progress) (map : Map) → IsMapAt sizes c map
    → sides_of map
    ≡ sides (direction_of c.conversion.direction) (blocks_in c.plan)
    (boundary_in c.conversion.direction c.plan) c.plan.zone
map-sides sizes c map is = rw (is.direction, is.blocks, is.boundary, is.zone) refl

pub map-side : (sizes : Sizes) (c : Progress) (map : Map) (b : ℕ) → IsMapAt sizes c map
    → side_in map b ≡ side_by c.conversion.direction c.plan b
map-side sizes c map b is =
    ap (λ (all : List Side). told all b) (map-sides sizes c map is)

pub zone-is-run : ZoneIsRun
zone-is-run sizes c map b is side =
    within-zone c.conversion.direction c.plan b (sym (map-side sizes c map b is) ∙ side)

-- ---- the numbers of the map behind it
pub moved-within : (way : Direction) (plan : Plan)
    → boundary_in way (moved way plan.zone plan) ≤ blocks_in plan
moved-within Forward plan = omega arith
moved-within Backward plan = omega arith

pub moved-blocks : (way : Direction) (plan : Plan)
    → blocks_in plan ≡ blocks_in (moved way plan.zone plan)
moved-blocks Forward plan = omega arith
moved-blocks Backward plan = omega arith

pub moved-closed : (way : Direction) (plan : Plan) → (moved way plan.zone plan).zone ≡ 0
moved-closed Forward plan = refl
moved-closed Backward plan = refl
