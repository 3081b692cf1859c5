-- The places of a map's blocks, and when no two of them are the same.
use Rattle.std.proofs.Common.{List, None, Option, Some, ap, arith, inl, inr, refl, replicate}
use Rattle.std.proofs.Common.{slice_get, suc, zero, ℕ, ◌++◌, ◌+◌, ◌-◌, ◌<◌, ◌∙◌, ◌≡◌, ◌≤◌, ◌⊎◌}
use Rattle.segment_map.specs.Maps.{place_on, side_at}
use Rattle.segment_map.specs.Sides.{left_of}
use Rattle.segment_map.specs.declared.Side.{Side}
use Rattle.segment_map.specs.declared.Side.TheVariants.{New, Old, Zone}
use Rattle.segment_map.specs.declared.map.Map.{Map}
use Rattle.volume_machine.specs.Pieces.{known_side, place_in}
use Rattle.volume_machine.specs.Sound.{AreApart}
use Rattle.segment_map.specs.declared.Direction.TheVariants.{Backward, Forward}

-- within a run of blocks on one side, and behind it
run_at : (side : Side) (n k : ℕ) (rest : List Side)
    → ((k < n) × (slice_get (replicate n side ++ rest) k ≡ Some side))
    ⊎ ((n ≤ k) × (slice_get (replicate n side ++ rest) k ≡ slice_get rest (k - n)))
run_at side zero k rest = let e : k ≡ k - 0 = omega arith in
    inr (omega arith, ap (λ i. slice_get rest i) e)
run_at side (suc n) zero rest = inl (omega arith, refl)
run_at side (suc n) (suc k) rest = elim (run_at side n k rest) [
  | inl (below, is) ↦ inl (omega arith, is)
  | inr (from, is) ↦ let e : k - n ≡ suc k - suc n = omega arith in
      inr (omega arith, is ∙ ap (λ i. slice_get rest i) e)
]

last_run : (side : Side) (n k : ℕ)
    → (slice_get (replicate n side) k ≡ Some side) ⊎ (slice_get (replicate n side) k ≡ None)
last_run side zero k = inr refl
last_run side (suc n) zero = inl refl
last_run side (suc n) (suc k) = last_run side n k

run_last : (side : Side) (n k : ℕ) → k < n → slice_get (replicate n side) k ≡ Some side
run_last side zero k below = absurd (omega arith)
run_last side (suc n) zero below = refl
run_last side (suc n) (suc k) below = run_last side n k (omega arith)

-- a block that isn't new is in the old segment
on_old : (map : Map) (b : ℕ) (side : Option Side) → (side ≡ Some Old)
    ⊎ ((side ≡ Some Zone) ⊎ (side ≡ None)) → place_on map b (known_side side) ≡ map.old_place + b
on_old map b side (inl is) = rw is refl
on_old map b side (inr (inl is)) = rw is refl
on_old map b side (inr (inr is)) = rw is refl

-- where a block is, below the boundary and from it on
abbrev IsPlaced : Map → ℕ → ℕ → ℕ → Type 0
IsPlaced map below above b = ((b < map.boundary) × (place_in map b ≡ below + b))
    ⊎ ((map.boundary ≤ b) × (place_in map b ≡ above + b))

-- forward: new below the boundary, old from it on
forward_places : (map : Map) → map.direction ≡ Forward → (b : ℕ)
    → IsPlaced map map.new_place map.old_place b
forward_places map forward b =
    let left = map.blocks - map.boundary - map.zone in let k = b - map.boundary in
    elim (run_at New map.boundary b (replicate map.zone Zone ++ replicate left Old)) [
      | inl (below, is) ↦ let side : side_at map b ≡ Some New = rw forward is in
          inl (below, rw side refl)
      | inr (from, is) ↦ inr (
        from,
        on_old map b (side_at map b) (elim (run_at Zone map.zone k (replicate left Old)) [
          | inl (zoned, at) ↦ inr (inl (rw forward (is ∙ at)))
          | inr (past, at) ↦ elim (last_run Old left (k - map.zone)) [
            | inl old ↦ inl (rw forward (is ∙ at ∙ old))
            | inr none ↦ inr (inr (rw forward (is ∙ at ∙ none)))
          ]
        ]),
      )
    ]

-- backward: old below the boundary, new from it on
backward_places : (map : Map) → map.direction ≡ Backward → (b : ℕ) → b < map.blocks
    → IsPlaced map map.old_place map.new_place b
backward_places map backward b inside =
    let before = map.boundary - map.zone in let left = map.blocks - map.boundary in
    let zone : map.zone ≤ map.boundary =
    let same : left_of map.direction map.blocks map.boundary ≡ map.boundary = rw backward refl in
    omega arith in
    elim (run_at Old before b (replicate map.zone Zone ++ replicate left New)) [
      | inl (old, is) ↦ inl (omega arith, on_old map b (side_at map b) (inl (rw backward is)))
      | inr (from, is) ↦ elim (run_at Zone map.zone (b - before) (replicate left New)) [
        | inl (zoned, at) ↦ inl (
          omega arith,
          on_old map b (side_at map b) (inr (inl (rw backward (is ∙ at)))),
        )
        | inr (past, at) ↦ let side : side_at map b ≡ Some New = rw backward (is ∙ at ∙ run_last
            New left (b - before - map.zone) (omega arith)) in
            inr (omega arith, rw side refl)
      ]
    ]

-- no two blocks have the same place, where those on either side of the boundary don't meet
apart_by : (map : Map) (below above : ℕ) → (below ≤ above) ⊎ (above + map.blocks ≤ below)
    → ((b : ℕ) → b < map.blocks → IsPlaced map below above b) → AreApart map
apart_by map below above segments places a b a_inside b_inside same =
    omega (arith, places a a_inside, places b b_inside)

pub forward_apart : (map : Map) → map.direction ≡ Forward
    → (map.new_place ≤ map.old_place) ⊎ (map.old_place + map.blocks ≤ map.new_place) → AreApart map
forward_apart map forward segments = apart_by map map.new_place map.old_place segments
    (λ b inside. forward_places map forward b)

pub backward_apart : (map : Map) → map.direction ≡ Backward
    → (map.old_place ≤ map.new_place) ⊎ (map.new_place + map.blocks ≤ map.old_place) → AreApart map
backward_apart map backward segments =
    apart_by map map.old_place map.new_place segments (backward_places map backward)
