-- The sides of blocks beside a boundary, and the places of blocks that stay where they are.
use Rattle.std.proofs.Common.{◌≡◌, ◌∙◌, ◌⊎◌, inl, inr, ℕ, zero, suc, ◌+◌, ◌-◌, ◌<◌, ◌≤◌, ◌++◌, List}
use Rattle.std.proofs.Common.{replicate, Some, refl, sym, ap, arith}
use Rattle.std.proofs.lemmas.Bool.{cases_lt}
use Rattle.std.specs.List.{slice_get}
use Rattle.hotzone.specs.Sites.{start_by}
use Rattle.segment_map.specs.Maps.{place_on}
use Rattle.segment_map.specs.Sides.{left_of, sides}
use Rattle.segment_map.specs.declared.Direction.{Direction}
use Rattle.segment_map.specs.declared.Direction.TheVariants.{Forward, Backward}
use Rattle.segment_map.specs.declared.Side.{Side}
use Rattle.segment_map.specs.declared.Side.TheVariants.{Old, New, Zone}
use Rattle.segment_map.specs.declared.map.Map.{Map}
use Rattle.volume_machine.specs.Pieces.{known_side, place_in, side_in}

-- ---- places: both sides have their blocks at the same ones
place-on : (map : Map) (b : ℕ) (side : Side) → map.new_place ≡ map.old_place
    → place_on map b side ≡ map.old_place + b
place-on map b Old same = refl
place-on map b Zone same = refl
place-on map b New same = ap (λ n. n + b) same

pub place-is : (map : Map) (b : ℕ) → map.new_place ≡ map.old_place
    → place_in map b ≡ map.old_place + b
place-is map b same = place-on map b (side_in map b) same

-- ---- sides
in-run : (n k : ℕ) (side : Side) (rest : List Side) → k < n
    → slice_get (replicate n side ++ rest) k ≡ Some side
in-run zero k side rest below = absurd (omega (arith, below))
in-run (suc n) zero side rest below = refl
in-run (suc n) (suc k) side rest below = in-run n k side rest (omega (arith, below))

behind-run : (n k : ℕ) (side : Side) (rest : List Side) → n ≤ k
    → slice_get (replicate n side ++ rest) k ≡ slice_get rest (k - n)
behind-run zero k side rest far = ap (slice_get rest) (let same : k ≡ k - 0 = omega arith in same)
behind-run (suc n) zero side rest far = absurd (omega (arith, far))
behind-run (suc n) (suc k) side rest far =
    behind-run n k side rest (omega (arith, far))
    ∙ ap (slice_get rest) (let same : k - n ≡ suc k - suc n = omega arith in same)

abbrev pub side_by : Direction → ℕ → ℕ → ℕ → ℕ → Side
side_by d blocks boundary zone b = known_side (slice_get (sides d blocks boundary zone) b)

-- behind the last run nothing is told
none-told : (n k : ℕ) (side : Side) → n ≤ k
    → known_side (slice_get (replicate n side) k) ≡ Old
none-told zero zero side far = refl
none-told zero (suc k) side far = refl
none-told (suc n) zero side far = absurd (omega (arith, far))
none-told (suc n) (suc k) side far = none-told n k side (omega (arith, far))

in-last : (n k : ℕ) (side : Side) → k < n
    → known_side (slice_get (replicate n side) k) ≡ side
in-last zero k side below = absurd (omega (arith, below))
in-last (suc n) zero side below = refl
in-last (suc n) (suc k) side below = in-last n k side (omega (arith, below))

old-last : (n k : ℕ) → known_side (slice_get (replicate n Old) k) ≡ Old
old-last n k = elim (cases_lt k n) [
  | inl below ↦ in-last n k Old below
  | inr far ↦ none-told n k Old far
]

module _ (blocks boundary zone b : ℕ) where
  forward-new : b < boundary → side_by Forward blocks boundary zone b ≡ New
  forward-new below = ap known_side (in-run boundary b New _ below)

  forward-zone : boundary ≤ b → b < boundary + zone
      → side_by Forward blocks boundary zone b ≡ Zone
  forward-zone from below =
      ap known_side
      (behind-run boundary b New _ from
      ∙ in-run zone (b - boundary) Zone _ (omega (arith, from, below)))

  forward-old : boundary + zone ≤ b → side_by Forward blocks boundary zone b ≡ Old
  forward-old from =
      ap known_side
      (behind-run boundary b New _ (omega (arith, from))
      ∙ behind-run zone (b - boundary) Zone _ (omega (arith, from)))
      ∙ old-last (blocks - boundary - zone) (b - boundary - zone)

  backward-old : b < boundary - zone → side_by Backward blocks boundary zone b ≡ Old
  backward-old below = ap known_side (in-run (boundary - zone) b Old _ below)

  backward-zone : boundary - zone ≤ b → b < boundary → zone ≤ boundary
      → side_by Backward blocks boundary zone b ≡ Zone
  backward-zone from below fits =
      ap known_side
      (behind-run (boundary - zone) b Old _ from
      ∙ in-run zone (b - (boundary - zone)) Zone _ (omega (arith, from, below, fits)))

  backward-last : boundary ≤ b → zone ≤ boundary
      → side_by Backward blocks boundary zone b
      ≡ known_side (slice_get (replicate (blocks - boundary) New) (b - (boundary - zone) - zone))
  backward-last from fits =
      ap known_side
      (behind-run (boundary - zone) b Old _ (omega (arith, from))
      ∙ behind-run zone (b - (boundary - zone)) Zone _ (omega (arith, from, fits)))

  backward-new : boundary ≤ b → b < blocks → zone ≤ boundary
      → side_by Backward blocks boundary zone b ≡ New
  backward-new from below fits =
      backward-last from fits
      ∙ in-last (blocks - boundary) (b - (boundary - zone) - zone) New
      (omega (arith, from, below, fits))

  backward-beyond : blocks ≤ b → boundary ≤ blocks → zone ≤ boundary
      → side_by Backward blocks boundary zone b ≡ Old
  backward-beyond from within fits =
      backward-last (omega (arith, from, within)) fits
      ∙ none-told (blocks - boundary) (b - (boundary - zone) - zone) New
      (omega (arith, from, within, fits))

-- no block lies behind the last one
pub side-beyond : (d : Direction) (blocks boundary zone b : ℕ) → boundary ≤ blocks
    → zone ≤ left_of d blocks boundary → blocks ≤ b → side_by d blocks boundary zone b ≡ Old
side-beyond Forward blocks boundary zone b within left from =
    forward-old blocks boundary zone b (omega (arith, within, left, from))
side-beyond Backward blocks boundary zone b within left from =
    backward-beyond blocks boundary zone b from within left

-- ---- the boundary behind a run of blocks beside it
abbrev pub boundary_behind : Direction → ℕ → ℕ → ℕ
boundary_behind Forward boundary count = boundary + count
boundary_behind Backward boundary count = boundary - count

module _ (blocks boundary count b : ℕ) where
  -- where no zone is open they are old; of an open zone; new
  pub beside-old : (d : Direction) → boundary ≤ blocks → count ≤ left_of d blocks boundary
      → start_by d boundary count ≤ b → b < start_by d boundary count + count
      → side_by d blocks boundary 0 b ≡ Old
  beside-old Forward within few from below = forward-old blocks boundary 0 b (omega (arith, from))
  beside-old Backward within few from below =
      backward-old blocks boundary 0 b (omega (arith, few, from, below))

  pub beside-zone : (d : Direction) → boundary ≤ blocks → count ≤ left_of d blocks boundary
      → start_by d boundary count ≤ b → b < start_by d boundary count + count
      → side_by d blocks boundary count b ≡ Zone
  beside-zone Forward within few from below = forward-zone blocks boundary count b from below
  beside-zone Backward within few from below =
      backward-zone blocks boundary count b from (omega (arith, few, below)) few

  pub beside-new : (d : Direction) → boundary ≤ blocks → count ≤ left_of d blocks boundary
      → start_by d boundary count ≤ b → b < start_by d boundary count + count
      → side_by d blocks (boundary_behind d boundary count) 0 b ≡ New
  beside-new Forward within few from below = forward-new blocks (boundary + count) 0 b below
  beside-new Backward within few from below =
      backward-new blocks (boundary - count) 0 b from (omega (arith, within, few, below))
      (omega arith)

  -- every other block stays on its side
  pub beyond-zone : (d : Direction) → boundary ≤ blocks → count ≤ left_of d blocks boundary
      → b < blocks
      → (b < start_by d boundary count) ⊎ (start_by d boundary count + count ≤ b)
      → side_by d blocks boundary count b ≡ side_by d blocks boundary 0 b
  beyond-zone Forward within few inside (inl before) =
      forward-new blocks boundary count b before ∙ sym (forward-new blocks boundary 0 b before)
  beyond-zone Forward within few inside (inr behind) =
      forward-old blocks boundary count b behind
      ∙ sym (forward-old blocks boundary 0 b (omega (arith, behind)))
  beyond-zone Backward within few inside (inl before) =
      backward-old blocks boundary count b before
      ∙ sym (backward-old blocks boundary 0 b (omega (arith, before)))
  beyond-zone Backward within few inside (inr behind) =
      backward-new blocks boundary count b (omega (arith, few, behind)) inside few
      ∙ sym (backward-new blocks boundary 0 b (omega (arith, few, behind)) inside (omega arith))

  pub beyond-new : (d : Direction) → boundary ≤ blocks → count ≤ left_of d blocks boundary
      → b < blocks
      → (b < start_by d boundary count) ⊎ (start_by d boundary count + count ≤ b)
      → side_by d blocks (boundary_behind d boundary count) 0 b ≡ side_by d blocks boundary 0 b
  beyond-new Forward within few inside (inl before) =
      forward-new blocks (boundary + count) 0 b (omega (arith, before))
      ∙ sym (forward-new blocks boundary 0 b before)
  beyond-new Forward within few inside (inr behind) =
      forward-old blocks (boundary + count) 0 b (omega (arith, behind))
      ∙ sym (forward-old blocks boundary 0 b (omega (arith, behind)))
  beyond-new Backward within few inside (inl before) =
      backward-old blocks (boundary - count) 0 b (omega (arith, before))
      ∙ sym (backward-old blocks boundary 0 b (omega (arith, before)))
  beyond-new Backward within few inside (inr behind) =
      backward-new blocks (boundary - count) 0 b (omega (arith, few, behind)) inside (omega arith)
      ∙ sym (backward-new blocks boundary 0 b (omega (arith, few, behind)) inside (omega arith))

-- where none is left all are new
pub all-behind : (d : Direction) (blocks boundary b : ℕ) → left_of d blocks boundary ≡ 0
    → b < blocks → side_by d blocks boundary 0 b ≡ New
all-behind Forward blocks boundary b none below =
    forward-new blocks boundary 0 b (omega (arith, none, below))
all-behind Backward blocks boundary b none below =
    backward-new blocks boundary 0 b (omega (arith, none)) below (omega arith)

-- ---- the side that a map tells
pub side-as : (map : Map) (d : Direction) (blocks boundary zone b : ℕ) → map.direction ≡ d
    → map.blocks ≡ blocks → map.boundary ≡ boundary → map.zone ≡ zone
    → side_in map b ≡ side_by d blocks boundary zone b
side-as map d blocks boundary zone b one two three four = rw (one, two, three, four) refl
