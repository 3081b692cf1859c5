-- The sides of all blocks of a volume, as its live segments lie in logical order.
use Rattle.std.specs.Prelude.{◌≡◌, ◌≢◌, ℕ, ◌-◌, ◌<◌, ◌≤◌, List, ◌++◌, replicate, Some, slice_get}
use Rattle.segment_map.specs.declared.Direction.{Direction}
use Rattle.segment_map.specs.declared.Direction.TheVariants.{Forward, Backward}
use Rattle.segment_map.specs.declared.Side.{Side}
use Rattle.segment_map.specs.declared.Side.TheVariants.{Old, New, Zone}

-- how many blocks the conversion has not passed yet
abbrev pub left_of : Direction → ℕ → ℕ → ℕ
left_of Forward blocks boundary = blocks - boundary
left_of Backward blocks boundary = boundary

-- how many it has passed
abbrev pub passed_of : Direction → ℕ → ℕ → ℕ
passed_of Forward blocks boundary = boundary
passed_of Backward blocks boundary = blocks - boundary

-- forward: the new part up to the boundary, the zone, the old part;
-- backward: the old part, the zone up to the boundary, the new part
abbrev pub sides : Direction → ℕ → ℕ → ℕ → List Side
sides Forward blocks boundary zone =
    replicate boundary New ++ (replicate zone Zone ++ replicate (blocks - boundary - zone) Old)
sides Backward blocks boundary zone =
    replicate (boundary - zone) Old ++ (replicate zone Zone ++ replicate (blocks - boundary) New)

-- where the run of blocks on a side ends: each block of the side is below, from each of them on all
-- blocks below are of the side, and the next one is not
pub record IsRunEnd (blocks : List Side) (side : Side) (end : ℕ) : Type 0 where
  pub below : (k : ℕ) → slice_get blocks k ≡ Some side → k < end
  pub whole : (j k : ℕ) → slice_get blocks j ≡ Some side → j ≤ k → k < end
      → slice_get blocks k ≡ Some side
  pub ends : slice_get blocks end ≢ Some side
