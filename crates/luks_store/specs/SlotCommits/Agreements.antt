-- Bytes that agree but for those of one area.
use Rattle.std.specs.Prelude.{ℕ, ◌≡◌, ◌≤◌, List, length, slice_index}
use Rattle.sector_disk.specs.DiskViews.Views.{IsOutside}

-- They are as many, and from a byte on the same, but for so many of them from an offset on.
pub record AgreesBut (begin offset size : ℕ) (first now : List ℕ) : Type 0 where
  pub long : length now ≡ length first
  pub same : (i : ℕ) → begin ≤ i → IsOutside offset size i
      → slice_index now i ≡ slice_index first i
