-- What a zone that is written again leaves alone: all atoms but its own and those of the header's
-- copies.
use Rattle.std.specs.Prelude.{ℕ, ◌≡◌, ◌⊎◌, Bool, false, List, Contains}
use Rattle.crash_laws.specs.HeaderAreas.Headers.{Copy, Layout, place_of}
use Rattle.sector_disk.specs.DiskViews.Views.{View, IsOutside}
use Rattle.crash_laws.specs.HotZones.Zones.{Hotzone}

-- an atom that is none of its own, and none of the header's copies
pub record IsElsewhere {M : Type 0} (layout : Layout) (zone : Hotzone M) (place : ℕ) : Type 0 where
  pub own : IsOutside zone.own.start zone.own.count place
  pub copies : (copy : Copy)
      → IsOutside (place_of layout copy).start (place_of layout copy).count place

-- There a call that was done changes nothing; and whatever became of it, a stop leaves there what
-- the atom was, or what it might have left of it before.
pub record StaysElsewhere {M : Type 0} (layout : Layout) (zone : Hotzone M) (broken : Bool)
    (was is : View) : Type 0 where
  pub current : broken ≡ false → (place : ℕ) → IsElsewhere layout zone place
      → is.current place ≡ was.current place
  pub left : (place : ℕ) → IsElsewhere layout zone place → (value : List ℕ)
      → Contains (is.candidates place) value
      → (value ≡ was.current place) ⊎ Contains (was.candidates place) value
