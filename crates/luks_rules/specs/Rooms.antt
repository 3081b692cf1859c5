-- Room for a zone, and for a shift.
use Rattle.std.specs.Prelude.{◌≡◌, ℕ, ◌+◌, ◌/◌, ◌<◌, ◌==◌, ◌||◌, not, nat_lt, Bool, false, Option}
use Rattle.std.specs.Prelude.{Some, None}
use Rattle.luks_meta.specs.declared.reencrypt.Direction.{Direction}
use Rattle.luks_meta.specs.declared.reencrypt.Direction.TheVariants.{Forward, Backward}
use Rattle.luks_meta.specs.declared.reencrypt.Resilience.{Resilience}
use Rattle.luks_meta.specs.declared.reencrypt.Resilience.TheVariants.{Journal, Checksum, Datashift}
use Rattle.luks_rules.specs.declared.shape.Progress.{Progress}

-- ---- how many blocks a zone may have: a whole block each, 32 bytes each, or one of the shift each
abbrev pub capacity_by : ℕ → ℕ → Resilience → ℕ
capacity_by atom size Journal = size / atom
capacity_by atom size (Checksum n) = size / 32
capacity_by atom size (Datashift shift) = shift / atom

abbrev pub capacity : ℕ → Progress → ℕ
capacity atom p = capacity_by atom p.conversion.area.size p.conversion.resilience

abbrev pub is_short : ℕ → ℕ → Bool
is_short capacity zone = capacity == 0 || nat_lt capacity zone

-- no room for one block, or for the zone that is open
abbrev pub breaks_capacity : ℕ → Option Progress → Bool
breaks_capacity atom None = false
breaks_capacity atom (Some p) = is_short (capacity atom p) p.plan.zone

-- ---- the new segment so many bytes in front of the old one, or behind it
abbrev pub is_shifted : Direction → ℕ → ℕ → ℕ → Bool
is_shifted Forward shift old new = old == new + shift
is_shifted Backward shift old new = new == old + shift

abbrev pub lacks_shift : Direction → Resilience → ℕ → ℕ → Bool
lacks_shift direction Journal old new = false
lacks_shift direction (Checksum n) old new = false
lacks_shift direction (Datashift shift) old new =
    shift == 0 || not (is_shifted direction shift old new)

abbrev pub breaks_shift : Option Progress → Bool
breaks_shift None = false
breaks_shift (Some p) =
    lacks_shift p.conversion.direction p.conversion.resilience p.old.offset p.new.offset

-- ---- in plain words
-- Where blocks are shifted the new segment begins so many bytes in front of the old one, or, where
-- the conversion goes backward, behind it; there is a shift at all.
abbrev pub IsBetween : Direction → ℕ → ℕ → ℕ → Type 0
IsBetween Forward shift old new = new + shift ≡ old
IsBetween Backward shift old new = old + shift ≡ new

abbrev pub HasShift : Direction → Resilience → ℕ → ℕ → Type 0
HasShift direction Journal old new = Unit {0}
HasShift direction (Checksum n) old new = Unit {0}
HasShift direction (Datashift shift) old new = (0 < shift) × IsBetween direction shift old new
