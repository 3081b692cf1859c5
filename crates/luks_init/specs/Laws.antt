-- What follows for the areas of a conversion.
use Rattle.std.specs.Prelude.{◌≡◌, Some, IsSome}
use Rattle.base_terms.specs.declared.disk_sizes.Sizes.{Sizes}
use Rattle.luks_init.specs.Metadata.{wish_for}
use Rattle.luks_init.specs.Places.{AreLowest}
use Rattle.luks_init.specs.Wishes.{IsWish}
use Rattle.luks_init.specs.declared.places.Places.{Places}
use Rattle.luks_init.specs.declared.wish.Wish.{Wish}
use Rattle.luks_meta.specs.declared.meta.Parts.{Parts}
use Rattle.luks_slots.specs.KeyMaking.Drawings.{Draw}
use Rattle.luks_rules.specs.Idles.{idle_of}
use Rattle.luks_rules.specs.States.{IsSound}
use Rattle.luks_rules.specs.declared.idle.Idle.{Idle}
use Rattle.reenc_meta.specs.Wishes.{MayStart}
use Rattle.sector_disk.specs.Geometry.{IsAtom}

-- A header that breaks no rule, whose volume is encrypted and not being converted, has room for a
-- conversion whose areas lie at the lowest places.
abbrev pub MayStartThere : Type 0
MayStartThere =
    (m : Parts) (sizes : Sizes) (w : Wish) (d : Draw) (p : Places) (v : Idle) → IsSound m sizes
    → IsAtom sizes.atom → IsWish w sizes.atom → idle_of m sizes ≡ Some v
    → IsSome v.segment.encryption → AreLowest m sizes.atom w p
    → MayStart m sizes (wish_for m.config sizes.atom w d p) v
