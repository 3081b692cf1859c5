-- The keys of a side by two headers that tell the same of it.
use Rattle.std.specs.Prelude.{ℕ, ◌≡◌, ◌+◌, ◌/◌, ◌<◌, ◌↔◌, List}
use Rattle.std.specs.List.{All}
use Rattle.base_terms.specs.declared.disk_sizes.Sizes.{Sizes}
use Rattle.sector_disk.specs.DiskViews.Parts.{block_at}
use Rattle.luks_meta.specs.declared.meta.Parts.{Parts}
use Rattle.luks_rules.specs.States.{IsSound}
use Rattle.luks_rules.specs.declared.areas.Area.{Area}
use Rattle.luks_rules.specs.declared.extents.Extent.{Extent}
use Rattle.reenc_recovery.specs.Keys.{IsKeyOf, key_for}
use Rattle.sector_disk.specs.Geometry.{IsAtom}
use Rattle.segment_map.specs.declared.Side.{Side}
use Rattle.image_laws.specs.Started.Gaps.{key_areas}
use Rattle.hotzone.specs.ZoneEvents.Sides.{IsSideOf}
use Rattle.hotzone.specs.ZoneEvents.Tellings.{side_alone}

-- each atom of the area is in the one image what it is in the other
abbrev pub HasSameAtoms : ℕ → List ℕ → List ℕ → Area → Type 0
HasSameAtoms atom first now a = (k : ℕ) → k < a.size / atom
    → block_at atom now (a.offset / atom + k) ≡ block_at atom first (a.offset / atom + k)

-- By two headers' metadata, which break no rule, these are the whole segments of a side, which by itself
-- is the same; and the areas from which its key is read hold the same in two images.
pub record AreOneSide (sizes : Sizes) (side : Side) (m n : Parts) (e f : Extent)
    (first now : List ℕ) : Type 0 where
  pub atom : IsAtom sizes.atom
  pub one_sound : IsSound m sizes
  pub two_sound : IsSound n sizes
  pub one : IsSideOf sizes m side e
  pub two : IsSideOf sizes n side f
  pub same : side_alone n f ≡ side_alone m e
  pub read : All (HasSameAtoms sizes.atom first now) (key_areas (side_alone m e).keyslots)

-- Where a side is by itself the same by two headers' metadata, it lies at the same place and is sealed
-- the same, and a key is one of its digest by the one exactly where it is by the other.
pub record HaveOneKey (m n : Parts) (e f : Extent) : Type 0 where
  pub offset : f.offset ≡ e.offset
  pub encryption : f.encryption ≡ e.encryption
  pub right : (key : List ℕ) → IsKeyOf m e key ↔ IsKeyOf n f key

abbrev pub SidesHaveOneKey : Type 0
SidesHaveOneKey = (m n : Parts) (e f : Extent) → side_alone n f ≡ side_alone m e → HaveOneKey m n e f

-- and its keyslots give the same key to each passphrase
abbrev pub SidesGiveTheirKeys : Type 0
SidesGiveTheirKeys =
    (sizes : Sizes) (side : Side) (m n : Parts) (e f : Extent) (first now pass : List ℕ)
    → AreOneSide sizes side m n e f first now
    → key_for n now pass f ≡ key_for m first pass e
