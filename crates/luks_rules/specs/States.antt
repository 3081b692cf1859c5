-- What metadata are that break no rule.
use Rattle.std.specs.Prelude.{◌≡◌, ℕ, ◌+◌, ◌*◌, ◌/◌, ◌%◌, ◌-◌, ◌^◌, ◌<◌, ◌≤◌, ◌++◌, true, false}
use Rattle.std.specs.Prelude.{List, [], ◌∷◌, length, map, Some, None, IfSome, IsSome}
use Rattle.std.specs.List.{All}
use Rattle.base_terms.specs.declared.disk_sizes.Sizes.{Sizes}
use Rattle.luks_meta.specs.Configs.{is_foreign, mandatory}
use Rattle.luks_meta.specs.declared.meta.Parts.{Parts}
use Rattle.luks_meta.specs.declared.digest.Digest.{Digest}
use Rattle.luks_rules.specs.Areas.{areas_end, areas_of, main_bytes}
use Rattle.luks_rules.specs.Conversions.{conversions_of}
use Rattle.luks_rules.specs.Extents.{extent_of}
use Rattle.luks_rules.specs.Idles.{idle_of}
use Rattle.luks_rules.specs.Overlaps.{TwoShare}
use Rattle.luks_rules.specs.Plain.{AreReferred, HaveNumbers, HaveWholeAtoms, HaveWholeSectors}
use Rattle.luks_rules.specs.Plain.{HoldVolume, IsWholeSize, LieWithin}
use Rattle.luks_rules.specs.Plans.{blocks_in, place_at}
use Rattle.luks_rules.specs.References.{is_there, lists, times_listed, value_at}
use Rattle.luks_rules.specs.Rooms.{capacity, HasShift}
use Rattle.luks_rules.specs.Segments.{bytes_by, in_progress, whole_blocks}
use Rattle.luks_rules.specs.Shapes.{are_numbered, are_wholes, fits, progress_of}
use Rattle.luks_rules.specs.declared.conversions.Conversion.{Conversion}
use Rattle.luks_rules.specs.declared.extents.Extent.{Extent}
use Rattle.luks_rules.specs.declared.idle.Idle.{Idle}
use Rattle.luks_rules.specs.declared.plan.Plan.{Plan}
use Rattle.luks_rules.specs.declared.shape.Progress.{Progress}

-- Live segments, the whole old one and the whole new one of a conversion, for a choice of boundary
-- and zone.
pub record IsState (atom : ℕ) (c : Conversion) (live : List Extent) (old new : Extent)
    (plan : Plan) : Type 0 where
  pub numbers : are_numbered live old new ≡ true
  pub wholes : are_wholes atom c old new ≡ true
  pub parts : fits atom c old new live plan ≡ true

-- How the objects are cut: one keyslot is of a conversion, which no digest lists; the segments are
-- the live ones, of which there is one at least, and then the whole old and the whole new one.
pub record IsShaped (m : Parts) (atom : ℕ) (p : Progress) (live : List Extent) : Type 0 where
  pub keyslot : conversions_of m.keyslots ≡ p.conversion ∷ []
  pub alone : All (λ d. lists d.1.keyslots p.conversion.keyslot ≡ false) m.digests
  pub some : 0 < length live
  pub segments : map (extent_of m.digests) m.segments ≡ live ++ p.old ∷ p.new ∷ []
  pub state : IsState atom p.conversion live p.old p.new p.plan

-- A segment is listed by one digest alone, whose keyslots are there.
pub record IsUnder (m : Parts) (e : Extent) (n : ℕ) (d : Digest) : Type 0 where
  pub number : e.digest ≡ Some n
  pub digest : value_at m.digests n ≡ Some d
  pub listed : lists d.segments e.number ≡ true
  pub alone : times_listed m.digests e.number ≡ 1
  pub keyslots : All (λ k. is_there m.keyslots k ≡ true) d.keyslots

-- A segment lies on the main disk in whole atoms, behind the keyslots where these are on the same
-- disk; its sectors divide the atom, and their numbers have 64 bits; and where it is encrypted it
-- has its one digest.
pub record IsPlaced (m : Parts) (sizes : Sizes) (e : Extent) : Type 0 where
  pub whole : e.offset % sizes.atom ≡ 0
  pub size : IsWholeSize sizes.atom e.size
  pub on_disk : e.offset + bytes_by (main_bytes sizes) e.offset e.size ≤ main_bytes sizes
  pub behind : sizes.detached ≡ false → areas_end m.config ≤ e.offset
  pub sectors : IfSome e.encryption (λ c. (0 < c.sector_size) × (sizes.atom % c.sector_size ≡ 0))
  pub numbers : IfSome e.encryption
      (λ c. c.iv_tweak + bytes_by (main_bytes sizes) e.offset e.size / 512 ≤ 2 ^ 64 - 1)
  pub digest : IsSome e.encryption → (n : ℕ) × (d : Digest) × IsUnder m e n d

-- The one segment of a volume of which nothing is being converted, and its blocks, each of which
-- lies on the disk and has sectors with numbers of 64 bits.
pub record IsIdle (m : Parts) (sizes : Sizes) (v : Idle) : Type 0 where
  pub keyslots : conversions_of m.keyslots ≡ []
  pub segments : map (extent_of m.digests) m.segments ≡ v.segment ∷ []
  pub placed : IsPlaced m sizes v.segment
  pub blocks : v.blocks ≡ whole_blocks sizes v.segment.offset v.segment.size
  pub some : 0 < v.blocks
  pub places : (b : ℕ) → b < v.blocks
      → v.segment.offset + b * sizes.atom + sizes.atom ≤ main_bytes sizes
  pub units : IfSome v.segment.encryption
      (λ c. c.iv_tweak + v.blocks * sizes.atom / 512 ≤ 2 ^ 64 - 1)

-- The segments, digests and keyslot of a conversion that is so far, and the room that it has. Each
-- block lies on the disk.
pub record IsConverting (m : Parts) (sizes : Sizes) (p : Progress) (live : List Extent) : Type 0
  where
    pub keyslot : conversions_of m.keyslots ≡ p.conversion ∷ []
    pub alone : All (λ d. lists d.1.keyslots p.conversion.keyslot ≡ false) m.digests
    pub segments : map (extent_of m.digests) m.segments ≡ live ++ p.old ∷ p.new ∷ []
    pub state : IsState sizes.atom p.conversion live p.old p.new p.plan
    pub old : IsPlaced m sizes p.old
    pub new : IsPlaced m sizes p.new
    pub room : 0 < capacity sizes.atom p
    pub zone : p.plan.zone ≤ capacity sizes.atom p
    pub shift : HasShift p.conversion.direction p.conversion.resilience p.old.offset p.new.offset
    pub places : (b : ℕ) → b < blocks_in p.plan
        → place_at sizes.atom p.conversion.direction p.old p.new p.plan b + sizes.atom
        ≤ main_bytes sizes

-- Metadata that break no rule, for disks of these sizes.
pub record IsSound (m : Parts) (sizes : Sizes) : Type 0 where
  pub atom : 0 < sizes.atom
  pub own : All (λ text. is_foreign text ≡ false) (mandatory m.config.requirements)
  pub within : LieWithin m sizes
  pub apart : TwoShare (areas_of m.keyslots) → ⊥
  pub digests : AreReferred m
  pub segments : HoldVolume (in_progress m.config) m sizes
  pub sectors : HaveWholeSectors m sizes
  pub atoms : HaveWholeAtoms m sizes
  pub numbers : HaveNumbers m sizes
  pub idle : in_progress m.config ≡ false
      → (progress_of m sizes ≡ None) × ((v : Idle) × (idle_of m sizes ≡ Some v) × IsIdle m sizes v)
  pub busy : in_progress m.config ≡ true → (idle_of m sizes ≡ None)
      × ((p : Progress) × (progress_of m sizes ≡ Some p)
      × ((live : List Extent) × IsConverting m sizes p live))
