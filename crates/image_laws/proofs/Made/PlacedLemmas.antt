-- Where the blocks of a new volume lie.
use Rattle.std.proofs.Common.{◌≡◌, inl, inr, ℕ, ◌+◌, ◌-◌, ◌*◌, ◌/◌, ◌%◌, ◌^◌, ◌<◌, ◌≤◌, Some, refl}
use Rattle.std.proofs.Common.{zero, suc, List, ◌++◌, replicate, slice_get, ap, subst, sym}
use Rattle.std.proofs.Common.{Bool, true, false, arith}
use Rattle.std.specs.Prelude.{if◌then◌else◌}
use Rattle.base_terms.specs.declared.disk_sizes.Sizes.{Sizes}
use Rattle.luks_format.specs.Drawings.{Draw}
use Rattle.luks_format.specs.Metadata.{config_for, digest_for, parts_for, parts_with, segment_for}
use Rattle.luks_format.specs.Wishes.{FitsDisk}
use Rattle.luks_format.specs.declared.wish.Wish.{Wish}
use Rattle.luks_meta.specs.declared.segment.Encryption.{Encryption}
use Rattle.luks_meta.specs.declared.segment.SegmentSize.TheVariants.{Dynamic}
use Rattle.luks_rules.specs.Areas.{main_bytes}
use Rattle.luks_rules.specs.Extents.{digest_of}
use Rattle.luks_rules.specs.Idles.{idle_of}
use Rattle.luks_rules.specs.Segments.{in_progress}
use Rattle.luks_rules.specs.declared.extents.Extent.{Extent}
use Rattle.luks_rules.specs.declared.extents.Mark.TheVariants.{Plain}
use Rattle.luks_rules.specs.declared.idle.Idle.{Idle}
use Rattle.image_laws.specs.Made.Standing.{block_count, first_atom}
use Rattle.reenc_meta.specs.Placements.{IsPlacementOf, PlacedBy, base_of, place_of}
use Rattle.reenc_meta.specs.declared.placement.Placement.{Placement}
use Rattle.sector_disk.specs.Geometry.{IsAtom}
use Rattle.segment_map.specs.Maps.{place_on}
use Rattle.segment_map.specs.declared.Direction.TheVariants.{Forward}
use Rattle.segment_map.specs.declared.Side.{Side}
use Rattle.segment_map.specs.declared.Side.TheVariants.{New}
use Rattle.volume_machine.specs.Pieces.{known_side, place_in, side_in}

-- ---- numbers
pub block-ends : (base offset atom main b : ℕ) → IsAtom atom → offset % atom ≡ 0
    → b < (main * atom - offset) / atom
    → (base + offset / atom + b) * atom + atom ≤ (base + main) * atom
block-ends base offset atom main b (inl e) even below =
    let whole = rw e at even in
    let inside = rw e at below in
    rw e (omega (arith, whole, inside))
block-ends base offset atom main b (inr e) even below =
    let whole = rw e at even in
    let inside = rw e at below in
    rw e (omega (arith, whole, inside))

pub block-begins : (base offset atom b : ℕ) → IsAtom atom → offset % atom ≡ 0
    → base * atom + offset ≤ (base + offset / atom + b) * atom
block-begins base offset atom b (inl e) even =
    let whole = rw e at even in rw e (omega (arith, whole))
block-begins base offset atom b (inr e) even =
    let whole = rw e at even in rw e (omega (arith, whole))

pub atom-bounds : (atom : ℕ) → IsAtom atom → (1 ≤ atom) × (atom ≤ 1048576)
atom-bounds atom (inl e) = (omega (arith, e), omega (arith, e))
atom-bounds atom (inr e) = (omega (arith, e), omega (arith, e))

-- so few blocks that their places have 64 bits
few : (base offset atom atoms : ℕ) → IsAtom atom → base * atom < 2 ^ 63
    → atoms * atom < 2 ^ 63 → offset ≤ atoms * atom
    → base + offset / atom + (atoms * atom - offset) / atom ≤ 2 ^ 64
few base offset atom atoms (inl e) front back begins =
    let head = rw e at front in
    let main = rw e at back in
    let below = rw e at begins in
    rw e (omega (arith, head, main, below))
few base offset atom atoms (inr e) front back begins =
    let head = rw e at front in
    let main = rw e at back in
    let below = rw e at begins in
    rw e (omega (arith, head, main, below))

-- ---- sides
-- one of the first so many is as they are
front-is : (n b : ℕ) (rest : List Side) → b < n
    → slice_get (replicate n New ++ rest) b ≡ Some New
front-is zero b rest below = absurd (omega (arith, below))
front-is (suc n) zero rest below = refl
front-is (suc n) (suc b) rest below = front-is n b rest (omega (arith, below))

-- ---- the placement
abbrev pub encryption : Wish → Encryption
encryption w = record { iv_tweak = 0; cipher = w.cipher; sector_size = w.sector_size }

abbrev pub segment : Wish → Extent
segment w = record {
  number = 0;
  offset = w.data_offset;
  size = Dynamic;
  encryption = Some (encryption w);
  mark = Plain;
  digest = Some 0;
}

abbrev pub idle : Wish → Sizes → Idle
idle w sizes = record { segment = segment w; blocks = block_count w sizes }

idle-is : (w : Wish) (d : Draw) (sizes : Sizes)
    → idle_of (parts_for w d) sizes ≡ Some (idle w sizes)
unfolding idle_of in_progress digest_of parts_with config_for segment_for digest_for
idle-is w d sizes = refl

-- where the data begins on the disk
module _ (w : Wish) (sizes : Sizes) (disk : FitsDisk w sizes)
    (begins : w.data_offset ≤ main_bytes sizes) where
  base-fits : (detached : Bool) → (if detached then sizes.header_atoms else 0) * sizes.atom < 2 ^ 63
  base-fits true = disk.header
  base-fits false = omega arith

  pub fits : first_atom w sizes + block_count w sizes ≤ 2 ^ 64
  fits =
      few (base_of sizes) w.data_offset sizes.atom sizes.main_atoms disk.atom
      (base-fits sizes.detached) disk.main begins

  abbrev pub placement : Placement
  placement = record {
    map = record {
      atom = sizes.atom;
      blocks = block_count w sizes;
      boundary = block_count w sizes;
      direction = Forward;
      zone = 0;
      old_place = place_of sizes (segment w);
      new_place = place_of sizes (segment w);
      some_atom = (atom-bounds sizes.atom disk.atom).0;
      most_atom = (atom-bounds sizes.atom disk.atom).1;
      within = omega arith;
      zone_left = omega arith;
      old_places = fits;
      new_places = fits;
    };
    old = segment w;
    new = segment w;
  }

  pub is-placed : (d : Draw) → IsPlacementOf (parts_for w d) sizes placement
  is-placed d =
      subst (λ v. PlacedBy sizes v placement) (sym (idle-is w d sizes))
      (record {
        atom = refl;
        blocks = refl;
        boundary = refl;
        direction = refl;
        zone = refl;
        old_place = refl;
        new_place = refl;
        old = refl;
        new = refl;
      })

  -- each block is new
  pub side-is : (b : ℕ) → b < block_count w sizes → side_in placement.map b ≡ New
  side-is b below = ap known_side (front-is (block_count w sizes) b _ below)

  pub place-in : (b : ℕ) → b < block_count w sizes
      → place_in placement.map b ≡ first_atom w sizes + b
  place-in b below = ap (place_on placement.map b) (side-is b below)
