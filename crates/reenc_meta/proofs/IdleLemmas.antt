-- The placement of a volume of which nothing is being converted is right.
use Rattle.std.proofs.Common.{◌≡◌, ℕ, ◌+◌, ◌*◌, ◌/◌, ◌%◌, ◌^◌, ◌-◌, ◌<◌, ◌≤◌, List, [], ◌∷◌, map}
use Rattle.std.proofs.Common.{true}
use Rattle.std.proofs.Common.{Option, Some, None, Bool, false, refl, ap, subst, sym, ◌∙◌, arith}
use Rattle.std.proofs.Math.Nat.{mul-le-mul_right}
use Rattle.std.specs.List.{AllByRecursion}
use Rattle.std.specs.Option.{IfSome}
use Rattle.base_terms.specs.declared.disk_sizes.Sizes.{Sizes}
use Rattle.luks_meta.specs.Metas.{IsMeta}
use Rattle.luks_meta.specs.Segments.{IsEncryption, IsSegment}
use Rattle.luks_meta.specs.declared.digest.Digest.{Digest}
use Rattle.luks_meta.specs.declared.meta.Parts.{Parts}
use Rattle.luks_meta.specs.declared.segment.Encryption.{Encryption}
use Rattle.luks_meta.specs.declared.segment.Segment.{Segment}
use Rattle.luks_rules.specs.Areas.{areas_end, main_bytes}
use Rattle.luks_rules.specs.Extents.{extent_of}
use Rattle.luks_rules.specs.Idles.{idle_of}
use Rattle.luks_rules.specs.Segments.{in_progress}
use Rattle.luks_rules.specs.States.{IsIdle, IsSound}
use Rattle.luks_rules.specs.declared.extents.Extent.{Extent}
use Rattle.luks_rules.specs.declared.idle.Idle.{Idle}
use Rattle.reenc_meta.specs.Placements.{IsIdlePlacement, IsPlacementOf, PlacedBy, all_atoms}
use Rattle.reenc_meta.specs.Placements.{place_of}
use Rattle.reenc_meta.specs.Places.{AreOne, FitsBlocks, IsRightFor, IsSide}
use Rattle.reenc_meta.specs.declared.placement.Placement.{Placement}
use Rattle.reenc_meta.proofs.PlaceLemmas.{all_end_below, all_new, behind, in_atoms, new_apart}
use Rattle.reenc_meta.proofs.PlaceLemmas.{units_of_blocks}
use Rattle.sector_disk.specs.Geometry.{IsAtom, IsDisk}
use Rattle.volume_machine.specs.Pieces.{place_in}
use Rattle.volume_machine.specs.Sound.{MapFits}

-- ---- the encryption of the one segment
one_encryption : (digests : List (ℕ × Digest)) (segments : List (ℕ × Segment)) (e : Extent)
    → map (extent_of digests) segments ≡ e ∷ [] → AllByRecursion (λ s. IsSegment s.1) segments
    → IfSome e.encryption IsEncryption
one_encryption digests [] e is right = absurd (cc)
one_encryption digests (s ∷ []) e is right =
    (let one : extent_of digests s ≡ e = cc in
    subst (λ x. IfSome x.encryption IsEncryption) one (right.0).encryption)
one_encryption digests (s ∷ t ∷ ss) e is right = absurd (cc)

fits_blocks : (atom blocks : ℕ) (o : Option Encryption) → IsAtom atom → IfSome o IsEncryption
    → IfSome o (λ c. (0 < c.sector_size) × (atom % c.sector_size ≡ 0))
    → IfSome o (λ c. c.iv_tweak + blocks * atom / 512 ≤ 2 ^ 64 - 1)
    → IfSome o (FitsBlocks atom blocks)
fits_blocks atom blocks None known right sectors units = tt
fits_blocks atom blocks (Some c) known right sectors units =
    let same = units_of_blocks blocks atom known in
    record {
      known = right.sector_size;
      whole = sectors.1;
      numbers = omega (arith, units, same);
    }

-- ---- the whole
pub reaches : (m : Parts) (sizes : Sizes) (v : Idle) → IsIdle m sizes v
    → v.segment.offset + v.blocks * sizes.atom ≤ main_bytes sizes
reaches m sizes v idle =
    all_end_below v.segment.offset v.blocks sizes.atom (main_bytes sizes) idle.some idle.places

-- the atoms that a segment takes
pub takes : (sizes : Sizes) (v : Idle) → 0 < sizes.atom
    → v.segment.offset + v.blocks * sizes.atom ≤ main_bytes sizes
    → place_of sizes v.segment + v.blocks ≤ all_atoms sizes
takes sizes v some within =
    let main = in_atoms v.segment.offset v.blocks sizes.main_atoms sizes.atom some within in
    omega (arith, main)

module _ (m : Parts) (sizes : Sizes) (v : Idle) (p : Placement)
    (disk : IsDisk sizes.atom (all_atoms sizes)) (right : IsMeta m) (sound : IsSound m sizes)
    (idle : IsIdle m sizes v) (is : IsIdlePlacement sizes v p) where
  idle_fits : MapFits p.map (all_atoms sizes)
  idle_fits =
      let here = takes sizes v sound.atom (reaches m sizes v idle) in
      let few : v.blocks ≤ all_atoms sizes = omega (arith, here) in
      let bytes = mul-le-mul_right sizes.atom few in
      let fits = disk.fits in
      record {
        known = rw is.atom disk.known;
        small = rw (is.atom, is.blocks) (let small : v.blocks * sizes.atom < 2 ^ 63 =
            omega (arith, bytes, fits) in small);
        old_places = rw (is.old_place, is.blocks) here;
        new_places = rw (is.new_place, is.blocks) here;
      }

  idle_side : IsSide m sizes p.map.blocks v.segment
  idle_side = record {
    placed = idle.placed;
    fits = rw is.blocks (fits_blocks sizes.atom v.blocks v.segment.encryption disk.known
        (one_encryption m.digests m.segments v.segment idle.segments right.segments.each)
        idle.placed.sectors idle.units);
  }

  idle_behind : (b : ℕ) → b < p.map.blocks → areas_end m.config ≤ place_in p.map b * p.map.atom
  idle_behind b below =
      let place = (all_new p.map is.direction (is.boundary ∙ sym is.blocks)).places b below in
      rw (place, is.new_place, is.atom)
      (behind sizes.detached sizes.header_atoms (areas_end m.config) v.segment.offset sizes.atom b
      idle.placed.whole idle.placed.behind sound.within.detached)

  pub idle_right : IsRightFor m sizes p
  idle_right = record {
    atom = is.atom;
    fits = idle_fits;
    apart = new_apart p.map (all_new p.map is.direction (is.boundary ∙ sym is.blocks));
    behind = idle_behind;
    old = rw is.old idle_side;
    new = rw is.new idle_side;
  }

-- ---- one placement
same_by : (sizes : Sizes) (v : Option Idle) (p q : Placement) → PlacedBy sizes v p
    → PlacedBy sizes v q → AreOne p q
same_by sizes None p q is also = absurd is
same_by sizes (Some v) p q is also =
    let here = all_new p.map is.direction (is.boundary ∙ sym is.blocks) in
    let there = all_new q.map also.direction (also.boundary ∙ sym also.blocks) in
    let count : p.map.blocks ≡ q.map.blocks = is.blocks ∙ sym also.blocks in
    record {
      atom = is.atom ∙ sym also.atom;
      blocks = count;
      sides = λ b below. here.sides b below ∙ sym (there.sides b (omega (arith, below, count)));
      places = λ b below. here.places b below
          ∙ ap (λ place. place + b) (is.new_place ∙ sym also.new_place)
          ∙ sym (there.places b (omega (arith, below, count)));
      old = is.old ∙ sym also.old;
      new = is.new ∙ sym also.new;
    }

pub same_placement : (m : Parts) (sizes : Sizes) (p q : Placement) → IsPlacementOf m sizes p
    → IsPlacementOf m sizes q → AreOne p q
same_placement m sizes p q is also = same_by sizes (idle_of m sizes) p q is also

-- ---- by the header
pub idle_by : (m : Parts) (sizes : Sizes) (v : Idle) → IsSound m sizes → idle_of m sizes ≡ Some v
    → (b : Bool) → in_progress m.config ≡ b → IsIdle m sizes v
idle_by m sizes v sound is true busy =
    let none = (sound.busy busy).0 in
    absurd (let e : Some v ≡ None = sym is ∙ none in cc)
idle_by m sizes v sound is false idle =
    let found = (sound.idle idle).1 in
    let same : found.0 ≡ v = (let e : Some found.0 ≡ Some v = sym found.1 ∙ is in cc) in
    subst (λ (w : Idle). IsIdle m sizes w) same found.2

pub placed_right : (m : Parts) (sizes : Sizes) (v : Idle) (p : Placement)
    → IsDisk sizes.atom (all_atoms sizes) → IsMeta m → IsSound m sizes → idle_of m sizes ≡ Some v
    → IsIdlePlacement sizes v p → IsRightFor m sizes p
placed_right m sizes v p disk right sound is placed =
    idle_right m sizes v p disk right sound
    (idle_by m sizes v sound is (in_progress m.config) refl) placed
