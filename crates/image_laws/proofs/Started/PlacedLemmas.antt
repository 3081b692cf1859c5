-- Where the blocks of a volume lie with which a conversion begins: each where it was.
use Rattle.std.proofs.Common.{◌≡◌, inl, inr, ℕ, zero, suc, ◌+◌, ◌-◌, ◌*◌, ◌/◌, ◌^◌, ◌<◌, ◌≤◌}
use Rattle.std.proofs.Common.{List, [], ◌++◌, replicate, slice_get, Some, refl, sym, ◌∙◌, ap, subst}
use Rattle.std.proofs.Common.{arith}
use Rattle.std.proofs.lemmas.List.{append-nil}
use Rattle.base_terms.specs.declared.disk_sizes.Sizes.{Sizes}
use Rattle.luks_meta.specs.declared.reencrypt.Direction.{Direction}
use Rattle.luks_meta.specs.declared.reencrypt.Direction.TheVariants.{Forward, Backward}
use Rattle.luks_meta.specs.declared.reencrypt.Resilience.{Resilience}
use Rattle.luks_meta.specs.declared.reencrypt.Resilience.TheVariants.{Journal, Checksum, Datashift}
use Rattle.luks_rules.specs.Areas.{main_bytes}
use Rattle.luks_rules.specs.Plans.{blocks_in}
use Rattle.luks_rules.specs.declared.extents.Extent.{Extent}
use Rattle.luks_rules.specs.declared.idle.Idle.{Idle}
use Rattle.luks_rules.specs.declared.shape.Progress.{Progress}
use Rattle.reenc_meta.specs.ConversionMaps.{boundary_in, direction_of}
use Rattle.reenc_meta.specs.Placements.{IsIdlePlacement, all_atoms, base_of, place_of}
use Rattle.reenc_meta.specs.Starts.{nothing_new, old_extent}
use Rattle.reenc_meta.specs.Wishes.{IsSafe, offset_by}
use Rattle.reenc_meta.specs.declared.placement.Placement.{Placement}
use Rattle.reenc_recovery.specs.Placings.{IsConvertingPlacement}
use Rattle.sector_disk.specs.Geometry.{IsAtom, IsDisk}
use Rattle.segment_map.specs.Maps.{place_on}
use Rattle.segment_map.specs.Sides.{sides}
use Rattle.segment_map.specs.declared.Side.{Side}
use Rattle.segment_map.specs.declared.Side.TheVariants.{Old, New}
use Rattle.segment_map.specs.declared.map.Map.{Map}
use Rattle.volume_machine.specs.Pieces.{known_side, place_in, side_in}

-- ---- sides
first-is : (n b : ℕ) (side : Side) (rest : List Side) → b < n
    → slice_get (replicate n side ++ rest) b ≡ Some side
first-is zero b side rest below = absurd (omega (arith, below))
first-is (suc n) zero side rest below = refl
first-is (suc n) (suc b) side rest below = first-is n b side rest (omega (arith, below))

-- nothing is converted
abbrev pub start_boundary : Direction → ℕ → ℕ
start_boundary Forward n = 0
start_boundary Backward n = n

sides-old : (d : Direction) (n b : ℕ) → b < n
    → known_side (slice_get (sides (direction_of d) n (start_boundary d n) 0) b) ≡ Old
sides-old Forward n b below =
    ap (λ all. known_side (slice_get all b)) (sym (append-nil (replicate (n - 0 - 0) Old)))
    ∙ ap known_side (first-is (n - 0 - 0) b Old [] (omega (arith, below)))
sides-old Backward n b below =
    ap known_side (first-is (n - 0) b Old (replicate (n - n) New) (omega (arith, below)))

-- ---- places
shift-fits : (atom base main offset shift blocks : ℕ) → IsAtom atom → (base + main) * atom < 2 ^ 63
    → offset + blocks * atom + shift ≤ main * atom
    → base + (offset + shift) / atom + blocks ≤ 2 ^ 64
shift-fits atom base main offset shift blocks (inl e) all room =
    let a = rw e at all in
    let r = rw e at room in
    rw e (omega (arith, a, r))
shift-fits atom base main offset shift blocks (inr e) all room =
    let a = rw e at all in
    let r = rw e at room in
    rw e (omega (arith, a, r))

front-fits : (atom base offset shift blocks : ℕ) → IsAtom atom
    → base + offset / atom + blocks ≤ 2 ^ 64
    → base + (offset - shift) / atom + blocks ≤ 2 ^ 64
front-fits atom base offset shift blocks (inl e) fits =
    let f = rw e at fits in rw e (omega (arith, f))
front-fits atom base offset shift blocks (inr e) fits =
    let f = rw e at fits in rw e (omega (arith, f))

new-fits : (atom base main offset blocks : ℕ) (d : Direction) (r : Resilience) → IsAtom atom
    → (base + main) * atom < 2 ^ 63 → base + offset / atom + blocks ≤ 2 ^ 64
    → IsSafe atom d r offset (blocks * atom) (main * atom)
    → base + offset_by d r offset / atom + blocks ≤ 2 ^ 64
new-fits atom base main offset blocks d Journal known all fits safe = fits
new-fits atom base main offset blocks d (Checksum n) known all fits safe = fits
new-fits atom base main offset blocks Forward (Datashift shift) known all fits safe =
    front-fits atom base offset shift blocks known fits
new-fits atom base main offset blocks Backward (Datashift shift) known all fits safe =
    shift-fits atom base main offset shift blocks known all safe.1

pub atom-bounds : (atom : ℕ) → IsAtom atom → (1 ≤ atom) × (atom ≤ 1048576)
atom-bounds atom (inl e) = (omega (arith, e), omega (arith, e))
atom-bounds atom (inr e) = (omega (arith, e), omega (arith, e))

pub start-within : (d : Direction) (n : ℕ) → start_boundary d n ≤ n
start-within Forward n = omega arith
start-within Backward n = omega arith

-- ---- the placement of a volume with the segments of a conversion
module _ (sizes : Sizes) (d : Direction) (r : Resilience) (v : Idle) (new : Extent)
    (disk : IsDisk sizes.atom (all_atoms sizes))
    (fits : place_of sizes v.segment + v.blocks ≤ 2 ^ 64)
    (safe : IsSafe sizes.atom d r v.segment.offset (v.blocks * sizes.atom) (main_bytes sizes))
    (is : new.offset ≡ offset_by d r v.segment.offset) where
  pub new-places : place_of sizes new + v.blocks ≤ 2 ^ 64
  new-places =
      subst (λ (offset : ℕ). base_of sizes + offset / sizes.atom + v.blocks ≤ 2 ^ 64) (sym is)
      (new-fits sizes.atom (base_of sizes) sizes.main_atoms v.segment.offset v.blocks d r disk.known
      disk.fits fits safe)

  abbrev pub start-map : Map
  start-map = record {
    atom = sizes.atom;
    blocks = v.blocks;
    boundary = start_boundary d v.blocks;
    direction = direction_of d;
    zone = 0;
    old_place = place_of sizes v.segment;
    new_place = place_of sizes new;
    some_atom = (atom-bounds sizes.atom disk.known).0;
    most_atom = (atom-bounds sizes.atom disk.known).1;
    within = start-within d v.blocks;
    zone_left = omega arith;
    old_places = fits;
    new_places = new-places;
  }

  abbrev pub start-placement : Placement
  start-placement = record { map = start-map; old = old_extent v; new = new }

  all-blocks : (d : Direction) (n : ℕ) → n ≡ blocks_in (nothing_new d n)
  all-blocks Forward n = omega arith
  all-blocks Backward n = omega arith

  at-start : (d : Direction) (n : ℕ) → start_boundary d n ≡ boundary_in d (nothing_new d n)
  at-start Forward n = refl
  at-start Backward n = omega arith

  closed : (d : Direction) (n : ℕ) → (nothing_new d n).zone ≡ 0
  closed Forward n = refl
  closed Backward n = refl

  pub start-placed : (c : Progress) → c.conversion.direction ≡ d → c.old ≡ old_extent v
      → c.new ≡ new → c.plan ≡ nothing_new d v.blocks
      → IsConvertingPlacement sizes c start-placement
  start-placed c by old-is new-is plan = record {
    closed = ap (λ p. p.zone) plan ∙ closed d v.blocks;
    map = record {
      atom = refl;
      blocks = all-blocks d v.blocks ∙ ap blocks_in (sym plan);
      boundary = at-start d v.blocks ∙ (λ i. boundary_in (sym by i) (sym plan i));
      direction = ap direction_of (sym by);
      zone = sym (ap (λ p. p.zone) plan ∙ closed d v.blocks);
      old_place = ap (place_of sizes) (sym old-is);
      new_place = ap (place_of sizes) (sym new-is);
    };
    old = sym old-is;
    new = sym new-is;
  }

  pub start-side : (b : ℕ) → b < v.blocks → side_in start-map b ≡ Old
  start-side b below = sides-old d v.blocks b below

  pub start-place : (b : ℕ) → b < v.blocks
      → place_in start-map b ≡ place_of sizes v.segment + b
  start-place b below = ap (place_on start-map b) (start-side b below)

-- ---- the placement that it had
module _ (sizes : Sizes) (v : Idle) (p : Placement) (is : IsIdlePlacement sizes v p) where
  pub idle-side : (b : ℕ) → b < v.blocks → side_in p.map b ≡ New
  idle-side b below =
      (λ i. known_side (slice_get (sides (is.direction i) (is.blocks i) (is.boundary i) (is.zone i))
      b))
      ∙ ap known_side (first-is v.blocks b New _ below)

  pub idle-place : (b : ℕ) → b < v.blocks → place_in p.map b ≡ place_of sizes v.segment + b
  idle-place b below =
      ap (place_on p.map b) (idle-side b below) ∙ ap (λ k. k + b) is.new_place

  pub idle-fits : place_of sizes v.segment + v.blocks ≤ 2 ^ 64
  idle-fits =
      let fits = p.map.new_places in
      let place = is.new_place in
      let blocks = is.blocks in
      omega (arith, fits, place, blocks)
