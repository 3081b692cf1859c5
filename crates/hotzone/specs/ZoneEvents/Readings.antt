-- How the header of a volume is read for its blocks.
use Rattle.std.specs.Prelude.{ℕ, ◌≡◌, ◌+◌, ◌-◌, ◌^◌, ◌&&◌, nat_le, nat_lt, Bool, true, false, List}
use Rattle.std.specs.Prelude.{drop, is_some, Option, Some, None, Result, Ok, Err}
use Rattle.std.proofs.Common.{refl}
use Rattle.std.proofs.lemmas.Bool.{and_parts, leb-true, ltb-true}
use Rattle.crash_laws.specs.HeaderAreas.Areas.{Area}
use Rattle.base_terms.specs.declared.disk_sizes.Sizes.{Sizes}
use Rattle.crash_laws.specs.HotZones.Zones.{Resilience}
use Rattle.json_members.specs.declared.faults.JsonFault.{JsonFault}
use Rattle.luks_bin.specs.Copies.{up_to_nul}
use Rattle.luks_store.specs.Copying.Meanings.{header_reader, size_in}
use Rattle.luks_json.specs.Metas.{meta_from}
use Rattle.luks_meta.specs.declared.meta.Parts.{Parts}
use Rattle.luks_rules.specs.Idles.{idle_of}
use Rattle.luks_rules.specs.Plans.{blocks_in}
use Rattle.luks_rules.specs.Shapes.{progress_of}
use Rattle.luks_rules.specs.declared.idle.Idle.{Idle}
use Rattle.luks_rules.specs.declared.shape.Progress.{Progress}
use Rattle.reenc_meta.specs.ConversionMaps.{boundary_in, direction_of}
use Rattle.reenc_meta.specs.Placements.{place_of}
use Rattle.segment_map.specs.Sides.{left_of}
use Rattle.segment_map.specs.declared.Direction.{Direction}
use Rattle.segment_map.specs.declared.Direction.TheVariants.{Forward}
use Rattle.segment_map.specs.declared.Side.{Side}
use Rattle.segment_map.specs.declared.map.Map.{Map}
use Rattle.volume_machine.specs.Readings.{Reading}
use Rattle.volume_machine.specs.Saved.{saved_hash}
use Rattle.hotzone.specs.ZoneEvents.Tellings.{conversion_of, guard_by, keyslots_of, sealing_of}
use Rattle.hotzone.specs.ZoneEvents.Tellings.{store_by}

-- ---- the objects in what a copy means: its JSON area stands behind 370 bytes of the first 512, and
-- 3584 more
abbrev pub text_in : List ℕ → List ℕ
text_in means = up_to_nul (drop 3954 means)

unfoldable pub parts_in : List ℕ → Result Parts JsonFault
parts_in means = meta_from (size_in means) (text_in means)

-- ---- the numbers of a map, and whether they are those of one
pub record Shape : Type 0 where
  pub atom : ℕ
  pub blocks : ℕ
  pub boundary : ℕ
  pub direction : Direction
  pub zone : ℕ
  pub old_place : ℕ
  pub new_place : ℕ

abbrev pub is_map : Shape → Bool
is_map s =
    nat_lt 0 s.atom && nat_le s.atom 1048576 && nat_le s.boundary s.blocks
    && nat_le s.zone (left_of s.direction s.blocks s.boundary)
    && nat_le (s.old_place + s.blocks) (2 ^ 64) && nat_le (s.new_place + s.blocks) (2 ^ 64)

-- of no block
abbrev pub no_shape : Shape
no_shape = record {
  atom = 512;
  blocks = 0;
  boundary = 0;
  direction = Forward;
  zone = 0;
  old_place = 0;
  new_place = 0;
}

unfoldable pub map_with : (s : Shape) → is_map s ≡ true → Map
map_with s is =
    let new = and_parts _ (nat_le (s.new_place + s.blocks) (2 ^ 64)) is in
    let old = and_parts _ (nat_le (s.old_place + s.blocks) (2 ^ 64)) new.0 in
    let zone = and_parts _ (nat_le s.zone (left_of s.direction s.blocks s.boundary)) old.0 in
    let within = and_parts _ (nat_le s.boundary s.blocks) zone.0 in
    let most = and_parts (nat_lt 0 s.atom) (nat_le s.atom 1048576) within.0 in
    record {
      atom = s.atom;
      blocks = s.blocks;
      boundary = s.boundary;
      direction = s.direction;
      zone = s.zone;
      old_place = s.old_place;
      new_place = s.new_place;
      some_atom = ltb-true 0 s.atom most.0;
      most_atom = leb-true s.atom 1048576 most.1;
      within = leb-true s.boundary s.blocks within.1;
      zone_left = leb-true s.zone (left_of s.direction s.blocks s.boundary) zone.1;
      old_places = leb-true (s.old_place + s.blocks) (2 ^ 64) old.1;
      new_places = leb-true (s.new_place + s.blocks) (2 ^ 64) new.1;
    }

abbrev pub map_when : (s : Shape) (b : Bool) → is_map s ≡ b → Map
map_when s true is = map_with s is
map_when s false is = map_with no_shape refl

unfoldable pub map_by : Shape → Map
map_by s = map_when s (is_map s) refl

-- ---- the map that metadata give: of a conversion that is so far; of a volume of which nothing is
-- converted; else one of no block
abbrev pub shape_at : Sizes → Progress → Shape
shape_at sizes p = record {
  atom = sizes.atom;
  blocks = blocks_in p.plan;
  boundary = boundary_in p.conversion.direction p.plan;
  direction = direction_of p.conversion.direction;
  zone = p.plan.zone;
  old_place = place_of sizes p.old;
  new_place = place_of sizes p.new;
}

abbrev pub idle_shape : Sizes → Idle → Shape
idle_shape sizes v = record {
  atom = sizes.atom;
  blocks = v.blocks;
  boundary = v.blocks;
  direction = Forward;
  zone = 0;
  old_place = place_of sizes v.segment;
  new_place = place_of sizes v.segment;
}

abbrev pub shape_from : Sizes → Option Progress → Option Idle → Shape
shape_from sizes (Some p) idle = shape_at sizes p
shape_from sizes None (Some v) = idle_shape sizes v
shape_from sizes None None = no_shape

abbrev pub shape_of : Sizes → Result Parts JsonFault → Shape
shape_of sizes (Ok meta) = shape_from sizes (progress_of meta sizes) (idle_of meta sizes)
shape_of sizes (Err fault) = no_shape

unfoldable pub map_of : Sizes → List ℕ → Map
map_of sizes means = map_by (shape_of sizes (parts_in means))

-- ---- and what else a header says: its text has room behind the 4096 bytes of the binary header, but
-- for the byte that ends it
unfoldable pub room_in : List ℕ → ℕ
room_in means = size_in means - 4097

unfoldable pub sealing_in : Sizes → List ℕ → Side → List ℕ
sealing_in sizes means side = sealing_of sizes (parts_in means) side

unfoldable pub converts_in : Sizes → List ℕ → Bool
converts_in sizes means = is_some (conversion_of sizes (parts_in means))

unfoldable pub guard_in : Sizes → List ℕ → Resilience
guard_in sizes means = guard_by (conversion_of sizes (parts_in means))

unfoldable pub store_in : Sizes → List ℕ → Area
store_in sizes means = store_by sizes.atom (conversion_of sizes (parts_in means))

unfoldable pub keyslots_in : Sizes → List ℕ → List Area
keyslots_in sizes means = keyslots_of sizes (parts_in means)

-- a LUKS2 header on disks of these sizes
abbrev pub reading_of : Sizes → Reading
reading_of sizes = record {
  reader = header_reader;
  room = room_in;
  map_of = map_of sizes;
  hash = saved_hash;
  sealing = sealing_in sizes;
  converts = converts_in sizes;
  guard = guard_in sizes;
  store = store_in sizes;
  keyslots = keyslots_in sizes;
}
