-- Each image that a stop leaves while an open zone is written again stands for the same.
use Rattle.std.proofs.Common.{◌≡◌, ◌≢◌, ◌⊎◌, inl, inr, ℕ, ◌+◌, ◌-◌, ◌*◌, ◌<◌, ◌≤◌, Bool}
use Rattle.std.proofs.Common.{List, take, length, Ok, Some, refl, sym}
use Rattle.std.proofs.Common.{◌∙◌, ap, subst, arith}
use Rattle.std.proofs.Math.Nat.{le_of_mul-le-mul_right, mul-le-mul_right}
use Rattle.std.proofs.lemmas.Bool.{cases_lt}
use Rattle.base_terms.specs.Blocks.{joined}
use Rattle.crash_laws.specs.HeaderAreas.Areas.{Area, content_of}
use Rattle.crash_laws.specs.HeaderAreas.Commits.{IsDated, MayBe}
use Rattle.crash_laws.specs.HeaderAreas.Headers.{Gives, IsGenuine, IsLaidOut, IsReader, Layout}
use Rattle.crash_laws.specs.HeaderAreas.Promises.{ImageTaken}
use Rattle.base_terms.specs.declared.disk_sizes.Sizes.{Sizes}
use Rattle.sector_disk.proofs.DiskViews.Entries.{image_in}
use Rattle.sector_disk.specs.DiskViews.Parts.{AreBlocks, block_at, value_in}
use Rattle.sector_disk.specs.DiskViews.Views.{IsOutside, view_of_cells}
use Rattle.crash_laws.specs.HotZones.Promises.{ZoneImageTaken, ZoneStands}
use Rattle.crash_laws.specs.HotZones.Standing.{IsPhaseOf, IsZoneImage, Recovers, Stands}
use Rattle.crash_laws.specs.HotZones.Zones.{Hotzone, Phase, ShowsZone, Texts, datashift, mending, moving}
use Rattle.crash_laws.specs.HotZones.Zones.{opening, saving, shifting, stage_of, turning, writing}
use Rattle.crash_laws.specs.HotZones.Zones.{Resilience as Guard}
use Rattle.luks_store.specs.Copying.Meanings.{header_reader}
use Rattle.luks_meta.specs.declared.meta.Parts.{Parts}
use Rattle.luks_rules.specs.Shapes.{progress_of}
use Rattle.luks_rules.specs.States.{IsSound}
use Rattle.luks_rules.specs.declared.shape.Progress.{Progress}
use Rattle.luks_rules.specs.declared.valid.Checked.{Checked}
use Rattle.luks_store.proofs.SettledLemmas.{atom_of_joined}
use Rattle.luks_store.specs.Devices.{front_of}
use Rattle.luks_store.specs.Loads.{stored_in}
use Rattle.luks_store.specs.Promises.{LoadsByMeaning}
use Rattle.luks_store.specs.declared.loaded.Stored.{Stored}
use Rattle.image_laws.proofs.Opened.AtomLemmas.{front-text, long-joined, none-behind}
use Rattle.image_laws.proofs.Opened.FrontLemmas.{block-lies}
use Rattle.image_laws.proofs.Opened.MovedLemmas.{key-stays, next-map, next-placed, next-placement}
use Rattle.image_laws.proofs.Opened.MovedLemmas.{next-plan, next-progress, next-turns}
use Rattle.image_laws.proofs.Opened.OneLemmas.{same-progress}
use Rattle.image_laws.proofs.Opened.RecoverLemmas.{kept-few, recovers-as}
use Rattle.image_laws.proofs.Opened.TurnLemmas.{LiesBeside, LiesIn, Turns, beside-zone, map-side}
use Rattle.image_laws.proofs.Opened.TurnLemmas.{zone-is-run}
use Rattle.image_laws.proofs.Opened.WhichLemmas.{Has, new-place, phase-of, side-of, sides-in, which}
use Rattle.image_laws.specs.Opened.Images.{HoldsOnSide, HoldsOpen, HoldsSaved, ImageStandsUnder}
use Rattle.image_laws.specs.Opened.Images.{OpenStandsUnder, atom_in, seals_at, sealed_both}
use Rattle.image_laws.specs.Opened.Mending.{AreTextsOf, IsLeftOf, IsZoneOf, MendingsKeepImages, MovesOver}
use Rattle.image_laws.specs.Opened.Mending.{ShowsMending, WritesAgain}
use Rattle.image_laws.specs.Opened.Zones.{zone_of}
use Rattle.reenc_meta.specs.ConversionMaps.{IsMapAt}
use Rattle.reenc_meta.specs.Placements.{place_of}
use Rattle.reenc_recovery.specs.Images.{HoldsBlock, StandsUnder}
use Rattle.reenc_recovery.specs.Keys.{IsKeyOf}
use Rattle.sector_disk.specs.Cells.{Cell}
use Rattle.segment_map.specs.Maps.{place_on}
use Rattle.segment_map.specs.declared.Side.{Side}
use Rattle.segment_map.specs.declared.Side.TheVariants.{New, Old, Zone}
use Rattle.segment_map.specs.declared.map.Map.{Map}
use Rattle.image_laws.proofs.Started.GapLemmas.{one-header}
use Rattle.image_laws.proofs.Started.HeaderLemmas.{known-of}
use Rattle.volume_machine.specs.Pieces.{place_in, side_in}
use Rattle.volume_machine.specs.Saved.{saved_hash}

module _ (zones : ZoneStands) (zone_taken : ZoneImageTaken) (taken : ImageTaken)
    (is_reader : IsReader header_reader) (loads : LoadsByMeaning) (sizes : Sizes)
    (header next : Stored) (c : Progress) (layout : Layout) (zone : Hotzone (List ℕ))
    (texts : Texts) (phase : Phase) (broken : Bool) (first : List ℕ) (cells : List Cell)
    (image : List (List ℕ)) (old new : List ℕ) (content : List (List ℕ)) (some : 0 < sizes.atom)
    (moves : MovesOver sizes header next c) (by : IsZoneOf sizes header next c layout zone)
    (are : AreTextsOf c.plan.first (seals_at sizes.atom c old new) zone content texts)
    (shows : ShowsMending sizes layout zone texts phase broken first cells)
    (left : IsLeftOf sizes zone phase cells image)
    (held : stored_in sizes (front_of sizes first) ≡ Ok header)
    (stands : OpenStandsUnder sizes old new first content) where
  long : length (joined image) ≡ length cells * sizes.atom
  long = long-joined sizes.atom (length cells) image left.even

  -- ---- what the laws of zones say of it
  laid_in_all : IsLaidOut sizes.atom (length cells) (header_reader.size zone.opened.means) layout
  laid_in_all =
      let laid = by.laid in
      let fits = laid.within in
      let more = shows.header_atoms in
      record {
        first = laid.first;
        second = laid.second;
        same = laid.same;
        long = laid.long;
        within = omega (arith, fits, more);
      }

  abbrev in_all : IsZoneImage sizes.atom (length cells) (header_reader.size zone.opened.means) layout
      zone (view_of_cells cells) (value_in image)
  in_all =
      zone_taken sizes.atom (header_reader.size zone.opened.means) layout zone cells image left.is
      left.even laid_in_all shows.within

  in_front : IsZoneImage sizes.atom sizes.header_atoms (header_reader.size zone.opened.means) layout
      zone (view_of_cells cells) (value_in image)
  in_front =
      let more = shows.header_atoms in
      record {
        header = record {
          laid = by.laid;
          whole = λ place below. in_all.header.whole place (omega (arith, below, more));
          takes = in_all.header.takes;
        };
        own = in_all.own;
        target = in_all.target;
        store = in_all.store;
      }

  front_is : content_of sizes.header_atoms (value_in image) ≡ front_of sizes (joined image)
  front_is =
      let all = taken sizes.atom (header_reader.size zone.opened.means) layout cells image left.is
      left.even laid_in_all in
      let more = shows.header_atoms in
      let rest = length cells - sizes.header_atoms in
      let whole : sizes.header_atoms + rest ≡ length cells = omega (arith, more) in
      sym (front-text sizes.atom 0 sizes.header_atoms rest (value_in image)
      (λ place from below. all.0.whole place (omega (arith, below, more))))
      ∙ ap (λ n. take (sizes.header_atoms * sizes.atom) (content_of n (value_in image))) whole
      ∙ ap (λ text. take (sizes.header_atoms * sizes.atom) text) all.1

  -- the header that it has, and how each block of the zone stands by it
  abbrev side-by : List ℕ → Side
  side-by means = side-of (header_reader.seq zone.opened.means) means

  abbrev EachStands : Side → Type 0
  EachStands side = (i : ℕ) → i < zone.own.count
      → Stands saved_hash zone texts (value_in image) i side

  unshifted : zone.resilience ≢ datashift
  unshifted = λ is. by.guarded (sym by.kind ∙ is)

  phased : (at : Phase) → WritesAgain at → IsPhaseOf zone.resilience at
  phased at is = phase-of zone.resilience at unshifted is

  genuine : IsGenuine header_reader (header_reader.size zone.opened.means) left.handed
      (content_of sizes.header_atoms (value_in image))
  genuine =
      subst (λ (text : List ℕ). IsGenuine header_reader (header_reader.size zone.opened.means)
      left.handed text) (sym front_is) left.genuine

  abbrev Found : Phase → Type 0
  Found at = (m : List ℕ) × MayBe (stage_of at) zone.opened.means zone.moved.means m
      × Gives header_reader (content_of sizes.header_atoms (value_in image)) m
      × EachStands (side-by m)

  found-in : (at : Phase) → WritesAgain at
      → IsDated header_reader zone.opened zone.moved (stage_of at) left.handed
      → ShowsZone sizes.atom layout zone texts at broken (view_of_cells cells) → Found at
  found-in (mending n) is dated shown =
      zones sizes.atom sizes.header_atoms header_reader layout zone texts (mending n) saved_hash
      side-by left.handed (value_in image) broken (view_of_cells cells) is_reader
      (record { before = by.whole; after = by.moved_whole }) (phased (mending n) tt) are.kept
      (sides-in zone (mending n) tt dated.later) dated in_front genuine shown
  found-in (moving stage) is dated shown =
      zones sizes.atom sizes.header_atoms header_reader layout zone texts (moving stage) saved_hash
      side-by left.handed (value_in image) broken (view_of_cells cells) is_reader
      (record { before = by.whole; after = by.moved_whole }) (phased (moving stage) tt) are.kept
      (sides-in zone (moving stage) tt dated.later) dated in_front genuine shown
  found-in (saving n) is dated shown = absurd is
  found-in (opening stage) is dated shown = absurd is
  found-in (writing n) is dated shown = absurd is
  found-in (shifting n) is dated shown = absurd is
  found-in (turning stage) is dated shown = absurd is

  found : Found phase
  found = found-in phase shows.phased left.dated shows.shows

  given : (m : List ℕ) → Gives header_reader (content_of sizes.header_atoms (value_in image)) m
      → Gives header_reader (front_of sizes (joined image)) m
  given m gives =
      subst (λ (text : List ℕ). Gives header_reader text m) front_is gives

  -- ---- what the bytes say from which it is written again
  same : stands.stored ≡ header
  same = one-header sizes first stands.stored header stands.header held

  sound : IsSound header.valid.meta sizes
  sound = (known-of sizes (front_of sizes first) header some held).sound

  now : stands.now ≡ c
  now =
      same-progress (progress_of header.valid.meta sizes) stands.now c
      (subst (λ (s : Stored). progress_of s.valid.meta sizes ≡ Some stands.now) same stands.known)
      moves.known

  map_is : IsMapAt sizes c stands.map
  map_is = subst (λ (p : Progress). IsMapAt sizes p stands.map) now stands.map_is

  holds : HoldsOpen sizes c stands.map old new first content
  holds = subst (λ (p : Progress). HoldsOpen sizes p stands.map old new first content) now stands.holds

  old_key : IsKeyOf header.valid.meta c.old old
  old_key =
      subst (λ (p : Progress). IsKeyOf header.valid.meta p.old old) now
      (subst (λ (s : Stored). IsKeyOf s.valid.meta stands.now.old old) same stands.old_key)

  new_key : IsKeyOf header.valid.meta c.new new
  new_key =
      subst (λ (p : Progress). IsKeyOf header.valid.meta p.new new) now
      (subst (λ (s : Stored). IsKeyOf s.valid.meta stands.now.new new) same stands.new_key)

  count : zone.own.count ≡ c.plan.zone
  count = ap (λ (a : Area). a.count) by.own

  start : zone.own.start ≡ place_of sizes c.old + c.plan.first
  start = ap (λ (a : Area). a.start) by.own

  -- ---- atoms
  place-is : (map : Map) → map.old_place ≡ place_of sizes c.old
      → map.new_place ≡ place_of sizes c.new → (b : ℕ)
      → place_in map b ≡ place_of sizes c.old + b
  place-is map old_at new_at b = on (side_in map b)
    where
      on : (side : Side) → place_on map b side ≡ place_of sizes c.old + b
      on Old = ap (λ n. n + b) old_at
      on Zone = ap (λ n. n + b) old_at
      on New = ap (λ n. n + b) (new_at ∙ moves.in_place)

  place-here : (b : ℕ) → place_in stands.map b ≡ place_of sizes c.old + b
  place-here = place-is stands.map map_is.old_place map_is.new_place

  behind-copies : (b : ℕ) → layout.second.start + layout.second.count ≤ place_in stands.map b
  behind-copies b =
      let lies = block-lies header.valid.meta sizes c sound moves.known stands.map map_is b in
      let begin = by.begin in
      le_of_mul-le-mul_right (omega (arith, lies, begin)) some

  atom-of : (place : ℕ) → place < length cells
      → block_at sizes.atom (joined image) place ≡ value_in image place
  atom-of place below = atom_of_joined sizes.atom (length cells) image place left.even below

  rest-atom : (b : ℕ) → (b < c.plan.first) ⊎ (c.plan.first + c.plan.zone ≤ b)
      → block_at sizes.atom (joined image) (place_in stands.map b)
      ≡ block_at sizes.atom first (place_in stands.map b)
  rest-atom b beside =
      elim (cases_lt (place_in stands.map b) (length cells))
      as (λ _. block_at sizes.atom (joined image) (place_in stands.map b)
      ≡ block_at sizes.atom first (place_in stands.map b)) [
        | inl below ↦
            atom-of (place_in stands.map b) below
            ∙ shows.rest (place_in stands.map b) (behind-copies b) below (out beside)
            (value_in image (place_in stands.map b))
            (image_in cells image (place_in stands.map b) left.is below)
        | inr far ↦
            none-behind sizes.atom (length cells) (place_in stands.map b) (joined image) first long
            shows.long (mul-le-mul_right sizes.atom far)
      ]
    where
      out : (b < c.plan.first) ⊎ (c.plan.first + c.plan.zone ≤ b)
          → IsOutside zone.own.start zone.own.count (place_in stands.map b)
      out (inl before) =
          let at = place-here b in inl (omega (arith, before, at, start))
      out (inr behind) =
          let at = place-here b in inr (omega (arith, behind, at, start, count))

  -- ---- a block of the zone
  module _ (b : ℕ) (inside : LiesIn c.plan b) where
    abbrev value : List ℕ
    value = value_in content b

    few : b - c.plan.first < zone.own.count
    few = let from = inside.0 in let below = inside.1 in omega (arith, from, below, count)

    whole : c.plan.first + (b - c.plan.first) ≡ b
    whole = let from = inside.0 in omega (arith, from)

    old-text : texts.old (b - c.plan.first) ≡ (seals_at sizes.atom c old new).sealed Old b value
    old-text =
        are.old (b - c.plan.first) few
        ∙ ap (λ n. (seals_at sizes.atom c old new).sealed Old n (value_in content n)) whole

    new-text : texts.new (b - c.plan.first) ≡ (seals_at sizes.atom c old new).sealed New b value
    new-text =
        are.new (b - c.plan.first) few
        ∙ ap (λ n. (seals_at sizes.atom c old new).sealed New n (value_in content n)) whole

    -- by the header that has the zone open
    saved-still : EachStands Zone
        → HoldsSaved sizes.atom (zone_of sizes c) c.plan.first (seals_at sizes.atom c old new)
        (atom_in sizes.atom first) b value
        → HoldsSaved sizes.atom (zone_of sizes c) c.plan.first (seals_at sizes.atom c old new)
        (atom_in sizes.atom (joined image)) b value
    saved-still each is =
        let i = b - c.plan.first in
        let own_fits = shows.within.own in
        let store_fits = shows.within.store in
        record {
          are = is.are;
          tells = subst (λ (r : Guard). Recovers r saved_hash (zone_of sizes c)
              (sealed_both (seals_at sizes.atom c old new) b value)
              (atom_in sizes.atom (joined image)) i) by.kind
              (recovers-as zone (zone_of sizes c) (value_in image)
              (atom_in sizes.atom (joined image)) texts
              (sealed_both (seals_at sizes.atom c old new) b value) i by.store
              (sym (atom-of (zone.own.start + i) (omega (arith, few, own_fits)))
              ∙ ap (λ (a : Area). block_at sizes.atom (joined image) (a.start + i)) by.own)
              (λ place from below. sym (atom-of place (omega (arith, below, store_fits)))) old-text
              new-text zone.resilience (kept-few zone.resilience zone texts i are.kept few)
              (each i few));
          old = is.old;
          new = is.new;
        }

    -- by the one with the boundary moved
    new-atom : EachStands New → block_at sizes.atom (joined image) (place_of sizes c.old + b)
        ≡ (seals_at sizes.atom c old new).sealed New b value
    new-atom each =
        let stored = subst (λ n. value_in image (n + (b - c.plan.first))
        ≡ texts.new (b - c.plan.first)) (new-place zone.resilience zone unshifted)
        (each (b - c.plan.first) few) in
        let fits = shows.within.own in
        let at : zone.own.start + (b - c.plan.first) ≡ place_of sizes c.old + b =
        omega (arith, start, whole) in
        let below : zone.own.start + (b - c.plan.first) < length cells =
        omega (arith, few, fits) in
        ap (λ n. block_at sizes.atom (joined image) n) (sym at)
        ∙ atom-of (zone.own.start + (b - c.plan.first)) below ∙ stored ∙ new-text

  inside-zone : (b : ℕ) → side_in stands.map b ≡ Zone → LiesIn c.plan b
  inside-zone b is = zone-is-run sizes c stands.map b map_is is

  beside : (b : ℕ) → (side_in stands.map b ≡ Zone → ⊥) → LiesBeside c.plan b
  beside b other =
      beside-zone c.conversion.direction c.plan b
      (λ is. other (map-side sizes c stands.map b map_is ∙ is))

  -- ---- by the header that has the zone open
  open-block : EachStands Zone → (b : ℕ) (side : Side)
      → side_in stands.map b ≡ side
      → HoldsOnSide sizes c stands.map (seals_at sizes.atom c old new) first b (value_in content b) side
      → HoldsOnSide sizes c stands.map (seals_at sizes.atom c old new) (joined image) b (value_in content b) side
  open-block each b Old at is =
      subst (λ (text : List ℕ). HoldsBlock stands.map (seals_at sizes.atom c old new) b (value_in content b) text)
      (sym (rest-atom b (beside b (λ e. let f : Old ≡ Zone = sym at ∙ e in cc)))) is
  open-block each b New at is =
      subst (λ (text : List ℕ). HoldsBlock stands.map (seals_at sizes.atom c old new) b (value_in content b) text)
      (sym (rest-atom b (beside b (λ e. let f : New ≡ Zone = sym at ∙ e in cc)))) is
  open-block each b Zone at is = saved-still b (inside-zone b at) each is

  still-open : (m : List ℕ) → Gives header_reader (front_of sizes (joined image)) m
      → m ≡ zone.opened.means → EachStands Zone
      → OpenStandsUnder sizes old new (joined image) content
  still-open m gives is each =
      let loaded = loads (front_of sizes (joined image)) header moves.stored
      (subst (λ (x : List ℕ). Gives header_reader (front_of sizes (joined image)) x)
      (is ∙ by.opened) gives) in
      let meta : header.valid.meta ≡ loaded.0.valid.meta =
      ap (λ (v : Checked). v.meta) (sym loaded.2) in
      record {
        stored = loaded.0;
        header = subst (λ (s : Sizes). stored_in s (front_of sizes (joined image)) ≡ Ok loaded.0)
            moves.sizes_are loaded.1;
        now = c;
        known = subst (λ (x : Parts). progress_of x sizes ≡ Some c) meta moves.known;
        some = moves.some;
        map = stands.map;
        map_is = map_is;
        old_key = subst (λ (x : Parts). IsKeyOf x c.old old) meta old_key;
        new_key = subst (λ (x : Parts). IsKeyOf x c.new new) meta new_key;
        holds = record {
          count = holds.count;
          blocks = λ b below. open-block each b (side_in stands.map b) refl
              (holds.blocks b below);
        };
      }

  -- ---- by the one with the boundary moved
  abbrev turned-map : Map
  turned-map = next-map sizes c stands.map map_is

  place-next : (b : ℕ) → place_in turned-map b ≡ place_of sizes c.old + b
  place-next = place-is turned-map map_is.old_place map_is.new_place

  other-block : (b : ℕ) (value : List ℕ) → LiesBeside c.plan b
      → side_in stands.map b ≡ side_in turned-map b
      → HoldsBlock stands.map (seals_at sizes.atom c old new) b value
      (block_at sizes.atom first (place_in stands.map b))
      → HoldsBlock turned-map (seals_at sizes.atom c old new) b value
      (block_at sizes.atom (joined image) (place_in turned-map b))
  other-block b value at side is =
      let text : block_at sizes.atom (joined image) (place_in turned-map b)
      ≡ block_at sizes.atom first (place_in stands.map b) =
      ap (λ n. block_at sizes.atom (joined image) n) (place-next b ∙ sym (place-here b))
      ∙ rest-atom b at in
      record {
        sealed = (
          is.sealed.0,
          text ∙ is.sealed.1
              ∙ ap (λ s. (seals_at sizes.atom c old new).sealed s b value) side,
        );
        opened = is.opened
            ∙ ap (λ s. (seals_at sizes.atom c old new).opened s b
            (block_at sizes.atom first (place_in stands.map b))) side
            ∙ ap (λ a. (seals_at sizes.atom c old new).opened (side_in turned-map b) b a) (sym text);
      }

  next-block : EachStands New → (b : ℕ) (side : Side)
      → side_in stands.map b ≡ side → Turns side (side_in turned-map b)
      → HoldsOnSide sizes c stands.map (seals_at sizes.atom c old new) first b (value_in content b) side
      → HoldsBlock turned-map (seals_at sizes.atom c old new) b (value_in content b)
      (block_at sizes.atom (joined image) (place_in turned-map b))
  next-block each b Old at turns is =
      other-block b (value_in content b) (beside b (λ e. let f : Old ≡ Zone = sym at ∙ e in cc)) (at ∙ sym turns) is
  next-block each b New at turns is =
      other-block b (value_in content b) (beside b (λ e. let f : New ≡ Zone = sym at ∙ e in cc)) (at ∙ sym turns) is
  next-block each b Zone at turns is =
      let text : block_at sizes.atom (joined image) (place_in turned-map b)
      ≡ (seals_at sizes.atom c old new).sealed New b (value_in content b) =
      ap (λ n. block_at sizes.atom (joined image) n) (place-next b)
      ∙ new-atom b (inside-zone b at) each in
      record {
        sealed = (
          subst (λ (n : ℕ). AreBlocks n 1 (value_in content b)) (sym map_is.atom) is.are,
          text ∙ ap (λ s. (seals_at sizes.atom c old new).sealed s b (value_in content b)) (sym turns),
        );
        opened = is.new
            ∙ ap (λ a. (seals_at sizes.atom c old new).opened New b a) (sym text)
            ∙ ap (λ s. (seals_at sizes.atom c old new).opened s b
            (block_at sizes.atom (joined image) (place_in turned-map b))) (sym turns);
      }

  now-moved : (m : List ℕ) → Gives header_reader (front_of sizes (joined image)) m
      → m ≡ zone.moved.means → EachStands New → StandsUnder sizes old new (joined image) content
  now-moved m gives is each =
      let loaded = loads (front_of sizes (joined image)) next moves.next_stored
      (subst (λ (x : List ℕ). Gives header_reader (front_of sizes (joined image)) x)
      (is ∙ by.moved) gives) in
      let meta : next.valid.meta ≡ loaded.0.valid.meta =
      ap (λ (v : Checked). v.meta) (sym loaded.2) in
      let plan = next-plan sizes c stands.map map_is in
      record {
        stored = loaded.0;
        header = subst (λ (s : Sizes). stored_in s (front_of sizes (joined image)) ≡ Ok loaded.0)
            moves.next_sizes loaded.1;
        placement = next-placement sizes c stands.map map_is;
        placed = inr (
          next-progress sizes c stands.map map_is,
          subst (λ (x : Parts). progress_of x sizes
              ≡ Some (next-progress sizes c stands.map map_is)) meta moves.gone.progress,
          next-placed sizes c stands.map map_is,
        );
        old_key = subst (λ (x : Parts). IsKeyOf x c.old old) meta
            (key-stays header.valid.meta sizes c plan next.valid.meta c.old old moves.gone old_key);
        new_key = subst (λ (x : Parts). IsKeyOf x c.new new) meta
            (key-stays header.valid.meta sizes c plan next.valid.meta c.new new moves.gone new_key);
        holds = record {
          count = holds.count;
          blocks = λ b below. next-block each b (side_in stands.map b) refl
              (next-turns sizes c stands.map map_is b) (holds.blocks b below);
        };
      }

  by-header : (m : List ℕ) → Gives header_reader (front_of sizes (joined image)) m
      → EachStands (side-by m) → Has zone.opened.means zone.moved.means m
      → ImageStandsUnder sizes old new (joined image) content
  by-header m gives each (inl (is, side)) =
      inr (still-open m gives is (subst (λ (s : Side). EachStands s) side each))
  by-header m gives each (inr (is, side)) =
      inl (now-moved m gives is (subst (λ (s : Side). EachStands s) side each))

  pub stands-on : ImageStandsUnder sizes old new (joined image) content
  stands-on =
      by-header found.0 (given found.0 found.2) found.3
      (which (stage_of phase) zone.opened.means zone.moved.means found.0 left.dated.later found.1)

pub mendings-keep : ZoneStands → ZoneImageTaken → ImageTaken → IsReader header_reader
    → LoadsByMeaning → MendingsKeepImages
mendings-keep zones zone_taken taken is_reader loads sizes header next c layout zone texts phase
    broken first cells image old new content some moves by are shows left held stands =
    stands-on zones zone_taken taken is_reader loads sizes header next c layout zone texts phase
    broken first cells image old new content some moves by are shows left held stands
