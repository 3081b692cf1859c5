-- Each image that a stop leaves while a zone is led stands for what the bytes stood for from which it
-- is led.
use Rattle.std.proofs.Common.{length, Ok, Some, sym, ◌∙◌, ap, subst, arith}
use Rattle.std.proofs.Common.{◌≡◌, ◌≢◌, ◌⊎◌, inl, inr, ℕ, ◌+◌, ◌*◌, ◌<◌, ◌≤◌, Bool, List}
use Rattle.std.proofs.Math.Nat.{le_of_mul-le-mul_right, mul-le-mul_right}
use Rattle.std.proofs.lemmas.Bool.{cases_lt}
use Rattle.base_terms.specs.Blocks.{joined}
use Rattle.crash_laws.specs.HeaderAreas.Areas.{Area}
use Rattle.crash_laws.specs.HeaderAreas.Headers.{Gives, Header, IsHeader, IsLaidOut, IsReader, Layout}
use Rattle.crash_laws.specs.HeaderAreas.Promises.{ImageTaken}
use Rattle.base_terms.specs.declared.disk_sizes.Sizes.{Sizes}
use Rattle.sector_disk.proofs.DiskViews.Entries.{image_in}
use Rattle.sector_disk.specs.DiskViews.Parts.{block_at, value_in}
use Rattle.sector_disk.specs.DiskViews.Views.{IsOutside}
use Rattle.crash_laws.specs.HotZones.Promises.{ZoneImageTaken, ZoneStands}
use Rattle.crash_laws.specs.HotZones.Standing.{HasHeaders, side_after}
use Rattle.crash_laws.specs.HotZones.Standing.{side_before}
use Rattle.crash_laws.specs.HotZones.Zones.{Hotzone, Phase, Texts, datashift, from_of}
use Rattle.crash_laws.specs.HotZones.Zones.{to_of}
use Rattle.luks_store.specs.Copying.Meanings.{header_reader}
use Rattle.luks_meta.specs.declared.meta.Parts.{Parts}
use Rattle.luks_rules.specs.Shapes.{progress_of}
use Rattle.luks_rules.specs.States.{IsSound}
use Rattle.luks_rules.specs.declared.extents.Extent.{Extent}
use Rattle.luks_rules.specs.declared.shape.Progress.{Progress}
use Rattle.luks_rules.specs.declared.valid.Checked.{Checked}
use Rattle.luks_store.specs.Devices.{front_of}
use Rattle.luks_store.specs.Loads.{stored_in}
use Rattle.luks_store.specs.Promises.{LoadsByMeaning}
use Rattle.luks_store.specs.declared.loaded.Stored.{Stored}
use Rattle.image_laws.proofs.Opened.AtomLemmas.{none-behind}
use Rattle.image_laws.proofs.Opened.FrontLemmas.{block-lies}
use Rattle.image_laws.proofs.Opened.MovedLemmas.{key-stays}
use Rattle.image_laws.proofs.Opened.TurnLemmas.{LiesBeside}
use Rattle.image_laws.specs.Opened.Images.{seals_at}
use Rattle.reenc_meta.specs.Moves.{opened}
use Rattle.reenc_meta.specs.Placements.{place_of}
use Rattle.reenc_meta.specs.declared.placement.Placement.{Placement}
use Rattle.reenc_recovery.specs.Images.{HoldsBlock, StandsUnder, seals_in}
use Rattle.reenc_recovery.specs.Keys.{IsKeyOf}
use Rattle.reenc_recovery.specs.Placings.{IsConvertingPlacement, PlacesVolume}
use Rattle.sector_disk.specs.Cells.{Cell}
use Rattle.segment_map.specs.declared.Side.TheVariants.{New, Old, Zone}
use Rattle.segment_map.specs.declared.Side.{Side}
use Rattle.segment_map.specs.declared.map.Map.{Map}
use Rattle.image_laws.proofs.Started.GapLemmas.{one-header}
use Rattle.image_laws.proofs.Started.HeaderLemmas.{known-of}
use Rattle.volume_machine.specs.Pieces.{place_in}
use Rattle.volume_machine.specs.Seals.{AreLawful, Seals}
use Rattle.image_laws.proofs.Led.ContentLemmas.{HasContent, place-here, stands-moved, stands-open}
use Rattle.image_laws.proofs.Led.FoundLemmas.{EachStands, Found, IsLeftAt, atom-of, found}
use Rattle.image_laws.proofs.Led.FoundLemmas.{new-in, tells-in}
use Rattle.image_laws.proofs.Led.FoundLemmas.{long as image-length}
use Rattle.image_laws.proofs.Led.LedContentLemmas.{closed-holds, led-content, open-is, open-map}
use Rattle.image_laws.proofs.Led.LedPhaseLemmas.{Turns, converting, led-phase, lies, opens-as-long}
use Rattle.image_laws.proofs.Led.LedPhaseLemmas.{seals-as, turn-of}
use Rattle.image_laws.specs.Led.Leading.{AreFirstIn, IsLedZone, IsLeftWhile, LeadingsKeepImages}
use Rattle.image_laws.specs.Led.Leading.{LeadsOver, ShowsLeading, StandsLed, open_in}
use Rattle.image_laws.specs.Led.Turned.{ClosedBy, OpenBy}

module _ (zones : ZoneStands) (zone_taken : ZoneImageTaken) (taken : ImageTaken)
    (is_reader : IsReader header_reader) (loads : LoadsByMeaning) (sizes : Sizes)
    (before header next stored : Stored) (closed : Progress) (n : ℕ) (layout : Layout)
    (zone : Hotzone (List ℕ)) (texts : Texts) (phase : Phase) (broken : Bool) (first : List ℕ)
    (cells : List Cell) (image : List (List ℕ)) (old new : List ℕ) (content : List (List ℕ))
    (some : 0 < sizes.atom)
    (lawful : AreLawful sizes.atom (seals_at sizes.atom (open_in n closed) old new))
    (over : LeadsOver sizes before header next closed n)
    (led : IsLedZone sizes before header next (open_in n closed) layout zone)
    (are : AreFirstIn sizes.atom (open_in n closed).plan.first
    (seals_at sizes.atom (open_in n closed) old new) zone first texts)
    (shows : ShowsLeading sizes layout zone texts phase broken first cells)
    (left : IsLeftWhile sizes zone phase cells image)
    (held : stored_in sizes (front_of sizes first) ≡ Ok stored)
    (alike : stored.valid ≡ before.valid) (stands : StandsUnder sizes old new first content) where
  abbrev c : Progress
  c = open_in n closed

  abbrev p : Placement
  p = stands.placement

  -- ---- what the bytes say
  same : stands.stored.valid.meta ≡ before.valid.meta
  same =
      ap (λ (s : Stored). s.valid.meta)
      (one-header sizes first stands.stored stored stands.header held)
      ∙ ap (λ (v : Checked). v.meta) alike

  sound : IsSound before.valid.meta sizes
  sound =
      subst (λ (v : Checked). IsSound v.meta sizes) alike
      (known-of sizes (front_of sizes first) stored some held).sound

  placed : IsConvertingPlacement sizes closed p
  placed =
      converting before.valid.meta sizes closed p over.known
      (subst (λ (m : Parts). PlacesVolume m sizes p) same stands.placed)

  seals-are : seals_in sizes.atom p old new ≡ seals_at sizes.atom c old new
  seals-are = seals-as sizes closed n p placed old new

  first-block : (b : ℕ) → b < p.map.blocks → HoldsBlock p.map (seals_at sizes.atom c old new) b
      (value_in content b) (block_at sizes.atom first (place_in p.map b))
  first-block b below =
      subst (λ (s : Seals). HoldsBlock p.map s b (value_in content b)
      (block_at sizes.atom first (place_in p.map b))) seals-are (stands.holds.blocks b below)

  old-key : IsKeyOf before.valid.meta closed.old old
  old-key =
      subst (λ (e : Extent). IsKeyOf before.valid.meta e old) placed.old
      (subst (λ (m : Parts). IsKeyOf m p.old old) same stands.old_key)

  new-key : IsKeyOf before.valid.meta closed.new new
  new-key =
      subst (λ (e : Extent). IsKeyOf before.valid.meta e new) placed.new
      (subst (λ (m : Parts). IsKeyOf m p.new new) same stands.new_key)

  old-key-open : IsKeyOf header.valid.meta c.old old
  old-key-open =
      key-stays before.valid.meta sizes closed (opened closed.conversion.direction n closed.plan)
      header.valid.meta closed.old old over.opens old-key

  new-key-open : IsKeyOf header.valid.meta c.new new
  new-key-open =
      key-stays before.valid.meta sizes closed (opened closed.conversion.direction n closed.plan)
      header.valid.meta closed.new new over.opens new-key

  -- ---- the zone
  count : zone.own.count ≡ c.plan.zone
  count = ap (λ (a : Area). a.count) led.opened.own

  start : zone.own.start ≡ place_of sizes closed.old + c.plan.first
  start = ap (λ (a : Area). a.start) led.opened.own

  abbrev map : Map
  map = open-map sizes closed n over.none over.left p.map placed.map

  has : HasContent sizes c map (seals_at sizes.atom c old new) texts first content
  has =
      led-content sizes closed n over.none over.left over.moves.in_place p placed old new lawful zone
      texts first content start count are first-block stands.holds.count

  place-is : (b : ℕ) → place_in map b ≡ place_of sizes closed.old + b
  place-is =
      place-here sizes c map (open-is sizes closed n over.none over.left p.map placed.map)
      over.moves.in_place

  behind-copies : (b : ℕ) → layout.second.start + layout.second.count ≤ place_in map b
  behind-copies b =
      let low = block-lies before.valid.meta sizes closed sound over.known p.map placed.map b in
      let begin = led.opened.begin in
      let same_size = opens-as-long before.valid.meta sizes closed
      (opened closed.conversion.direction n closed.plan) header.valid.meta over.opens in
      let same_place : place_in p.map b ≡ place_in map b =
      place-here sizes closed p.map placed.map over.moves.in_place b ∙ sym (place-is b) in
      let same_byte = ap (λ k. k * sizes.atom) same_place in
      le_of_mul-le-mul_right (omega (arith, low, begin, same_size, same_byte)) some

  out : (b : ℕ) → LiesBeside c.plan b → IsOutside zone.own.start zone.own.count (place_in map b)
  out b (inl low) = let at = place-is b in inl (omega (arith, low, at, start))
  out b (inr high) = let at = place-is b in inr (omega (arith, high, at, start, count))

  out-store : (b : ℕ) → IsOutside zone.store.start zone.store.count (place_in map b)
  out-store b = let at = place-is b in let end = led.store in inr (omega (arith, at, end))

  -- ---- the image
  whole-at : Turns zone phase → HasHeaders header_reader zone phase
  whole-at (inl t) = record {
    before = subst (λ (h : Header (List ℕ)). IsHeader header_reader h) (sym t.from_is) led.whole;
    after = subst (λ (h : Header (List ℕ)). IsHeader header_reader h) (sym t.to_is)
        led.opened.whole;
  }
  whole-at (inr t) = record {
    before = subst (λ (h : Header (List ℕ)). IsHeader header_reader h) (sym t.from_is)
        led.opened.whole;
    after = subst (λ (h : Header (List ℕ)). IsHeader header_reader h) (sym t.to_is)
        led.opened.moved_whole;
  }

  laid-at : Turns zone phase → IsLaidOut sizes.atom sizes.header_atoms
      (header_reader.size (from_of zone phase).means) layout
  laid-at (inl t) =
      subst (λ (h : Header (List ℕ)). IsLaidOut sizes.atom sizes.header_atoms
      (header_reader.size h.means) layout) (sym t.from_is)
      (subst (λ (k : ℕ). IsLaidOut sizes.atom sizes.header_atoms k layout) led.same_size
      led.opened.laid)
  laid-at (inr t) =
      subst (λ (h : Header (List ℕ)). IsLaidOut sizes.atom sizes.header_atoms
      (header_reader.size h.means) layout) (sym t.from_is) led.opened.laid

  at : Turns zone phase
  at = turn-of zone phase shows.phased

  unshifted : zone.resilience ≢ datashift
  unshifted = λ is. led.opened.guarded (sym led.opened.kind ∙ is)

  left-at : IsLeftAt sizes zone phase cells image
  left-at = record {
    is = left.is;
    even = left.even;
    handed = left.handed;
    dated = left.dated;
    genuine = left.genuine;
  }

  has-found : Found sizes zone texts phase image
  has-found =
      found zones zone_taken taken is_reader sizes layout zone texts phase broken cells image
      (led-phase zone.resilience phase unshifted shows.phased) (whole-at at) are.kept (laid-at at)
      shows.within
      shows.header_atoms left-at shows.shows

  value-at : (place : ℕ) → place < length cells
      → block_at sizes.atom (joined image) place ≡ value_in image place
  value-at place below =
      atom-of zones zone_taken taken is_reader sizes layout zone texts phase broken cells image
      (led-phase zone.resilience phase unshifted shows.phased) (whole-at at) are.kept (laid-at at)
      shows.within
      shows.header_atoms left-at shows.shows place below

  rest-is : (b : ℕ) → LiesBeside c.plan b
      → block_at sizes.atom (joined image) (place_in map b)
      ≡ block_at sizes.atom first (place_in map b)
  rest-is b beside =
      elim (cases_lt (place_in map b) (length cells))
      as (λ _. block_at sizes.atom (joined image) (place_in map b)
      ≡ block_at sizes.atom first (place_in map b)) [
        | inl below ↦
            value-at (place_in map b) below
            ∙ shows.rest (place_in map b) (behind-copies b) below (out b beside) (out-store b)
            (value_in image (place_in map b)) (image_in cells image (place_in map b) left.is below)
        | inr far ↦
            none-behind sizes.atom (length cells) (place_in map b) (joined image) first
            (image-length zones zone_taken taken is_reader sizes layout zone texts phase broken cells
            image (led-phase zone.resilience phase unshifted shows.phased) (whole-at at) are.kept
            (laid-at at) shows.within shows.header_atoms left-at shows.shows) shows.long
            (mul-le-mul_right sizes.atom far)
      ]

  -- its atoms by the side on which each block stands
  own-new : EachStands zone texts image New → (i : ℕ) → i < zone.own.count
      → block_at sizes.atom (joined image) (zone.own.start + i) ≡ texts.new i
  own-new =
      new-in sizes c zone texts image (length cells) shows.within value-at unshifted

  own-old : EachStands zone texts image Old → (i : ℕ) → i < zone.own.count
      → block_at sizes.atom (joined image) (zone.own.start + i) ≡ texts.old i
  own-old each i here =
      let fits = shows.within.own in
      value-at (zone.own.start + i) (omega (arith, here, fits)) ∙ each i here

  -- ---- by each of the headers
  by-open : Gives header_reader (front_of sizes (joined image)) zone.opened.means
      → EachStands zone texts image Zone → OpenBy sizes header old new (joined image) content
  by-open gives each =
      let by = stands-open sizes c map (open-is sizes closed n over.none over.left p.map placed.map)
      over.moves.in_place old new texts first (joined image) content has rest-is
      (λ i few. tells-in sizes c zone texts image (length cells) shows.within value-at led.opened.kind
      led.opened.own led.opened.store are.kept each i (omega (arith, few, count))) loads header
      over.moves.stored over.moves.sizes_are
      (subst (λ (x : List ℕ). Gives header_reader (front_of sizes (joined image)) x)
      led.opened.opened gives) over.moves.known over.moves.some old-key-open new-key-open in
      record { stands = by.stands; valid = by.valid }

  by-moved : Gives header_reader (front_of sizes (joined image)) zone.moved.means
      → EachStands zone texts image New → ClosedBy sizes next old new (joined image) content
  by-moved gives each =
      let by = stands-moved sizes c map (open-is sizes closed n over.none over.left p.map placed.map)
      over.moves.in_place old new texts first (joined image) content has rest-is
      (λ i few. ap (λ k. block_at sizes.atom (joined image) (k + i)) (sym start)
      ∙ own-new each i (omega (arith, few, count))) loads header.valid.meta next
      over.moves.next_stored over.moves.next_sizes
      (subst (λ (x : List ℕ). Gives header_reader (front_of sizes (joined image)) x)
      led.opened.moved gives) over.moves.gone old-key-open new-key-open in
      record { stands = by.stands; valid = by.valid }

  by-closed : Gives header_reader (front_of sizes (joined image)) zone.before.means
      → EachStands zone texts image Old → ClosedBy sizes before old new (joined image) content
  by-closed gives each =
      let loaded = loads (front_of sizes (joined image)) before over.stored
      (subst (λ (x : List ℕ). Gives header_reader (front_of sizes (joined image)) x) led.closed gives)
      in
      let meta : before.valid.meta ≡ loaded.0.valid.meta =
      ap (λ (v : Checked). v.meta) (sym loaded.2) in
      let holds = closed-holds sizes closed n over.none over.left over.moves.in_place p placed old new
      lawful zone texts first content start count are first-block stands.holds.count (joined image)
      rest-is (λ i few. ap (λ k. block_at sizes.atom (joined image) (k + i)) (sym start)
      ∙ own-old each i (omega (arith, few, count))) (lies c.plan) in
      record {
        stands = record {
          stored = loaded.0;
          header = subst (λ (s : Sizes). stored_in s (front_of sizes (joined image)) ≡ Ok loaded.0)
              over.sizes_are loaded.1;
          placement = p;
          placed = inr (
            closed,
            subst (λ (m : Parts). progress_of m sizes ≡ Some closed) meta over.known,
            placed,
          );
          old_key = subst (λ (m : Parts). IsKeyOf m p.old old) (same ∙ meta) stands.old_key;
          new_key = subst (λ (m : Parts). IsKeyOf m p.new new) (same ∙ meta) stands.new_key;
          holds = record {
            count = stands.holds.count;
            blocks = λ b below. subst (λ (s : Seals). HoldsBlock p.map s b (value_in content b)
                (block_at sizes.atom (joined image) (place_in p.map b))) (sym seals-are)
                (holds b below);
          };
        };
        valid = loaded.2;
      }

  abbrev Given : List ℕ → Type 0
  Given m = Gives header_reader (front_of sizes (joined image)) m

  by-turn : Turns zone phase → (m : List ℕ) → Given m
      → ((m ≡ (from_of zone phase).means) × EachStands zone texts image (side_before phase))
      ⊎ ((m ≡ (to_of zone phase).means) × EachStands zone texts image (side_after phase))
      → StandsLed sizes before header next old new (joined image) content
  by-turn (inl t) m gives (inl (is, each)) =
      inl (by-closed (subst (λ (x : List ℕ). Given x)
      (is ∙ ap (λ (h : Header (List ℕ)). h.means) t.from_is) gives)
      (subst (λ (s : Side). EachStands zone texts image s) t.near_is each))
  by-turn (inl t) m gives (inr (is, each)) =
      inr (inl (by-open (subst (λ (x : List ℕ). Given x)
      (is ∙ ap (λ (h : Header (List ℕ)). h.means) t.to_is) gives)
      (subst (λ (s : Side). EachStands zone texts image s) t.far_is each)))
  by-turn (inr t) m gives (inl (is, each)) =
      inr (inl (by-open (subst (λ (x : List ℕ). Given x)
      (is ∙ ap (λ (h : Header (List ℕ)). h.means) t.from_is) gives)
      (subst (λ (s : Side). EachStands zone texts image s) t.near_is each)))
  by-turn (inr t) m gives (inr (is, each)) =
      inr (inr (by-moved (subst (λ (x : List ℕ). Given x)
      (is ∙ ap (λ (h : Header (List ℕ)). h.means) t.to_is) gives)
      (subst (λ (s : Side). EachStands zone texts image s) t.far_is each)))

  pub led-stands : StandsLed sizes before header next old new (joined image) content
  led-stands = by-turn at has-found.means has-found.gives has-found.by

pub leadings-keep : ZoneStands → ZoneImageTaken → ImageTaken → IsReader header_reader
    → LoadsByMeaning → LeadingsKeepImages
leadings-keep zones zone_taken taken is_reader loads sizes before header next stored closed n layout
    zone texts phase broken first cells image old new content some lawful over led are shows left held
    alike stands =
    led-stands zones zone_taken taken is_reader loads sizes before header next stored closed n layout
    zone texts phase broken first cells image old new content some lawful over led are shows left held
    alike stands
