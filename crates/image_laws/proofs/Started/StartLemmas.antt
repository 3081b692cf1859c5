-- A volume with which a conversion begins stands for what it stood for.
use Rattle.std.proofs.Common.{◌≡◌, inl, inr, ℕ, ◌+◌, ◌*◌, ◌/◌, ◌<◌, ◌≤◌, ◌++◌, ◌^◌, List, length}
use Rattle.std.proofs.Common.{take}
use Rattle.std.proofs.Common.{true, false, Some, refl, sym, ◌∙◌, ap, subst, arith}
use Rattle.std.proofs.lemmas.List.Elements.{All-contains, All-contains_itself, All-weaker}
use Rattle.std.proofs.lemmas.List.Elements.{Contains-append_right}
use Rattle.std.specs.List.{All, Contains}
use Rattle.base_terms.specs.declared.disk_sizes.Sizes.{Sizes}
use Rattle.sector_disk.specs.DiskViews.Parts.{AreBlocks, block_at, value_in}
use Rattle.luks_meta.specs.declared.meta.Parts.{Parts}
use Rattle.luks_meta.specs.declared.segment.Segment.{Segment}
use Rattle.luks_rules.specs.Areas.{areas_begin, areas_of}
use Rattle.luks_rules.specs.Plain.{IsWithin}
use Rattle.luks_rules.specs.Segments.{in_progress}
use Rattle.luks_rules.specs.Shapes.{progress_of}
use Rattle.luks_rules.specs.declared.areas.Area.{Area}
use Rattle.luks_rules.specs.declared.extents.Extent.{Extent}
use Rattle.luks_rules.specs.declared.idle.Idle.{Idle}
use Rattle.luks_rules.specs.declared.shape.Progress.{Progress}
use Rattle.luks_slots.proofs.AreaLemmas.{some-atom}
use Rattle.luks_slots.proofs.ReadyLemmas.{IsWhole}
use Rattle.luks_slots.specs.Gaps.{IsApart}
use Rattle.luks_slots.specs.NewSlots.{area_len}
use Rattle.luks_slots.specs.declared.new_slot.NewSlot.{NewSlot}
use Rattle.luks_store.specs.Devices.{front_of}
use Rattle.luks_store.specs.declared.loaded.Stored.{Stored}
use Rattle.reenc_meta.specs.Placements.{IsIdlePlacement, PlacedBy, all_atoms, place_of}
use Rattle.reenc_meta.specs.Starts.{old_extent, progress_from, progress_to}
use Rattle.reenc_meta.specs.Wishes.{config_by, new_areas, offset_by}
use Rattle.reenc_meta.specs.declared.placement.Placement.{Placement}
use Rattle.reenc_meta.specs.declared.wish.Wish.{Wish}
use Rattle.reenc_recovery.specs.Images.{HoldsBlock, HoldsBlocks, StandsFor, StandsUnder, seals_in}
use Rattle.reenc_recovery.specs.Keys.{IsKeyOf, key_for, opened_by, sealed_by, tweak_by}
use Rattle.reenc_recovery.specs.Placings.{PlacesConversion, PlacesVolume}
use Rattle.sector_disk.specs.Geometry.{IsDisk}
use Rattle.segment_map.specs.declared.Side.{Side}
use Rattle.segment_map.specs.declared.Side.TheVariants.{Old, New}
use Rattle.image_laws.proofs.Started.AgreeLemmas.{IsReadAlike, all-alike, apart-among, same-behind}
use Rattle.image_laws.proofs.Started.BegunLemmas.{new-offset}
use Rattle.image_laws.proofs.Started.BlockLemmas.{block-behind, idle-rests, progress-busy}
use Rattle.image_laws.proofs.Started.GapLemmas.{one-header}
use Rattle.image_laws.proofs.Started.HeaderLemmas.{IsKnown, known-of}
use Rattle.image_laws.proofs.Started.KeyLemmas.{among-areas}
use Rattle.image_laws.proofs.Started.PlacedLemmas.{idle-fits, idle-place, idle-side, start-place}
use Rattle.image_laws.proofs.Started.PlacedLemmas.{start-placed, start-placement, start-side}
use Rattle.image_laws.proofs.Started.RekeyedLemmas.{new, new-given, new-right, next, next-is}
use Rattle.image_laws.proofs.Started.RekeyedLemmas.{old, old-given, old-right, segment, whole}
use Rattle.image_laws.specs.Started.Gaps.{AgreeBut, key_areas}
use Rattle.image_laws.specs.Started.Starting.{HoldsStarted, IsRekeyed, StandsOld, StandsOldFor}
use Rattle.image_laws.specs.Started.Starting.{StandsStarted, StartedVolumesStand}
use Rattle.volume_machine.specs.Pieces.{place_in, side_in}

-- ---- blocks that were new under a key are old under it
module _ (atom : ℕ) (p q : Placement) (v : Idle) (old new key : List ℕ) (b : ℕ)
    (value bytes : List ℕ) (was : side_in p.map b ≡ New) (is : side_in q.map b ≡ Old)
    (sizes : p.map.atom ≡ q.map.atom) (of : p.new ≡ v.segment) (to : q.old ≡ old_extent v) where
  sealed-same : (seals_in atom p old new).sealed (side_in p.map b) b value
      ≡ (seals_in atom q new key).sealed (side_in q.map b) b value
  sealed-same =
      ap (λ (s : Side). (seals_in atom p old new).sealed s b value) was
      ∙ ap (λ (e : Extent). sealed_by e.encryption new (tweak_by e.encryption + b * (atom / 512))
      value) of
      ∙ sym (ap (λ (e : Extent). sealed_by e.encryption new
      (tweak_by e.encryption + b * (atom / 512)) value) to)
      ∙ sym (ap (λ (s : Side). (seals_in atom q new key).sealed s b value) is)

  opened-same : (seals_in atom p old new).opened (side_in p.map b) b bytes
      ≡ (seals_in atom q new key).opened (side_in q.map b) b bytes
  opened-same =
      ap (λ (s : Side). (seals_in atom p old new).opened s b bytes) was
      ∙ ap (λ (e : Extent). opened_by e.encryption new (tweak_by e.encryption + b * (atom / 512))
      bytes) of
      ∙ sym (ap (λ (e : Extent). opened_by e.encryption new
      (tweak_by e.encryption + b * (atom / 512)) bytes) to)
      ∙ sym (ap (λ (s : Side). (seals_in atom q new key).opened s b bytes) is)

  block-old : HoldsBlock p.map (seals_in atom p old new) b value bytes
      → HoldsBlock q.map (seals_in atom q new key) b value bytes
  block-old holds = record {
    sealed = (
      subst (λ (a : ℕ). AreBlocks a 1 value) sizes holds.sealed.0,
      holds.sealed.1 ∙ sealed-same,
    );
    opened = holds.opened ∙ opened-same;
  }

-- ---- both images
module _ (sizes : Sizes) (header : Stored) (v : Idle) (w : Wish) (pass key : List ℕ)
    (besides : List Area) (offset : ℕ) (slot : NewSlot) (first now : List ℕ)
    (disk : IsDisk sizes.atom (all_atoms sizes))
    (begins : IsRekeyed header.valid.meta sizes v w pass key besides offset slot)
    (holds : HoldsStarted sizes header v w key offset slot first now) where
  abbrev m : Parts
  m = header.valid.meta

  known : IsKnown sizes m
  known = known-of sizes (front_of sizes first) header (some-atom sizes.atom disk.known) holds.was

  -- the metadata that the other holds, and how far the conversion is by them
  abbrev made : Parts
  made = next sizes m v w pass key besides offset slot known begins

  abbrev segment-made : Segment
  segment-made = new sizes m v w pass key besides offset slot known begins

  abbrev whole-made : Extent
  whole-made = whole sizes m v w pass key besides offset slot known begins

  meta-made : holds.stored.valid.meta ≡ made
  meta-made =
      holds.started.is ∙ next-is sizes m v w pass key besides offset slot known begins

  abbrev progress : Progress
  progress = progress_to w m v segment-made

  progress-made : progress_of holds.stored.valid.meta sizes ≡ Some progress
  progress-made =
      holds.started.progress begins.room
      ∙ ap (progress_from sizes.atom w m v)
      (segment sizes m v w pass key besides offset slot known begins).1

  busy-made : in_progress holds.stored.valid.meta.config ≡ true
  busy-made = progress-busy holds.stored.valid.meta sizes progress progress-made

  -- ---- what is the same
  abbrev begin : ℕ
  begin = areas_begin (config_by w m.config)

  agree : AgreeBut begin offset (area_len (length key)) first now
  agree =
      subst (λ (n : Parts). AgreeBut (areas_begin n.config) offset (area_len (length key)) first now)
      meta-made holds.agree

  read : All (IsReadAlike first now) (key_areas m.keyslots)
  read =
      all-alike begin offset (area_len (length key)) first now agree sizes.atom
      (key_areas m.keyslots) disk.known
      (among-areas (λ (a : Area). begin ≤ a.offset) m.keyslots
      (All-weaker (Contains (areas_of m.keyslots)) (λ (a : Area). begin ≤ a.offset)
      (λ a there. (All-contains (IsWithin (config_by w m.config))
      (new_areas w ++ areas_of m.keyslots) a begins.room.gaps.within
      (Contains-append_right (new_areas w) (areas_of m.keyslots) a there)).0)
      (areas_of m.keyslots) (All-contains_itself (areas_of m.keyslots))))
      (among-areas (IsWhole sizes.atom) m.keyslots known.sound.atoms.areas)
      (among-areas (IsApart offset (area_len (length key))) m.keyslots
      (apart-among offset (area_len (length key)) (areas_of m.keyslots) besides
      begins.free.apart))

  -- ---- a placement that the first has
  module _ (p : Placement) (placed : IsIdlePlacement sizes v p)
      (volume : PlacesVolume m sizes p) where
    moved : whole-made.offset ≡ offset_by w.direction w.area.resilience v.segment.offset
    moved =
        new-offset w (old sizes m v w pass key besides offset slot known begins)
        (v.blocks * sizes.atom)
        ∙ ap (λ (e : Extent). offset_by w.direction w.area.resilience e.offset)
        (segment sizes m v w pass key besides offset slot known begins).2

    fits : place_of sizes v.segment + v.blocks ≤ 2 ^ 64
    fits = idle-fits sizes v p placed

    abbrev q : Placement
    q = start-placement sizes w.direction w.area.resilience v whole-made disk fits
        begins.room.safe moved

    now-placed : PlacesConversion holds.stored.valid.meta sizes q
    unfolding progress_to
    now-placed = (
      progress,
      progress-made,
      start-placed sizes w.direction w.area.resilience v whole-made disk fits begins.room.safe
          moved progress refl refl refl refl,
    )

    old-side : (b : ℕ) → b < v.blocks → side_in q.map b ≡ Old
    old-side b below =
        start-side sizes w.direction w.area.resilience v whole-made disk fits begins.room.safe
        moved b below

    same-place : (b : ℕ) → b < v.blocks → place_in q.map b ≡ place_in p.map b
    same-place b below =
        start-place sizes w.direction w.area.resilience v whole-made disk fits begins.room.safe
        moved b below
        ∙ sym (idle-place sizes v p placed b below)

    same-block : (b : ℕ) → b < v.blocks
        → block_at sizes.atom now (place_in q.map b)
        ≡ block_at sizes.atom first (place_in p.map b)
    same-block b below =
        let end = block-behind m sizes p disk.known known.sound b volume in
        let before = begins.free.before in
        ap (block_at sizes.atom now) (same-place b below)
        ∙ ap (take sizes.atom)
        (same-behind begin offset (area_len (length key)) first now agree
        (place_in p.map b * sizes.atom) (omega (arith, end, before)))

    all-held : (one other : List ℕ) (content : List (List ℕ))
        → HoldsBlocks sizes.atom p one other first content
        → HoldsBlocks sizes.atom q other key now content
    all-held one other content held = record {
      count = held.count ∙ placed.blocks;
      blocks = λ b below.
          let count = placed.blocks in
          subst (λ (bytes : List ℕ). HoldsBlock q.map (seals_in sizes.atom q other key) b
          (value_in content b) bytes) (sym (same-block b below))
          (block-old sizes.atom p q v one other key b (value_in content b)
          (block_at sizes.atom first (place_in p.map b)) (idle-side sizes v p placed b below)
          (old-side b below) placed.atom placed.new refl
          (held.blocks b (omega (arith, below, count))));
    }

  -- ---- what the first stands for
  idle-by : (p : Placement) → PlacesVolume m sizes p → IsIdlePlacement sizes v p
  idle-by p (inl placed) = subst (λ o. PlacedBy sizes o p) begins.idle placed
  idle-by p (inr (c, is, placed)) =
      let bad : true ≡ false =
      sym (progress-busy m sizes c is) ∙ idle-rests m sizes v begins.idle in absurd cc

  module _ (one other : List ℕ) (content : List (List ℕ))
      (stands : StandsUnder sizes one other first content) where
    there : stands.stored.valid.meta ≡ m
    there =
        ap (λ (s : Stored). s.valid.meta)
        (one-header sizes first stands.stored header stands.header holds.was)

    volume : PlacesVolume m sizes stands.placement
    volume =
        subst (λ (x : Parts). PlacesVolume x sizes stands.placement) there stands.placed

    placed : IsIdlePlacement sizes v stands.placement
    placed = idle-by stands.placement volume

    old-key : IsKeyOf m v.segment other
    old-key =
        subst (λ (e : Extent). IsKeyOf m e other) placed.new
        (subst (λ (x : Parts). IsKeyOf x stands.placement.new other) there stands.new_key)

    abbrev there-now : Placement
    there-now = q stands.placement placed volume

    abbrev stands-now : StandsUnder sizes other key now content
    stands-now = record {
      stored = holds.stored;
      header = holds.held;
      placement = there-now;
      placed = inr (now-placed stands.placement placed volume);
      old_key = subst (λ (x : Parts). IsKeyOf x (old_extent v) other) (sym meta-made)
          (old-right sizes m v w pass key besides offset slot known begins other old-key);
      new_key = subst (λ (x : Parts). IsKeyOf x whole-made key) (sym meta-made)
          (new-right sizes m v w pass key besides offset slot known begins);
      holds = all-held stands.placement placed volume one other content stands.holds;
    }

    under-old : StandsOld sizes other key now content
    under-old = record {
      stands = stands-now;
      all_old = λ b below. old-side stands.placement placed volume b below;
    }

  given-old : (content : List (List ℕ)) (stands : StandsFor sizes pass first content)
      → key_for holds.stored.valid.meta now pass (old_extent v) ≡ Some stands.new
  given-old content stands =
      let under = stands.stands in
      ap (λ (x : Parts). key_for x now pass (old_extent v)) meta-made
      ∙ old-given sizes m v w pass key besides offset slot known begins first now read
      ∙ sym (ap (λ (x : Parts). key_for x first pass v.segment)
      (there stands.old stands.new content under))
      ∙ sym (ap (key_for under.stored.valid.meta first pass)
      (placed stands.old stands.new content under).new)
      ∙ stands.new_is

  given-new : key_for holds.stored.valid.meta now pass whole-made ≡ Some key
  given-new =
      ap (λ (x : Parts). key_for x now pass whole-made) meta-made
      ∙ new-given sizes m v w pass key besides offset slot known begins now holds.slot_stands

  for-old : (content : List (List ℕ)) (stands : StandsFor sizes pass first content)
      → StandsOldFor sizes pass stands.new key now content
  for-old content stands = record {
    stands = record {
      old = stands.new;
      new = key;
      stands = stands-now stands.old stands.new content stands.stands;
      old_is = given-old content stands;
      new_is = given-new;
    };
    old_key = refl;
    new_key = refl;
    all_old = λ b below.
        old-side stands.stands.placement (placed stands.old stands.new content stands.stands)
        (volume stands.old stands.new content stands.stands) b below;
  }

  stands-started : StandsStarted sizes pass key first now
  stands-started = record {
    busy = λ rests.
        let idle : in_progress holds.stored.valid.meta.config ≡ false =
        rests holds.stored holds.held in
        let bad : true ≡ false = sym busy-made ∙ idle in absurd cc;
    keys = λ one other content stands. under-old one other content stands;
    passphrase = for-old;
  }

pub started-stand : StartedVolumesStand
started-stand sizes header v w pass key besides offset slot first now disk begins holds =
    stands-started sizes header v w pass key besides offset slot first now disk begins holds
