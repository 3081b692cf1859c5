-- What bytes say whose header has a zone open, from which it is written again, and what other bytes
-- stand for that have every atom behind the copies where these have it, but for the zone's.
use Rattle.std.proofs.Common.{◌≡◌, inl, inr, ℕ, ◌+◌, ◌<◌, ◌≤◌, List, Ok, Some, sym, ◌∙◌, ap}
use Rattle.std.proofs.Common.{subst, arith}
use Rattle.std.proofs.Math.Nat.{le_of_mul-le-mul_right}
use Rattle.crash_laws.specs.HeaderAreas.Areas.{Area}
use Rattle.crash_laws.specs.HeaderAreas.Headers.{Gives, Layout}
use Rattle.base_terms.specs.declared.disk_sizes.Sizes.{Sizes}
use Rattle.sector_disk.specs.DiskViews.Parts.{block_at, value_in}
use Rattle.sector_disk.specs.DiskViews.Views.{IsOutside}
use Rattle.crash_laws.specs.HotZones.Standing.{Recovers}
use Rattle.crash_laws.specs.HotZones.Zones.{Hotzone, Texts}
use Rattle.luks_store.specs.Copying.Meanings.{header_reader}
use Rattle.luks_meta.specs.declared.meta.Parts.{Parts}
use Rattle.luks_rules.specs.Shapes.{progress_of}
use Rattle.luks_rules.specs.States.{IsSound}
use Rattle.luks_rules.specs.declared.shape.Progress.{Progress}
use Rattle.luks_rules.specs.declared.valid.Checked.{Checked}
use Rattle.luks_store.specs.Devices.{front_of}
use Rattle.luks_store.specs.Loads.{stored_in}
use Rattle.luks_store.specs.Promises.{LoadsByMeaning}
use Rattle.luks_store.specs.declared.loaded.Stored.{Stored}
use Rattle.image_laws.proofs.Opened.FrontLemmas.{block-lies}
use Rattle.image_laws.proofs.Opened.OneLemmas.{same-progress}
use Rattle.image_laws.proofs.Opened.TurnLemmas.{LiesBeside}
use Rattle.image_laws.specs.Opened.Images.{HoldsOpen, HoldsSaved, OpenStandsUnder, atom_in, seals_at}
use Rattle.image_laws.specs.Opened.Mending.{AreTextsOf, IsZoneOf, MovesOver}
use Rattle.image_laws.specs.Opened.Zones.{zone_of}
use Rattle.reenc_meta.specs.ConversionMaps.{IsMapAt}
use Rattle.reenc_meta.specs.Layouts.{progress_at}
use Rattle.reenc_meta.specs.Moves.{moved}
use Rattle.reenc_meta.specs.Placements.{place_of}
use Rattle.reenc_recovery.specs.Keys.{IsKeyOf}
use Rattle.image_laws.proofs.Started.GapLemmas.{one-header}
use Rattle.image_laws.proofs.Started.HeaderLemmas.{known-of}
use Rattle.volume_machine.specs.Pieces.{place_in}
use Rattle.volume_machine.specs.Saved.{saved_hash}
use Rattle.image_laws.proofs.Led.ContentLemmas.{ClosesBy, HasContent, OpensBy, place-here}
use Rattle.image_laws.proofs.Led.ContentLemmas.{stands-moved, stands-open}
use Rattle.image_laws.proofs.Led.SavedContentLemmas.{held-zone, open-content}

-- every atom behind the copies but the zone's is where these bytes have it
abbrev pub HasRest : Sizes → Layout → Hotzone (List ℕ) → List ℕ → List ℕ → Type 0
HasRest sizes layout zone first now =
    (place : ℕ) → layout.second.start + layout.second.count ≤ place
    → IsOutside zone.own.start zone.own.count place
    → block_at sizes.atom now place ≡ block_at sizes.atom first place

-- ---- what they say
module _ (sizes : Sizes) (header stored : Stored) (c : Progress) (first old new : List ℕ)
    (content : List (List ℕ)) (some : 0 < sizes.atom)
    (known : progress_of header.valid.meta sizes ≡ Some c)
    (held : stored_in sizes (front_of sizes first) ≡ Ok stored)
    (alike : stored.valid ≡ header.valid) (stands : OpenStandsUnder sizes old new first content)
  where
    pub same : stands.stored.valid.meta ≡ header.valid.meta
    same =
        ap (λ (s : Stored). s.valid.meta)
        (one-header sizes first stands.stored stored stands.header held)
        ∙ ap (λ (v : Checked). v.meta) alike

    pub sound : IsSound header.valid.meta sizes
    sound =
        subst (λ (v : Checked). IsSound v.meta sizes) alike
        (known-of sizes (front_of sizes first) stored some held).sound

    pub now-is : stands.now ≡ c
    now-is =
        same-progress (progress_of header.valid.meta sizes) stands.now c
        (subst (λ (m : Parts). progress_of m sizes ≡ Some stands.now) same stands.known) known

    pub map-here : IsMapAt sizes c stands.map
    map-here = subst (λ (p : Progress). IsMapAt sizes p stands.map) now-is stands.map_is

    pub holds-here : HoldsOpen sizes c stands.map old new first content
    holds-here =
        subst (λ (p : Progress). HoldsOpen sizes p stands.map old new first content) now-is
        stands.holds

    -- each block of the zone as what is saved tells it
    pub zone-held : (i : ℕ) → i < c.plan.zone
        → HoldsSaved sizes.atom (zone_of sizes c) c.plan.first (seals_at sizes.atom c old new)
        (atom_in sizes.atom first) (c.plan.first + i) (value_in content (c.plan.first + i))
    zone-held = held-zone sizes c stands.map map-here old new first content holds-here

    pub old-key-here : IsKeyOf header.valid.meta c.old old
    old-key-here =
        subst (λ (p : Progress). IsKeyOf header.valid.meta p.old old) now-is
        (subst (λ (m : Parts). IsKeyOf m stands.now.old old) same stands.old_key)

    pub new-key-here : IsKeyOf header.valid.meta c.new new
    new-key-here =
        subst (λ (p : Progress). IsKeyOf header.valid.meta p.new new) now-is
        (subst (λ (m : Parts). IsKeyOf m stands.now.new new) same stands.new_key)

-- ---- and what other bytes stand for
module _ (sizes : Sizes) (header next stored : Stored) (c : Progress) (layout : Layout)
    (zone : Hotzone (List ℕ)) (texts : Texts) (first : List ℕ) (old new : List ℕ)
    (content : List (List ℕ)) (some : 0 < sizes.atom) (moves : MovesOver sizes header next c)
    (by : IsZoneOf sizes header next c layout zone)
    (are : AreTextsOf c.plan.first (seals_at sizes.atom c old new) zone content texts)
    (held : stored_in sizes (front_of sizes first) ≡ Ok stored)
    (alike : stored.valid ≡ header.valid) (stands : OpenStandsUnder sizes old new first content)
  where
    map_is : IsMapAt sizes c stands.map
    map_is = map-here sizes header stored c first old new content some moves.known held alike stands

    old_key : IsKeyOf header.valid.meta c.old old
    old_key =
        old-key-here sizes header stored c first old new content some moves.known held alike stands

    new_key : IsKeyOf header.valid.meta c.new new
    new_key =
        new-key-here sizes header stored c first old new content some moves.known held alike stands

    count : zone.own.count ≡ c.plan.zone
    count = ap (λ (a : Area). a.count) by.own

    start : zone.own.start ≡ place_of sizes c.old + c.plan.first
    start = ap (λ (a : Area). a.start) by.own

    behind-copies : (b : ℕ) → layout.second.start + layout.second.count ≤ place_in stands.map b
    behind-copies b =
        let lies = block-lies header.valid.meta sizes c
        (sound sizes header stored c first old new content some moves.known held alike stands)
        moves.known stands.map map_is b in
        let begin = by.begin in
        le_of_mul-le-mul_right (omega (arith, lies, begin)) some

    out : (b : ℕ) → LiesBeside c.plan b
        → IsOutside zone.own.start zone.own.count (place_in stands.map b)
    out b (inl before) =
        let at = place-here sizes c stands.map map_is moves.in_place b in
        inl (omega (arith, before, at, start))
    out b (inr behind) =
        let at = place-here sizes c stands.map map_is moves.in_place b in
        inr (omega (arith, behind, at, start, count))

    has : HasContent sizes c stands.map (seals_at sizes.atom c old new) texts first content
    has =
        open-content sizes c stands.map map_is old new first content
        (holds-here sizes header stored c first old new content some moves.known held alike stands)
        zone texts count are

    -- ---- other bytes
    module _ (loads : LoadsByMeaning) (now : List ℕ)
        (rest : HasRest sizes layout zone first now) where
      -- that have the header with the zone open, and what was saved of it
      pub bytes-open : Gives header_reader (front_of sizes now) zone.opened.means
          → ((i : ℕ) → i < zone.own.count
          → Recovers (zone_of sizes c).resilience saved_hash (zone_of sizes c) texts
          (atom_in sizes.atom now) i)
          → OpensBy sizes header c old new now content
      bytes-open gives tells =
          stands-open sizes c stands.map map_is moves.in_place old new texts first now content has
          (λ b beside. rest (place_in stands.map b) (behind-copies b) (out b beside))
          (λ i few. tells i (let more = count in omega (arith, few, more))) loads header moves.stored
          moves.sizes_are
          (subst (λ (x : List ℕ). Gives header_reader (front_of sizes now) x) by.opened gives)
          moves.known moves.some old_key new_key

      -- that have the one with the boundary moved, and its new atoms
      pub bytes-moved : Gives header_reader (front_of sizes now) zone.moved.means
          → ((i : ℕ) → i < zone.own.count
          → block_at sizes.atom now (zone.own.start + i) ≡ texts.new i)
          → ClosesBy sizes next (progress_at (moved c.conversion.direction c.plan.zone c.plan) c) old
          new now content
      bytes-moved gives own =
          stands-moved sizes c stands.map map_is moves.in_place old new texts first now content has
          (λ b beside. rest (place_in stands.map b) (behind-copies b) (out b beside))
          (λ i few. ap (λ n. block_at sizes.atom now (n + i)) (sym start)
          ∙ own i (let more = count in omega (arith, few, more))) loads header.valid.meta next
          moves.next_stored moves.next_sizes
          (subst (λ (x : List ℕ). Gives header_reader (front_of sizes now) x) by.moved gives)
          moves.gone old_key new_key
