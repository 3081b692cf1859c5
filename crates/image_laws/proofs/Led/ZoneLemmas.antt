-- The zone that is written again, as the laws of images name it: where it lies by its header, and the
-- header that comes behind it.
use Rattle.std.proofs.Common.{◌≡◌, ◌≢◌, ℕ, ◌+◌, ◌-◌, ◌*◌, ◌/◌, List, refl, sym, ◌∙◌, ap}
use Rattle.std.proofs.Common.{subst, arith}
use Rattle.crash_laws.specs.HeaderAreas.Commits.{Follows}
use Rattle.crash_laws.specs.HeaderAreas.Headers.{Header, IsHeader, IsLaidOut, Layout}
use Rattle.crash_laws.specs.HotZones.Zones.{datashift}
use Rattle.hotzone.specs.Known.{header_by}
use Rattle.hotzone.specs.Sites.{IsSaved, count_of, guard_of as saved_by, kind_of, next_count}
use Rattle.hotzone.specs.Sites.{saved_count, start_by}
use Rattle.hotzone.specs.Steps.{resealed}
use Rattle.hotzone.specs.declared.site.Site.{Site}
use Rattle.luks_store.specs.Copying.Meanings.{header_reader, meaning_of}
use Rattle.luks_meta.specs.declared.reencrypt.Direction.{Direction as Way}
use Rattle.luks_meta.specs.declared.reencrypt.Direction.TheVariants.{Backward, Forward}
use Rattle.luks_meta.specs.declared.reencrypt.Resilience.{Resilience}
use Rattle.luks_meta.specs.declared.reencrypt.Resilience.TheVariants.{Checksum, Datashift, Journal}
use Rattle.luks_rules.specs.Areas.{areas_begin}
use Rattle.luks_rules.specs.declared.plan.Plan.{Plan}
use Rattle.luks_rules.specs.declared.shape.Progress.{Progress}
use Rattle.luks_store.proofs.GivenLemmas.{sized-by}
use Rattle.luks_store.proofs.StoredLemmas.{size-kept}
use Rattle.luks_store.specs.declared.copies.Copies.{Copies}
use Rattle.image_laws.specs.Opened.Images.{seals_at}
use Rattle.image_laws.specs.Opened.Mending.{IsZoneOf, MovesOver}
use Rattle.image_laws.specs.Opened.Zones.{guard_of}
use Rattle.reenc_meta.specs.ConversionMaps.{boundary_in, direction_of}
use Rattle.reenc_meta.specs.Moves.{IsGoneTo, moved}
use Rattle.reenc_meta.specs.Placements.{place_of}
use Rattle.segment_map.specs.declared.Direction.{Direction}
use Rattle.segment_map.specs.declared.Side.TheVariants.{New, Old}
use Rattle.volume_machine.specs.Seals.{seals_of}
use Rattle.hotzone.proofs.ZoneEvents.GroundLemmas.{one-progress, same-place}
use Rattle.image_laws.proofs.Led.KeyLemmas.{same-opened, same-sealed}
use Rattle.image_laws.specs.Led.Keys.{AreCiphersOf}
use Rattle.volume_machine.specs.Saved.{saved_atoms}
use Rattle.zone_mending.proofs.OpenZoneLemmas.{count-open, zone-guard}
use Rattle.zone_mending.specs.Known.{zone_in}
use Rattle.zone_mending.specs.Menders.{IsMending}
use Rattle.zone_mending.specs.declared.mender.Mender.{Mender}

-- what guards it, in the words of the laws of zones
kind-of : (r : Resilience) → IsSaved r → kind_of (saved_by r) ≡ guard_of r
kind-of Journal some = refl
kind-of (Checksum n) some = refl
kind-of (Datashift n) some = absurd some

unshifted : (r : Resilience) → IsSaved r → guard_of r ≢ datashift
unshifted Journal some = λ is. cc
unshifted (Checksum n) some = λ is. cc
unshifted (Datashift n) some = absurd some

-- the zone beside the boundary begins with its plan's first block of it
pub start-of : (way : Way) (plan : Plan) (d : Direction) (boundary count : ℕ)
    → d ≡ direction_of way → boundary ≡ boundary_in way plan → count ≡ plan.zone
    → start_by d boundary count ≡ plan.first
start-of Forward plan d boundary count way_is at n =
    ap (λ (x : Direction). start_by x boundary count) way_is ∙ at
start-of Backward plan d boundary count way_is at n =
    ap (λ (x : Direction). start_by x boundary count) way_is
    ∙ (let e : boundary - count ≡ plan.first = omega (arith, at, n) in e)

module _ {C : Type 0} (sector : C → ℕ) (m : Mender C) (mends : IsMending sector m) where
  abbrev c : Progress
  c = mends.zone.now

  -- ---- where it lies
  pub atom-is : m.site.atom ≡ m.loaded.valid.sizes.atom
  atom-is = ap (λ (s : Site). s.atom) mends.zone.site_is ∙ mends.zone.map_is.atom

  pub count-is : count_of m.site ≡ mends.zone.now.plan.zone
  count-is = count-open m.loaded mends.map m.site mends.zone

  pub first-is : m.site.blocks.start ≡ mends.zone.now.plan.first
  first-is =
      let left = mends.map.zone_left in
      let few : next_count mends.map mends.map.zone ≡ mends.map.zone = omega (arith, left) in
      ap (λ (s : Site). s.blocks.start) mends.zone.site_is
      ∙ start-of c.conversion.direction c.plan mends.map.direction mends.map.boundary
      (next_count mends.map mends.map.zone) mends.zone.map_is.direction mends.zone.map_is.boundary
      (few ∙ mends.zone.map_is.zone)

  pub own-is : m.site.own ≡ place_of m.loaded.valid.sizes mends.zone.now.old
      + mends.zone.now.plan.first
  own-is =
      let own = ap (λ (s : Site). s.own) mends.zone.site_is in
      let blocks = ap (λ (s : Site). s.blocks.start) mends.zone.site_is in
      let start = first-is in
      let place = mends.zone.map_is.old_place in
      omega (arith, own, blocks, start, place)

  pub store-is : m.site.store
      ≡ mends.zone.now.conversion.area.offset / m.loaded.valid.sizes.atom
  store-is = ap (λ (s : Site). s.store) mends.zone.site_is

  pub kind-is : kind_of m.site.guard ≡ guard_of mends.zone.now.conversion.resilience
  kind-is =
      ap kind_of (zone-guard m.loaded mends.map m.site mends.zone)
      ∙ kind-of c.conversion.resilience mends.zone.is.guarded

  pub store-count : saved_count m.site
      ≡ saved_atoms (guard_of mends.zone.now.conversion.resilience) m.loaded.valid.sizes.atom
      mends.zone.now.plan.zone
  store-count =
      ap (λ r. saved_atoms r m.site.atom (count_of m.site)) kind-is
      ∙ ap (λ a. saved_atoms (guard_of c.conversion.resilience) a (count_of m.site)) atom-is
      ∙ ap (λ n. saved_atoms (guard_of c.conversion.resilience) m.loaded.valid.sizes.atom n) count-is

  -- ---- the header behind it
  the-state : mends.moves.moves.0 ≡ mends.zone.now
  the-state =
      one-progress m.loaded.valid.meta m.loaded.valid.sizes mends.moves.moves.0 mends.zone.now
      mends.moves.moves.1 mends.zone.is.known

  pub moves-over : MovesOver m.loaded.valid.sizes m.loaded m.moved.loaded mends.zone.now
  moves-over = record {
    stored = mends.stored;
    next_stored = mends.moves.follows.loaded.stored;
    sizes_are = refl;
    next_sizes = mends.moves.follows.loaded.sizes ∙ mends.moves.follows.commit.sizes;
    known = mends.zone.is.known;
    some = mends.zone.is.some;
    gone = subst (λ (q : Progress). IsGoneTo m.loaded.valid.meta m.loaded.valid.sizes q
        (moved q.conversion.direction q.plan.zone q.plan) m.moved.loaded.valid.meta) the-state
        mends.moves.moves.2;
    in_place = same-place m.loaded mends.stored mends.sound mends.zone.now mends.zone.is.known
        mends.zone.is.guarded;
  }

  pub moved-means : (header_by m.moved.commit).means
      ≡ meaning_of m.moved.loaded.copies.used.bytes
  moved-means =
      ap meaning_of (mends.moves.follows.same.primary
      ∙ sym (ap (λ (k : Copies). k.used.bytes) mends.moves.follows.loaded.copies))

  pub size-is : header_reader.size (meaning_of m.loaded.copies.used.bytes)
      ≡ m.loaded.copies.used.header.hdr_size
  size-is =
      let used = m.loaded.copies.used in
      sized-by used.header.hdr_offset used
      (record { whole = mends.stored.copies.whole; here = refl })

  pub follows-on : (opened : Header (List ℕ))
      → opened.means ≡ meaning_of m.loaded.copies.used.bytes
      → Follows header_reader opened.means (header_by m.moved.commit).means
  follows-on opened means =
      subst (λ (f : List ℕ). Follows header_reader f (header_by m.moved.commit).means) (sym means)
      (subst (λ (t : List ℕ). Follows header_reader (meaning_of m.loaded.copies.used.bytes) t)
      (ap meaning_of (sym mends.moves.follows.same.primary)) mends.moves.follows.commit.follows)

  -- ---- the zone
  pub begin-is : (n : ℕ) → n * m.loaded.valid.sizes.atom ≡ m.loaded.copies.used.header.hdr_size
      → areas_begin m.loaded.valid.meta.config ≡ (n + n) * m.loaded.valid.sizes.atom
  begin-is n long =
      let kept = size-kept m.loaded mends.stored in
      let twice : (n + n) * m.loaded.valid.sizes.atom
      ≡ n * m.loaded.valid.sizes.atom + n * m.loaded.valid.sizes.atom = omega arith in
      omega (arith, kept, twice, long)

  module _ (layout : Layout) (opened : Header (List ℕ))
      (means : opened.means ≡ meaning_of m.loaded.copies.used.bytes)
      (whole : IsHeader header_reader opened)
      (next_whole : IsHeader header_reader (header_by m.moved.commit))
      (laid : IsLaidOut m.loaded.valid.sizes.atom m.loaded.valid.sizes.header_atoms
      m.loaded.copies.used.header.hdr_size layout) where
    pub laid-by-means : IsLaidOut m.loaded.valid.sizes.atom m.loaded.valid.sizes.header_atoms
        (header_reader.size opened.means) layout
    laid-by-means =
        subst (λ (n : ℕ). IsLaidOut m.loaded.valid.sizes.atom m.loaded.valid.sizes.header_atoms n
        layout) (sym (ap header_reader.size means ∙ size-is)) laid

    pub zone-is : IsZoneOf m.loaded.valid.sizes m.loaded m.moved.loaded mends.zone.now layout
        (zone_in m opened)
    zone-is = record {
      kind = kind-is;
      guarded = unshifted c.conversion.resilience mends.zone.is.guarded;
      own = λ i. record { start = own-is i; count = count-is i };
      store = λ i. record { start = store-is i; count = store-count i };
      opened = means;
      moved = moved-means;
      whole = whole;
      moved_whole = next_whole;
      laid = laid-by-means;
      begin = begin-is layout.first.count laid.long
          ∙ (let start = laid.second in let same = laid.same in
          ap (λ n. n * m.loaded.valid.sizes.atom)
          (let e : layout.first.count + layout.first.count
          ≡ layout.second.start + layout.second.count = omega (arith, start, same) in e));
    }

  -- ---- what becomes of an old atom
  pub reseal-is : (sealed opened : C → ℕ → List ℕ → List ℕ) (old_key new_key : List ℕ)
      → AreCiphersOf sector sealed opened mends.zone.now old_key new_key m.keys → (i : ℕ)
      (text : List ℕ)
      → resealed (seals_of sealed opened m.site.atom m.keys) (m.site.blocks.start + i) text
      ≡ (seals_at m.loaded.valid.sizes.atom mends.zone.now old_key new_key).sealed New
      (mends.zone.now.plan.first + i)
      ((seals_at m.loaded.valid.sizes.atom mends.zone.now old_key new_key).opened Old
      (mends.zone.now.plan.first + i) text)
  reseal-is sealed opened old_key new_key keys i text =
      ap (λ x. (seals_of sealed opened m.site.atom m.keys).sealed New (m.site.blocks.start + i) x)
      (same-opened sector sealed opened mends.zone.now old_key new_key m.keys keys m.site.atom Old
      (m.site.blocks.start + i) text)
      ∙ same-sealed sector sealed opened mends.zone.now old_key new_key m.keys keys m.site.atom New
      (m.site.blocks.start + i) _
      ∙ ap (λ a. (seals_at a mends.zone.now old_key new_key).sealed New (m.site.blocks.start + i)
      ((seals_at a mends.zone.now old_key new_key).opened Old (m.site.blocks.start + i) text)) atom-is
      ∙ ap (λ n. (seals_at m.loaded.valid.sizes.atom mends.zone.now old_key new_key).sealed New
      (n + i) ((seals_at m.loaded.valid.sizes.atom mends.zone.now old_key new_key).opened Old
      (n + i) text)) first-is
