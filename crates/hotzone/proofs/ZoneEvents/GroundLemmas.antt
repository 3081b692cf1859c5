-- The ground that a zone stands on, by a header that breaks no rule: the copies of the header, then
-- the keyslots' areas, then the blocks of the volume, each where it was.
use Rattle.std.proofs.Common.{◌≡◌, ◌∙◌, ℕ, ◌+◌, ◌*◌, ◌/◌, ◌%◌, ◌<◌, ◌≤◌, ◌==◌}
use Rattle.std.proofs.Common.{min, Bool, true, false, List, [], Option, Some, None}
use Rattle.std.proofs.Common.{refl, sym, ap, subst, arith, cond}
use Rattle.std.proofs.Math.Nat.{le_of_mul-le-mul_right, mul-le-mul_right}
use Rattle.std.proofs.lemmas.Bool.{and_parts, eqb-true}
use Rattle.std.proofs.lemmas.Nat.{div-add-mod'}
use Rattle.std.specs.List.{All}
use Rattle.std.specs.Option.{option_and_then}
use Rattle.base_terms.specs.declared.disk_sizes.Sizes.{Sizes}
use Rattle.hotzone.proofs.GuardLemmas.{saved-fits}
use Rattle.hotzone.proofs.SiteLemmas.{area-kept, site-count, site-within}
use Rattle.hotzone.specs.Sites.{IsSaved, count_of, guard_of, kind_of, saved_count, site_by}
use Rattle.hotzone.specs.Sites.{start_by}
use Rattle.hotzone.specs.Workers.{IsNextZone}
use Rattle.hotzone.specs.declared.site.Guard.{Guard}
use Rattle.hotzone.specs.declared.site.Site.{Site}
use Rattle.luks_meta.specs.declared.meta.Parts.{Parts}
use Rattle.luks_meta.specs.declared.reencrypt.Resilience.{Resilience}
use Rattle.luks_meta.specs.declared.reencrypt.Resilience.TheVariants.{Journal, Checksum, Datashift}
use Rattle.luks_rules.specs.Areas.{areas_begin, areas_end, areas_of}
use Rattle.luks_rules.specs.Conversions.{conversions_of, only}
use Rattle.luks_rules.specs.Rooms.{capacity, capacity_by}
use Rattle.luks_rules.specs.Segments.{in_progress}
use Rattle.luks_rules.specs.Shapes.{are_wholes, fits_place, has_own_digest}
use Rattle.luks_rules.specs.Shapes.{have_two_digests, progress_of}
use Rattle.luks_rules.specs.Shapes.{progress_under}
use Rattle.luks_rules.specs.States.{IsConverting, IsSound}
use Rattle.luks_rules.specs.declared.areas.Area.{Area}
use Rattle.luks_rules.specs.declared.conversions.Conversion.{Conversion}
use Rattle.luks_rules.specs.declared.extents.Extent.{Extent}
use Rattle.luks_rules.specs.declared.shape.Progress.{Progress}
use Rattle.luks_store.proofs.StoredLemmas.{size-kept}
use Rattle.luks_store.specs.Loads.{IsStored}
use Rattle.luks_store.specs.declared.loaded.Stored.{Stored}
use Rattle.reenc_meta.specs.ConversionMaps.{IsMapAt}
use Rattle.reenc_meta.specs.Placements.{base_of, place_of}
use Rattle.segment_map.specs.Sides.{left_of}
use Rattle.segment_map.specs.declared.map.Map.{Map}
use Rattle.volume_machine.specs.Saved.{saved_atoms}

-- ---- a conversion that is read
pub busy-of : (m : Parts) (sizes : Sizes) (p : Progress) → progress_of m sizes ≡ Some p
    → in_progress m.config ≡ true
unfolding progress_of
busy-of m sizes p known = go (in_progress m.config) known
  where
    go : (b : Bool) → cond b (option_and_then (progress_under sizes.atom m)
        (only (conversions_of m.keyslots))) None ≡ Some p → b ≡ true
    go true h = refl
    go false h = cc

pub one-progress : (m : Parts) (sizes : Sizes) (p q : Progress) → progress_of m sizes ≡ Some p
    → progress_of m sizes ≡ Some q → p ≡ q
one-progress m sizes p q one other = go (sym one ∙ other)
  where
    go : ◌≡◌ {A = Option Progress} (Some p) (Some q) → p ≡ q
    go h = cc

pub converting : (m : Parts) (sizes : Sizes) (p : Progress) → IsSound m sizes
    → progress_of m sizes ≡ Some p → (live : List Extent) × IsConverting m sizes p live
converting m sizes p sound known =
    let here = (sound.busy (busy-of m sizes p known)).1 in (
      here.2.0,
      subst (λ q. IsConverting m sizes q here.2.0)
          (one-progress m sizes here.0 p here.1 known) here.2.1,
    )

-- ---- blocks stay where they are
place-of : (atom : ℕ) (c : Conversion) (old new : Extent) → are_wholes atom c old new ≡ true
    → fits_place atom c.resilience old.offset new.offset ≡ true
place-of atom c old new is =
    let one = and_parts _ (have_two_digests old.digest new.digest) is in
    let two = and_parts _ (has_own_digest new.encryption new.digest) one.0 in
    let three = and_parts _ (has_own_digest old.encryption old.digest) two.0 in
    (and_parts _ (fits_place atom c.resilience old.offset new.offset) three.0).1

same-offset : (r : Resilience) (atom old new : ℕ) → IsSaved r
    → fits_place atom r old new ≡ true → new ≡ old
same-offset Journal atom old new by is = eqb-true new old is
same-offset (Checksum n) atom old new by is =
    eqb-true new old (and_parts (n == atom) (new == old) is).1
same-offset (Datashift n) atom old new by is = absurd by

-- what is saved of as many blocks as an area has room for are no more atoms than it has
pub saved-room : (r : Resilience) (atom size n : ℕ) → IsSaved r → 0 < atom → size % atom ≡ 0
    → n ≤ capacity_by atom size r → saved_atoms (kind_of (guard_of r)) atom n ≤ size / atom
saved-room r atom size n by some whole less =
    let fits = saved-fits r atom size n by some whole less in
    let cut = div-add-mod' size atom in
    le_of_mul-le-mul_right (omega (arith, fits, cut, whole)) some

-- ---- areas of keyslots
-- one lies in whole atoms between the copies and the blocks
pub record IsKept (m : Parts) (sizes : Sizes) (a : Area) : Type 0 where
  pub begin : areas_begin m.config ≤ a.offset
  pub end : a.offset + a.size ≤ areas_end m.config
  pub offset : a.offset % sizes.atom ≡ 0
  pub size : a.size % sizes.atom ≡ 0

pub all-kept : (m : Parts) (sizes : Sizes) → IsSound m sizes
    → All (IsKept m sizes) (areas_of m.keyslots)
all-kept m sizes sound = λ k d below. record {
  begin = (sound.within.areas k d below).0;
  end = (sound.within.areas k d below).1;
  offset = (sound.atoms.areas k d below).0;
  size = (sound.atoms.areas k d below).1;
}

-- the old segment begins behind them
behind-areas : (detached : Bool) (header end offset atom : ℕ) → offset % atom ≡ 0
    → (detached ≡ false → end ≤ offset) → (detached ≡ true → end ≤ header * atom)
    → end ≤ (cond detached header 0 + offset / atom) * atom
behind-areas true header end offset atom whole attached apart =
    let less : header ≤ header + offset / atom = omega arith in
    let more = mul-le-mul_right atom less in
    let fits = apart refl in omega (arith, more, fits)
behind-areas false header end offset atom whole attached apart =
    let cut = div-add-mod' offset atom in
    let zero : 0 + offset / atom ≡ offset / atom = omega arith in
    let fits = attached refl in
    subst (λ n. end ≤ n * atom) (sym zero) (omega (arith, cut, whole, fits))

module _ (loaded : Stored) (stored : IsStored loaded)
    (ruled : IsSound loaded.valid.meta loaded.valid.sizes) (p : Progress)
    (known : progress_of loaded.valid.meta loaded.valid.sizes ≡ Some p) where
  m : Parts
  m = loaded.valid.meta

  abbrev sizes : Sizes
  sizes = loaded.valid.sizes

  pub is-converting : (live : List Extent) × IsConverting loaded.valid.meta loaded.valid.sizes p live
  is-converting = converting loaded.valid.meta loaded.valid.sizes p ruled known

  pub same-place : IsSaved p.conversion.resilience
      → place_of loaded.valid.sizes p.new ≡ place_of loaded.valid.sizes p.old
  same-place by =
      ap (λ offset. base_of loaded.valid.sizes + offset / loaded.valid.sizes.atom)
      (same-offset p.conversion.resilience loaded.valid.sizes.atom p.old.offset p.new.offset by
      (place-of loaded.valid.sizes.atom p.conversion p.old p.new
      is-converting.1.state.wholes))

  -- the keyslots' areas end in front of the first block
  pub areas-before : areas_end loaded.valid.meta.config
      ≤ place_of loaded.valid.sizes p.old * loaded.valid.sizes.atom
  areas-before =
      behind-areas loaded.valid.sizes.detached loaded.valid.sizes.header_atoms
      (areas_end loaded.valid.meta.config) p.old.offset loaded.valid.sizes.atom
      is-converting.1.old.whole is-converting.1.old.behind ruled.within.detached

  -- an area of keyslots lies behind both copies, each of so many atoms, and in front of the blocks
  pub area-between : (a : Area) (n : ℕ) → IsKept loaded.valid.meta loaded.valid.sizes a
      → n * loaded.valid.sizes.atom ≡ loaded.copies.used.header.hdr_size
      → (n + n ≤ a.offset / loaded.valid.sizes.atom)
      × (a.offset / loaded.valid.sizes.atom + a.size / loaded.valid.sizes.atom
      ≤ place_of loaded.valid.sizes p.old)
  area-between a n kept long =
      let atom = loaded.valid.sizes.atom in
      let some = ruled.atom in
      let sized = size-kept loaded stored in
      let first = div-add-mod' a.offset atom in
      let second = div-add-mod' a.size atom in
      let twice : (n + n) * atom ≡ n * atom + n * atom = omega arith in
      let sum : (a.offset / atom + a.size / atom) * atom
      ≡ a.offset / atom * atom + a.size / atom * atom =
      omega arith in
      let begin = kept.begin in
      let end = kept.end in
      let whole = kept.offset in
      let even = kept.size in
      let before = areas-before in (
        le_of_mul-le-mul_right (omega (arith, twice, long, sized, begin, first, whole)) some,
        le_of_mul-le-mul_right (omega (arith, sum, first, second, whole, even, end, before)) some,
      )

  -- what guards zones is one
  pub guard-kept : IsKept loaded.valid.meta loaded.valid.sizes p.conversion.area
  guard-kept =
      area-kept (IsKept loaded.valid.meta loaded.valid.sizes) loaded.valid.meta.keyslots
      p.conversion [] (all-kept loaded.valid.meta loaded.valid.sizes ruled)
      is-converting.1.keyslot

-- ---- the next zone
-- by a map of the same numbers it is the same
same-site : (map other : Map) (room store : ℕ) (guard : Guard) → other.atom ≡ map.atom
    → other.blocks ≡ map.blocks → other.boundary ≡ map.boundary
    → other.direction ≡ map.direction → other.old_place ≡ map.old_place
    → site_by map room store guard ≡ site_by other room store guard
same-site map other room store guard atom blocks boundary direction place =
    rw (atom, blocks, boundary, direction, place) refl

pub by-map : (loaded : Stored) (map other : Map) (site : Site) → (zone : IsNextZone loaded map site)
    → IsMapAt loaded.valid.sizes zone.now other → IsNextZone loaded other site
by-map loaded map other site zone at = record {
  now = zone.now;
  is = zone.is;
  map_is = at;
  site_is = zone.site_is
      ∙ same-site map other _ _ _ (at.atom ∙ sym zone.map_is.atom)
      (at.blocks ∙ sym zone.map_is.blocks) (at.boundary ∙ sym zone.map_is.boundary)
      (at.direction ∙ sym zone.map_is.direction) (at.old_place ∙ sym zone.map_is.old_place);
}

module _ (loaded : Stored) (stored : IsStored loaded)
    (ruled : IsSound loaded.valid.meta loaded.valid.sizes) (map : Map) (site : Site)
    (zone : IsNextZone loaded map site) where
  pub count-is : count_of site
      ≡ min (left_of map.direction map.blocks map.boundary)
      (capacity loaded.valid.sizes.atom zone.now)
  count-is =
      ap (λ (s : Site). count_of s) zone.site_is
      ∙ site-count map (capacity loaded.valid.sizes.atom zone.now)
      (zone.now.conversion.area.offset / loaded.valid.sizes.atom)
      (guard_of zone.now.conversion.resilience)

  pub few : count_of site ≤ left_of map.direction map.blocks map.boundary
  few = let count = count-is in omega (arith, count)

  pub start-is : site.blocks.start ≡ start_by map.direction map.boundary (count_of site)
  start-is =
      ap (λ (s : Site). s.blocks.start) zone.site_is
      ∙ ap (start_by map.direction map.boundary) (sym count-is)

  pub end-is : site.blocks.start + count_of site ≡ site.blocks.end
  end-is =
      let start = ap (λ (s : Site). s.blocks.start) zone.site_is in
      let end = ap (λ (s : Site). s.blocks.end) zone.site_is in
      omega (arith, start, end)

  pub end-inside : site.blocks.end ≤ map.blocks
  end-inside =
      let end = ap (λ (s : Site). s.blocks.end) zone.site_is in
      let within = site-within map (capacity loaded.valid.sizes.atom zone.now) in
      omega (arith, end, within)

  pub own-is : site.own ≡ map.old_place + site.blocks.start
  own-is =
      let own = ap (λ (s : Site). s.own) zone.site_is in
      let start = ap (λ (s : Site). s.blocks.start) zone.site_is in
      omega (arith, own, start)

  pub atom-is : site.atom ≡ loaded.valid.sizes.atom
  atom-is = ap (λ (s : Site). s.atom) zone.site_is ∙ zone.map_is.atom

  pub closed-zone : map.zone ≡ 0
  closed-zone = zone.map_is.zone ∙ zone.is.closed

  pub same-places : map.new_place ≡ map.old_place
  same-places =
      zone.map_is.new_place
      ∙ same-place loaded stored ruled zone.now zone.is.known zone.is.guarded
      ∙ sym zone.map_is.old_place

  pub guard-is : site.guard ≡ guard_of zone.now.conversion.resilience
  guard-is = ap (λ (s : Site). s.guard) zone.site_is

  -- what is saved are no more atoms than the area has
  pub store-few : saved_count site
      ≤ zone.now.conversion.area.size / loaded.valid.sizes.atom
  store-few =
      let p = zone.now in
      let atom = loaded.valid.sizes.atom in
      let kept = guard-kept loaded stored ruled p zone.is.known in
      subst (λ g. saved_atoms (kind_of g) site.atom (count_of site) ≤ p.conversion.area.size / atom)
      (sym guard-is)
      (subst (λ a. saved_atoms (kind_of (guard_of p.conversion.resilience)) a (count_of site)
      ≤ p.conversion.area.size / atom) (sym atom-is)
      (saved-room p.conversion.resilience atom p.conversion.area.size (count_of site)
      zone.is.guarded ruled.atom kept.size (let count = count-is in omega (arith, count))))

  -- what is saved lies behind both copies, each of so many atoms, and in front of the blocks
  pub store-between : (n : ℕ)
      → n * loaded.valid.sizes.atom ≡ loaded.copies.used.header.hdr_size
      → (n + n ≤ site.store) × (site.store + saved_count site ≤ map.old_place)
  store-between n long =
      let p = zone.now in
      let between =
      area-between loaded stored ruled p zone.is.known p.conversion.area n
      (guard-kept loaded stored ruled p zone.is.known) long in
      let store = ap (λ (s : Site). s.store) zone.site_is in
      let few = store-few in
      let place = zone.map_is.old_place in
      let one = between.0 in
      let two = between.1 in
      (omega (arith, one, store), omega (arith, two, store, few, place))
