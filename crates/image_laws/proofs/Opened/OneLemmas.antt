-- An image stands for one content, whether a zone is open or not.
use Rattle.std.proofs.Common.{◌≡◌, inl, inr, ℕ, ◌+◌, ◌<◌, List, [], true, false, Option, Some}
use Rattle.std.proofs.Common.{Ok, refl, sym, ◌∙◌, ap, subst, slice_get, arith}
use Rattle.std.proofs.lemmas.List.{ext_get_or}
use Rattle.base_terms.specs.declared.disk_sizes.Sizes.{Sizes}
use Rattle.sector_disk.specs.DiskViews.Parts.{block_at, value_in}
use Rattle.luks_meta.specs.declared.meta.Parts.{Parts}
use Rattle.luks_rules.specs.Shapes.{progress_of}
use Rattle.luks_rules.specs.declared.extents.Extent.{Extent}
use Rattle.luks_rules.specs.declared.shape.Progress.{Progress}
use Rattle.luks_store.specs.Devices.{front_of}
use Rattle.luks_store.specs.Loads.{stored_in}
use Rattle.luks_store.specs.declared.loaded.Stored.{Stored}
use Rattle.image_laws.specs.Opened.Images.{HoldsOnSide, HoldsOpen, OpenStandsFor, OpenStandsUnder}
use Rattle.image_laws.specs.Opened.Images.{seals_at}
use Rattle.image_laws.specs.Opened.Promises.{OneFor, OneUnder, OneWay}
use Rattle.image_laws.specs.Opened.Zones.{zone_of}
use Rattle.image_laws.proofs.Opened.SavedLemmas.{saved-once}
use Rattle.reenc_meta.specs.ConversionMaps.{IsMapAt}
use Rattle.reenc_meta.specs.declared.placement.Placement.{Placement}
use Rattle.reenc_recovery.specs.Images.{StandsFor, StandsUnder}
use Rattle.reenc_recovery.specs.Keys.{key_for}
use Rattle.reenc_recovery.specs.Placings.{PlacesVolume}
use Rattle.reenc_recovery.proofs.PlacingLemmas.{is_idle}
use Rattle.segment_map.specs.Maps.{place_on, sides_of}
use Rattle.segment_map.specs.declared.Side.{Side}
use Rattle.segment_map.specs.declared.Side.TheVariants.{New, Old, Zone}
use Rattle.segment_map.specs.declared.map.Map.{Map}
use Rattle.image_laws.proofs.Started.BlockLemmas.{progress-busy}
use Rattle.image_laws.proofs.Started.GapLemmas.{one-header}
use Rattle.volume_machine.specs.Pieces.{known_side, place_in, side_in}
use Rattle.volume_machine.specs.Seals.{Seals}

-- ---- a header tells one thing
pub same-progress : (o : Option Progress) (one other : Progress) → o ≡ Some one → o ≡ Some other
    → one ≡ other
same-progress o one other is also =
    (let e : Some one ≡ Some other = sym is ∙ also in cc)

same-key : (o : Option (List ℕ)) (one other : List ℕ) → o ≡ Some one → o ≡ Some other → one ≡ other
same-key o one other is also = (let e : Some one ≡ Some other = sym is ∙ also in cc)

-- two maps of one conversion
module _ (sizes : Sizes) (c : Progress) (one other : Map) (is : IsMapAt sizes c one)
    (also : IsMapAt sizes c other) where
  same-sides : sides_of one ≡ sides_of other
  same-sides =
      rw (
        is.direction,
        is.blocks,
        is.boundary,
        is.zone,
        also.direction,
        also.blocks,
        also.boundary,
        also.zone,
      ) refl

  pub same-side : (b : ℕ) → side_in one b ≡ side_in other b
  same-side b = ap (λ (xs : List Side). known_side (slice_get xs b)) same-sides

  on-side : (b : ℕ) (side : Side) → place_on one b side ≡ place_on other b side
  on-side b Old = ap (λ n. n + b) (is.old_place ∙ sym also.old_place)
  on-side b Zone = ap (λ n. n + b) (is.old_place ∙ sym also.old_place)
  on-side b New = ap (λ n. n + b) (is.new_place ∙ sym also.new_place)

  pub same-place : (b : ℕ) → place_in one b ≡ place_in other b
  same-place b = ap (λ side. place_on one b side) (same-side b) ∙ on-side b (side_in other b)

-- ---- a block
module _ (sizes : Sizes) (c : Progress) (one other : Map) (is : IsMapAt sizes c one)
    (also : IsMapAt sizes c other) (seals : Seals) (image : List ℕ) (b : ℕ) (first second : List ℕ)
  where
    opened-alike : first ≡ seals.opened (side_in one b) b (block_at sizes.atom image (place_in one b))
        → second
        ≡ seals.opened (side_in other b) b (block_at sizes.atom image (place_in other b))
        → first ≡ second
    opened-alike opened opened_too =
        opened
        ∙ ap (λ side. seals.opened side b (block_at sizes.atom image (place_in one b)))
        (same-side sizes c one other is also b)
        ∙ ap (λ place. seals.opened (side_in other b) b (block_at sizes.atom image place))
        (same-place sizes c one other is also b)
        ∙ sym opened_too

    by-side : (side : Side) → HoldsOnSide sizes c one seals image b first side
        → HoldsOnSide sizes c other seals image b second side → first ≡ second
    by-side Zone holds holds_too =
        saved-once sizes.atom (zone_of sizes c) c.plan.first seals _ b first second holds holds_too
    by-side Old holds holds_too = opened-alike holds.opened holds_too.opened
    by-side New holds holds_too = opened-alike holds.opened holds_too.opened

    one-block : HoldsOnSide sizes c one seals image b first (side_in one b)
        → HoldsOnSide sizes c other seals image b second (side_in other b) → first ≡ second
    one-block holds holds_too =
        by-side (side_in one b) holds
        (subst (λ (side : Side). HoldsOnSide sizes c other seals image b second side)
        (sym (same-side sizes c one other is also b)) holds_too)

-- ---- an image
one-list : (sizes : Sizes) (c : Progress) (map other : Map) → IsMapAt sizes c map
    → IsMapAt sizes c other → (old new image : List ℕ) (first second : List (List ℕ))
    → HoldsOpen sizes c map old new image first → HoldsOpen sizes c other old new image second
    → first ≡ second
one-list sizes c map other is also old new image first second holds holds_too =
    let count = holds.count in
    let same = is.blocks ∙ sym also.blocks in
    ext_get_or [] first second (holds.count ∙ same ∙ sym holds_too.count) (λ b below.
    one-block sizes c map other is also (seals_at sizes.atom c old new) image b (value_in first b)
    (value_in second b) (holds.blocks b (omega (arith, below, count)))
    (holds_too.blocks b (omega (arith, below, count, same))))

-- what a second reading of the same header says
module _ (sizes : Sizes) (image : List ℕ) (one other : Stored)
    (is : stored_in sizes (front_of sizes image) ≡ Ok one)
    (also : stored_in sizes (front_of sizes image) ≡ Ok other) (c d : Progress)
    (known : progress_of one.valid.meta sizes ≡ Some c)
    (known_too : progress_of other.valid.meta sizes ≡ Some d) where
  pub same-now : d ≡ c
  same-now =
      same-progress (progress_of other.valid.meta sizes) d c known_too
      (subst (λ (s : Stored). progress_of s.valid.meta sizes ≡ Some c)
      (one-header sizes image one other is also) known)

pub one-under : (sizes : Sizes) (old new image : List ℕ) (one other : List (List ℕ))
    → OpenStandsUnder sizes old new image one → OpenStandsUnder sizes old new image other
    → one ≡ other
one-under sizes old new image one other is also =
    let now = same-now sizes image is.stored also.stored is.header also.header is.now also.now
    is.known also.known in
    one-list sizes is.now is.map also.map is.map_is
    (subst (λ (c : Progress). IsMapAt sizes c also.map) now also.map_is) old new image one other
    is.holds
    (subst (λ (c : Progress). HoldsOpen sizes c also.map old new image other) now also.holds)

keys-alike : (image pass : List ℕ) (m n : Parts) (e f : Extent) (one other : List ℕ) → m ≡ n
    → e ≡ f → key_for m image pass e ≡ Some one → key_for n image pass f ≡ Some other → one ≡ other
keys-alike image pass m n e f one other meta segment is also =
    same-key (key_for n image pass f) one other
    (subst (λ (x : Extent). key_for n image pass x ≡ Some one) segment
    (subst (λ (x : Parts). key_for x image pass e ≡ Some one) meta is)) also

pub one-for : (sizes : Sizes) (pass image : List ℕ) (one other : List (List ℕ))
    → OpenStandsFor sizes pass image one → OpenStandsFor sizes pass image other → one ≡ other
one-for sizes pass image one other is also =
    let a = is.stands in
    let d = also.stands in
    let now = same-now sizes image a.stored d.stored a.header d.header a.now d.now a.known d.known in
    let meta = ap (λ (s : Stored). s.valid.meta)
    (one-header sizes image a.stored d.stored a.header d.header) in
    let old = keys-alike image pass a.stored.valid.meta d.stored.valid.meta a.now.old d.now.old is.old
    also.old meta (ap (λ (c : Progress). c.old) (sym now)) is.old_is also.old_is in
    let new = keys-alike image pass a.stored.valid.meta d.stored.valid.meta a.now.new d.now.new is.new
    also.new meta (ap (λ (c : Progress). c.new) (sym now)) is.new_is also.new_is in
    one-under sizes also.old also.new image one other
    (subst (λ k. OpenStandsUnder sizes also.old k image one) new
    (subst (λ k. OpenStandsUnder sizes k is.new image one) old a)) d

-- ---- with or without an open zone
closed-by : (m : Parts) (sizes : Sizes) (p : Placement) (now : Progress)
    → progress_of m sizes ≡ Some now → 0 < now.plan.zone → PlacesVolume m sizes p → ⊥
closed-by m sizes p now known some (inl idle) =
    (let e : false ≡ true = sym (is_idle m sizes p idle) ∙ progress-busy m sizes now known in cc)
closed-by m sizes p now known some (inr (c, is, placed)) =
    let closed = placed.closed in
    let same : c.plan.zone ≡ now.plan.zone =
    ap (λ (x : Progress). x.plan.zone) (same-progress (progress_of m sizes) c now is known) in
    omega (arith, closed, same, some)

pub one-way : OneWay
one-way sizes old new other_old other_new image one other is also =
    let same = one-header sizes image also.stored is.stored also.header
    is.header in
    closed-by is.stored.valid.meta sizes is.placement also.now
    (subst (λ (s : Stored). progress_of s.valid.meta sizes ≡ Some also.now) same also.known)
    also.some is.placed

abbrev pub StandsOnce : Type 0
StandsOnce = (sizes : Sizes) (old new image : List ℕ) (one other : List (List ℕ))
    → StandsUnder sizes old new image one → StandsUnder sizes old new image other → one ≡ other

abbrev pub StandsOnceFor : Type 0
StandsOnceFor = (sizes : Sizes) (pass image : List ℕ) (one other : List (List ℕ))
    → StandsFor sizes pass image one → StandsFor sizes pass image other → one ≡ other

pub any-under : StandsOnce → OneUnder
any-under once sizes old new image one other (inl is) (inl also) =
    once sizes old new image one other is also
any-under once sizes old new image one other (inl is) (inr also) =
    absurd (one-way sizes old new old new image one other is also)
any-under once sizes old new image one other (inr is) (inl also) =
    absurd (one-way sizes old new old new image other one also is)
any-under once sizes old new image one other (inr is) (inr also) =
    one-under sizes old new image one other is also

pub any-for : StandsOnceFor → OneFor
any-for once sizes pass image one other (inl is) (inl also) =
    once sizes pass image one other is also
any-for once sizes pass image one other (inl is) (inr also) =
    absurd (one-way sizes is.old is.new also.old also.new image one other is.stands also.stands)
any-for once sizes pass image one other (inr is) (inl also) =
    absurd (one-way sizes also.old also.new is.old is.new image other one also.stands is.stands)
any-for once sizes pass image one other (inr is) (inr also) =
    one-for sizes pass image one other is also
