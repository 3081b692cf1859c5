-- What the header of an open zone says: where the zone lies on the disk, and that the boundary may
-- move over it.
use Rattle.std.proofs.Common.{◌≡◌, ◌∙◌, ℕ, ◌+◌, ◌*◌, ◌^◌, ◌<◌, ◌≤◌, Option, Some}
use Rattle.std.proofs.Common.{refl, sym, ap, subst, arith}
use Rattle.std.specs.Option.{IsSomeAnd}
use Rattle.base_terms.specs.declared.disk_sizes.Sizes.{Sizes}
use Rattle.hotzone.proofs.AskLemmas.{saved-here}
use Rattle.hotzone.proofs.HeadingLemmas.{same-self}
use Rattle.hotzone.proofs.MadeLemmas.{known-by, unmade-by}
use Rattle.hotzone.specs.Headings.{Follows, IsTurning, IsUnmade, MayTurn, Turns}
use Rattle.hotzone.specs.Sites.{IsSaved, count_of, guard_of, kind_of, saved_count}
use Rattle.hotzone.specs.Workers.{HasKeys, MapsFit, MayGoOn}
use Rattle.hotzone.specs.declared.site.Site.{Site}
use Rattle.hotzone.specs.declared.worker.NextHeader.{NextHeader}
use Rattle.hotzone.specs.declared.worker.ZoneFault.{ZoneFault}
use Rattle.luks_meta.specs.declared.meta.Parts.{Parts}
use Rattle.luks_meta.specs.declared.reencrypt.Direction.{Direction}
use Rattle.luks_meta.specs.declared.reencrypt.Direction.TheVariants.{Forward, Backward}
use Rattle.luks_meta.specs.declared.reencrypt.Resilience.{Resilience}
use Rattle.luks_meta.specs.declared.reencrypt.Resilience.TheVariants.{Journal, Checksum, Datashift}
use Rattle.luks_rules.specs.Shapes.{progress_of}
use Rattle.luks_rules.specs.States.{IsSound}
use Rattle.luks_rules.specs.declared.plan.Plan.{Plan}
use Rattle.luks_rules.specs.declared.shape.Progress.{Progress}
use Rattle.luks_store.specs.declared.loaded.Stored.{Stored}
use Rattle.reenc_meta.proofs.GoLemmas.{moves-boundary, under-way}
use Rattle.reenc_meta.proofs.StepLemmas.{main-few}
use Rattle.reenc_meta.specs.ConversionMaps.{IsMapOf, MovesBoundary}
use Rattle.reenc_meta.specs.Moves.{IsGoneTo, MayMove, MayMoveBy, moved}
use Rattle.reenc_meta.specs.Placements.{all_atoms}
use Rattle.sector_disk.specs.Geometry.{IsAtom, IsDisk}
use Rattle.segment_map.specs.declared.map.Map.{Map}
use Rattle.volume_machine.specs.Saved.{saved_atoms}
use Rattle.volume_machine.specs.Seals.{KeysFit}
use Rattle.volume_machine.specs.Sound.{MapFits}
use Rattle.volume_machine.specs.declared.keys.Keys.{Keys}
use Rattle.zone_mending.proofs.MenderLemmas.{zone-count}
use Rattle.zone_mending.specs.OpenZones.{HasZone, IsMoved, IsMoving, IsOpen, IsOpenZone}

-- there is one state of the conversion
one-progress : (p q : Progress) → ◌≡◌ {A = Option Progress} (Some p) (Some q) → p ≡ q
one-progress p q is = cc

-- ---- where it lies
pub is-open : (header : Stored) (p : Progress)
    → progress_of header.valid.meta header.valid.sizes ≡ Some p → HasZone header → IsOpen header p
is-open header p known has =
    let held = known-by _ _ p known has in
    record { known = known; some = held.0; guarded = held.1 }

pub count-open : (header : Stored) (map : Map) (site : Site) (is : IsOpenZone header map site)
    → count_of site ≡ is.now.plan.zone
count-open header map site is = zone-count header map site is ∙ is.map_is.zone

pub zone-known : (header : Stored) (map : Map) (site : Site) → IsOpenZone header map site
    → IsDisk header.valid.sizes.atom (all_atoms header.valid.sizes) → IsAtom site.atom
zone-known header map site is disk =
    subst IsAtom (sym (ap (λ (s : Site). s.atom) is.site_is ∙ is.map_is.atom)) disk.known

pub zone-guard : (header : Stored) (map : Map) (site : Site) (is : IsOpenZone header map site)
    → site.guard ≡ guard_of is.now.conversion.resilience
zone-guard header map site is = ap (λ (s : Site). s.guard) is.site_is

-- so many atoms are saved of it
pub saved-is : (header : Stored) (map : Map) (site : Site) (is : IsOpenZone header map site)
    → saved_count site
    ≡ saved_atoms (kind_of (guard_of is.now.conversion.resilience)) header.valid.sizes.atom
    (count_of site)
saved-is header map site is =
    ap (λ g. saved_atoms (kind_of g) site.atom (count_of site)) (zone-guard header map site is)
    ∙ ap (λ a. saved_atoms (kind_of (guard_of is.now.conversion.resilience)) a (count_of site))
    (ap (λ (s : Site). s.atom) is.site_is ∙ is.map_is.atom)

-- what is saved of it lies on the disk
pub zone-store : (header : Stored) (map : Map) (site : Site) → IsOpenZone header map site
    → IsSound header.valid.meta header.valid.sizes
    → IsDisk header.valid.sizes.atom (all_atoms header.valid.sizes)
    → site.store + saved_count site ≤ all_atoms header.valid.sizes
zone-store header map site is sound disk =
    let sizes = header.valid.sizes in
    let p = is.now in
    let way = under-way header.valid.meta sizes p sound is.is.known (main-few sizes disk.fits) in
    let zone = way.converting.zone in
    let count = count-open header map site is in
    let store = ap (λ (s : Site). s.store) is.site_is in
    let same = saved-is header map site is in
    let fits = saved-here header p (count_of site) is.is.known is.is.guarded
    (omega (arith, zone, count)) sound disk in
    omega (arith, store, fits, same)

-- ---- the boundary may move over it
moves-by : (r : Resilience) (zone room left : ℕ) → IsSaved r → MayMoveBy r zone room left zone
moves-by Journal zone room left by = refl
moves-by (Checksum n) zone room left by = refl
moves-by (Datashift n) zone room left by = absurd by

may-move : (header : Stored) (p : Progress) → IsOpen header p
    → MayMove header.valid.sizes.atom p p.plan.zone
may-move header p is = record {
  some = is.some;
  by = moves-by p.conversion.resilience p.plan.zone _ _ is.guarded;
}

pub may-turn-zone : (header : Stored) (map : Map) (site : Site) → IsOpenZone header map site
    → MayTurn header (count_of site)
may-turn-zone header map site is =
    subst (λ o. IsSomeAnd o (λ now. MayMove header.valid.sizes.atom now (count_of site)))
    (sym is.is.known)
    (subst (λ n. MayMove header.valid.sizes.atom is.now n) (sym (count-open header map site is))
    (may-move header is.now is.is))

-- so the header that is made is the one behind the zone
turning-moves : (header : Stored) (map : Map) (site : Site) → IsOpenZone header map site
    → (meta : Parts) → IsTurning header (count_of site) meta → IsMoving header meta
turning-moves header map site is meta turning =
    let same = one-progress turning.0 is.now (sym turning.1 ∙ is.is.known) in
    let count = count-open header map site is ∙ ap (λ (p : Progress). p.plan.zone) (sym same) in (
      turning.0,
      turning.1,
      subst (λ n. IsGoneTo header.valid.meta header.valid.sizes turning.0
          (moved turning.0.conversion.direction n turning.0.plan) meta) count turning.2,
    )

pub is-moved : (header : Stored) (map : Map) (site : Site) (next : NextHeader)
    → IsOpenZone header map site → Turns header (count_of site) next → Follows header next
    → IsMoved header next
is-moved header map site next is turns follows = record {
  moves = turning-moves header map site is next.loaded.valid.meta
      (is.now, is.is.known, turns is.now is.is.known);
  follows = record {
    first = next.commit;
    commit = follows.commit;
    loaded = follows.loaded;
    same = same-self next.commit;
  };
}

pub not-made : (header : Stored) (map : Map) (site : Site) (fault : ZoneFault)
    → IsOpenZone header map site → IsUnmade header 1 (IsTurning header (count_of site)) fault
    → IsUnmade header 1 (IsMoving header) fault
not-made header map site fault is unmade =
    unmade-by header (IsTurning header (count_of site)) (IsMoving header) fault
    (turning-moves header map site is) unmade

-- ---- the header behind it
moved-closed : (d : Direction) (n : ℕ) (plan : Plan) → (moved d n plan).zone ≡ 0
moved-closed Forward n plan = refl
moved-closed Backward n plan = refl

module _ (header : Stored) (next : NextHeader) (map : Map) (site : Site)
    (is : IsOpenZone header map site) (moves : IsMoved header next) where
  sizes-behind : next.loaded.valid.sizes ≡ header.valid.sizes
  sizes-behind = moves.follows.loaded.sizes ∙ moves.follows.commit.sizes

  the-state : moves.moves.0 ≡ is.now
  the-state = one-progress moves.moves.0 is.now (sym moves.moves.1 ∙ is.is.known)

  pub behind-disk : IsDisk header.valid.sizes.atom (all_atoms header.valid.sizes)
      → IsDisk next.loaded.valid.sizes.atom (all_atoms next.loaded.valid.sizes)
  behind-disk disk =
      subst (λ (s : Sizes). IsDisk s.atom (all_atoms s)) (sym sizes-behind) disk

  pub behind-goes : MayGoOn next.loaded
  behind-goes =
      let p = moves.moves.0 in
      subst (λ o. IsSomeAnd o (λ now. (now.plan.zone ≡ 0) × IsSaved now.conversion.resilience))
      (sym (ap (progress_of next.loaded.valid.meta) sizes-behind ∙ moves.moves.2.progress)) (
        moved-closed p.conversion.direction p.plan.zone p.plan,
        subst (λ (q : Progress). IsSaved q.conversion.resilience) (sym the-state) is.is.guarded,
      )

  -- the volume lies where it lay
  behind-moves : (after : Map) → IsMapOf next.loaded.valid.meta next.loaded.valid.sizes after
      → MovesBoundary is.now.plan.zone map after
  behind-moves after of =
      moves-boundary header.valid.meta header.valid.sizes is.now is.now.plan.zone
      next.loaded.valid.meta (may-move header is.now is.is)
      (subst (λ q. IsGoneTo header.valid.meta header.valid.sizes q
      (moved q.conversion.direction q.plan.zone q.plan) next.loaded.valid.meta) the-state
      moves.moves.2) map after is.map_is
      (subst (λ s. IsMapOf next.loaded.valid.meta s after) sizes-behind of)

  pub behind-maps : MapFits map (all_atoms header.valid.sizes) → MapsFit next.loaded
  behind-maps fits = λ after of.
      let same = (behind-moves after of).volume in
      subst (λ (s : Sizes). MapFits after (all_atoms s)) (sym sizes-behind) (record {
        known = subst IsAtom (sym same.atom) fits.known;
        small = subst (λ m. m < 2 ^ 63)
            (sym (ap (λ b. b * after.atom) same.blocks ∙ ap (λ a. map.blocks * a) same.atom))
            fits.small;
        old_places = (let had = fits.old_places in let a = same.old_place in
            let b = same.blocks in omega (arith, had, a, b));
        new_places = (let had = fits.new_places in let a = same.new_place in
            let b = same.blocks in omega (arith, had, a, b));
      })

  pub behind-keys : {C : Type 0} (sector : C → ℕ) (keys : Keys C)
      → KeysFit sector keys map.atom map.blocks → HasKeys sector next.loaded keys
  behind-keys sector keys fit = λ after of.
      let same = (behind-moves after of).volume in
      subst (λ a. KeysFit sector keys a after.blocks) (sym same.atom)
      (subst (λ b. KeysFit sector keys map.atom b) (sym same.blocks) fit)
