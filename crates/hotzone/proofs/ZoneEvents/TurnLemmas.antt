-- The headers of a zone turn its blocks: the one with the zone open to a zone, the one with the
-- boundary moved to new ones.
use Rattle.std.proofs.Common.{◌≡◌, ◌∙◌, ◌⊎◌, inl, inr, ℕ, ◌+◌, ◌<◌, ◌≤◌, List, Some}
use Rattle.std.proofs.Common.{Ok, suc, length, refl, sym, ap, ap₂, subst, arith}
use Rattle.crash_laws.specs.HeaderAreas.Commits.{Follows}
use Rattle.crash_laws.specs.HeaderAreas.Headers.{IsHeader, Layout}
use Rattle.crash_laws.specs.HotZones.Standing.{new_start}
use Rattle.crash_laws.specs.HotZones.Zones.{Hotzone}
use Rattle.hotzone.specs.Headings.{AreOf, IsSame}
use Rattle.hotzone.specs.Known.{header_by}
use Rattle.hotzone.specs.Sites.{count_of, kind_of, start_by}
use Rattle.hotzone.specs.Workers.{IsNextZone, IsWorking}
use Rattle.hotzone.specs.declared.site.Guard.{Guard}
use Rattle.hotzone.specs.declared.site.Guard.TheVariants as guards
use Rattle.hotzone.specs.declared.worker.Headers.{Headers}
use Rattle.hotzone.specs.declared.worker.Worker.{Worker}
use Rattle.luks_bin.specs.declared.header.BinHeader.{BinHeader}
use Rattle.luks_store.specs.Copying.Held.{primary_of}
use Rattle.luks_store.specs.Copying.Meanings.{header_of, header_reader, meaning_of, seqid_in}
use Rattle.luks_meta.specs.declared.reencrypt.Direction.{Direction as order}
use Rattle.luks_meta.specs.declared.reencrypt.Direction.TheVariants as orders
use Rattle.luks_rules.specs.Plans.{blocks_in}
use Rattle.luks_rules.specs.Shapes.{progress_of}
use Rattle.luks_rules.specs.States.{IsSound as IsRuled}
use Rattle.luks_rules.specs.declared.plan.Plan.{Plan}
use Rattle.luks_rules.specs.declared.shape.Progress.{Progress}
use Rattle.luks_store.proofs.StoredLemmas.{rules-kept}
use Rattle.luks_store.specs.Loads.{IsStored}
use Rattle.luks_store.specs.declared.commit.Prepared.{Prepared}
use Rattle.luks_store.specs.declared.copies.Copies.{Copies}
use Rattle.reenc_meta.specs.ConversionMaps.{IsMapAt, boundary_in, direction_of}
use Rattle.reenc_meta.specs.Layouts.{progress_at}
use Rattle.reenc_meta.specs.Moves.{moved, opened}
use Rattle.reenc_meta.specs.Placements.{place_of}
use Rattle.segment_map.specs.Sides.{left_of}
use Rattle.segment_map.specs.declared.Side.TheVariants.{New, Zone}
use Rattle.segment_map.specs.declared.map.Map.{Map}
use Rattle.volume_machine.specs.Courses.{IsBeyond, Leads, LeadsOn, Succeeds, Turns}
use Rattle.volume_machine.specs.Pieces.{side_in}
use Rattle.volume_machine.specs.Sound.{MapFits}
use Rattle.volume_machine.specs.States.{State}
use Rattle.volume_machine.specs.Works.{Part, named}
use Rattle.hotzone.proofs.ZoneEvents.GroundLemmas.{closed-zone, end-is, few, one-progress, own-is}
use Rattle.hotzone.proofs.ZoneEvents.GroundLemmas.{same-places, start-is}
use Rattle.hotzone.proofs.ZoneEvents.MapLemmas.{map-at}
use Rattle.hotzone.proofs.ZoneEvents.NumberLemmas.{next-number}
use Rattle.hotzone.proofs.ZoneEvents.PlanLemmas.{map-now, next-zone, places-fit}
use Rattle.hotzone.proofs.ZoneEvents.SideLemmas.{beside-new, beside-zone, beyond-new, beyond-zone}
use Rattle.hotzone.proofs.ZoneEvents.SideLemmas.{boundary_behind, side-as, side_by}
use Rattle.hotzone.proofs.ZoneEvents.TellLemmas.{goes-on}
use Rattle.hotzone.proofs.ZoneEvents.TextLemmas.{next-parts, stored-parts}
use Rattle.hotzone.specs.ZoneEvents.Heads.{header_on}
use Rattle.hotzone.specs.ZoneEvents.Readings.{map_of, parts_in, reading_of}
use Rattle.hotzone.specs.ZoneEvents.Works.{unnamed}
use Rattle.hotzone.proofs.ZoneEvents.AlikeLemmas.{IsAlike, turns-by}

-- new atoms take the places of the old ones
new-place : (g : Guard) (zone : Hotzone (List ℕ)) → new_start (kind_of g) zone ≡ zone.own.start
new-place guards.Journal zone = refl
new-place guards.Checksum zone = refl

-- ---- how far a conversion is with a zone open, and with the boundary moved over it
boundary-opened : (d : order) (n : ℕ) (plan : Plan) → plan.zone ≡ 0
    → n ≤ left_of (direction_of d) (blocks_in plan) (boundary_in d plan)
    → (blocks_in (opened d n plan) ≡ blocks_in plan)
    × (boundary_in d (opened d n plan) ≡ boundary_in d plan) × ((opened d n plan).zone ≡ n)
boundary-opened orders.Forward n plan closed fits =
    (omega (arith, closed, fits), omega (arith, closed, fits), refl)
boundary-opened orders.Backward n plan closed fits =
    (omega (arith, closed, fits), omega (arith, closed, fits), refl)

boundary-moved : (d : order) (n : ℕ) (plan : Plan) → plan.zone ≡ 0
    → n ≤ left_of (direction_of d) (blocks_in plan) (boundary_in d plan)
    → (blocks_in (moved d n (opened d n plan)) ≡ blocks_in plan)
    × (boundary_in d (moved d n (opened d n plan))
    ≡ boundary_behind (direction_of d) (boundary_in d plan) n)
    × ((moved d n (opened d n plan)).zone ≡ 0)
boundary-moved orders.Forward n plan closed fits =
    (omega (arith, closed, fits), omega (arith, closed, fits), refl)
boundary-moved orders.Backward n plan closed fits =
    (omega (arith, closed, fits), omega (arith, closed, fits), refl)

pub same-headers : (first now : Prepared) → IsSame first now → header_by first ≡ header_by now
same-headers first now same =
    ap₂ (λ a b. header_of a b) (sym same.primary) (sym same.secondary)

module _ {C K : Type 0} (sector : C → ℕ) (w : Worker C) (old : State K)
    (working : IsWorking sector w) (stored : IsStored w.loaded)
    (ruled : IsRuled w.loaded.valid.meta w.loaded.valid.sizes)
    (map : old.map ≡ map_of w.loaded.valid.sizes (meaning_of w.loaded.copies.used.bytes))
    (fits : MapFits old.map old.disk.atoms) (headers : Headers)
    (are : AreOf w.loaded (count_of w.site) headers.opened headers.moved) where
  abbrev zone : IsNextZone w.loaded old.map w.site
  zone = next-zone sector w working stored old.map map

  abbrev p : Progress
  p = working.zone.now

  at-now : IsMapAt w.loaded.valid.sizes p old.map
  at-now =
      subst (λ n. IsMapAt w.loaded.valid.sizes p n) (sym map) (map-now sector w working stored)

  n-few : count_of w.site ≤ left_of old.map.direction old.map.blocks old.map.boundary
  n-few = few w.loaded stored ruled old.map w.site zone

  same-now : are.now ≡ p
  same-now =
      one-progress w.loaded.valid.meta w.loaded.valid.sizes are.now p are.known
      working.zone.is.known

  plan-few : count_of w.site
      ≤ left_of (direction_of p.conversion.direction) (blocks_in p.plan)
      (boundary_in p.conversion.direction p.plan)
  plan-few =
      subst (λ d. count_of w.site ≤ left_of d (blocks_in p.plan)
      (boundary_in p.conversion.direction p.plan)) at-now.direction
      (subst (λ b. count_of w.site ≤ left_of old.map.direction b
      (boundary_in p.conversion.direction p.plan)) at-now.blocks
      (subst (λ b. count_of w.site ≤ left_of old.map.direction old.map.blocks b)
      at-now.boundary n-few))

  start : w.site.blocks.start
      ≡ start_by old.map.direction old.map.boundary (count_of w.site)
  start = start-is w.loaded stored ruled old.map w.site zone

  end : w.site.blocks.start + count_of w.site ≡ w.site.blocks.end
  end = end-is w.loaded stored ruled old.map w.site zone

  -- a later map of the same volume
  alike : (next : Map) (q : Progress) → IsMapAt w.loaded.valid.sizes q next
      → blocks_in q.plan ≡ blocks_in p.plan
      → place_of w.loaded.valid.sizes q.old ≡ place_of w.loaded.valid.sizes p.old
      → place_of w.loaded.valid.sizes q.new ≡ place_of w.loaded.valid.sizes p.new
      → IsAlike old.map next
  alike next q at blocks first second =
      let same = same-places w.loaded stored ruled old.map w.site zone in
      let place : next.old_place ≡ old.map.old_place =
      at.old_place ∙ first ∙ sym at-now.old_place in
      record {
        atom = at.atom ∙ sym at-now.atom;
        blocks = at.blocks ∙ blocks ∙ sym at-now.blocks;
        old_place = place;
        now_same = same;
        next_same = at.new_place ∙ second ∙ sym at-now.new_place ∙ same ∙ sym place;
      }

  -- the sides of a block by both maps
  side-now : (b : ℕ) → side_in old.map b
      ≡ side_by old.map.direction old.map.blocks old.map.boundary 0 b
  side-now b =
      side-as old.map old.map.direction old.map.blocks old.map.boundary 0 b refl refl refl
      (closed-zone w.loaded stored ruled old.map w.site zone)

  side-then : (next : Map) (q : Progress) (boundary n b : ℕ)
      → IsMapAt w.loaded.valid.sizes q next → q.conversion.direction ≡ p.conversion.direction
      → blocks_in q.plan ≡ blocks_in p.plan
      → boundary_in q.conversion.direction q.plan ≡ boundary → q.plan.zone ≡ n
      → side_in next b ≡ side_by old.map.direction old.map.blocks boundary n b
  side-then next q boundary n b at direction blocks bound many =
      side-as next old.map.direction old.map.blocks boundary n b
      (at.direction ∙ ap direction_of direction ∙ sym at-now.direction)
      (at.blocks ∙ blocks ∙ sym at-now.blocks) (at.boundary ∙ bound) (at.zone ∙ many)

  range-from : (b : ℕ) → w.site.blocks.start ≤ b
      → start_by old.map.direction old.map.boundary (count_of w.site) ≤ b
  range-from b from = let at = start in omega (arith, at, from)

  range-below : (b : ℕ) → b < w.site.blocks.end
      → b < start_by old.map.direction old.map.boundary (count_of w.site) + count_of w.site
  range-below b below = let at = start in let last = end in omega (arith, at, last, below)

  range-beyond : (b : ℕ) → IsBeyond w.site.blocks b
      → (b < start_by old.map.direction old.map.boundary (count_of w.site))
      ⊎ (start_by old.map.direction old.map.boundary (count_of w.site) + count_of w.site ≤ b)
  range-beyond b beyond = elim beyond [
    | inl before ↦ inl (let at = start in omega (arith, at, before))
    | inr behind ↦ inr (let at = start in let last = end in omega (arith, at, last, behind))
  ]

  begins-at : (b : ℕ) → w.site.blocks.start ≤ b → b < w.site.blocks.end
      → w.site.own ≡ old.map.old_place + w.site.blocks.start
  begins-at b from below = own-is w.loaded stored ruled old.map w.site zone

  -- ---- the header with the zone open
  abbrev pub open_progress : Progress
  open_progress = progress_at (opened p.conversion.direction (count_of w.site) p.plan) p

  pub open-plan : (blocks_in open_progress.plan ≡ blocks_in p.plan)
      × (boundary_in p.conversion.direction open_progress.plan
      ≡ boundary_in p.conversion.direction p.plan) × (open_progress.plan.zone ≡ count_of w.site)
  open-plan =
      boundary-opened p.conversion.direction (count_of w.site) p.plan working.zone.is.closed
      plan-few

  open-known : progress_of are.between.valid.meta w.loaded.valid.sizes ≡ Some open_progress
  open-known =
      subst (λ q. progress_of are.between.valid.meta w.loaded.valid.sizes
      ≡ Some (progress_at (opened q.conversion.direction (count_of w.site) q.plan) q)) same-now
      are.opens.progress

  open-parts : parts_in (header_by headers.opened).means ≡ Ok are.between.valid.meta
  open-parts =
      ap (λ copy. parts_in (meaning_of copy)) are.same.primary
      ∙ next-parts w.loaded are.between.valid.meta are.first stored are.commit

  pub open-map : IsMapAt w.loaded.valid.sizes open_progress
      (map_of w.loaded.valid.sizes (header_by headers.opened).means)
  open-map =
      let fit = places-fit sector w working stored in
      let old_fit = fit.0 in
      let new_fit = fit.1 in
      let blocks = open-plan.0 in
      map-at w.loaded.valid.sizes (header_by headers.opened).means are.between.valid.meta
      open_progress open-parts open-known working.disk.known (omega (arith, old_fit, blocks))
      (omega (arith, new_fit, blocks))

  pub open-turns : Turns old.disk.atoms w.site.blocks Zone w.site.own old.map
      (map_of w.loaded.valid.sizes (header_by headers.opened).means)
  open-turns =
      let next = map_of w.loaded.valid.sizes (header_by headers.opened).means in
      let n = count_of w.site in
      let bound : boundary_in p.conversion.direction open_progress.plan ≡ old.map.boundary =
      open-plan.1 ∙ sym at-now.boundary in
      turns-by old.disk.atoms w.site.blocks Zone w.site.own old.map next
      (alike next open_progress open-map open-plan.0 refl refl) fits begins-at
      (λ b inside beyond.
      side-then next open_progress old.map.boundary n b open-map refl open-plan.0 bound
      open-plan.2
      ∙ beyond-zone old.map.blocks old.map.boundary n b old.map.direction old.map.within n-few
      inside (range-beyond b beyond)
      ∙ sym (side-now b))
      (λ b from below.
      side-then next open_progress old.map.boundary n b open-map refl open-plan.0 bound
      open-plan.2
      ∙ beside-zone old.map.blocks old.map.boundary n b old.map.direction old.map.within n-few
      (range-from b from) (range-below b below))

  -- ---- the header with the boundary moved
  abbrev move_progress : Progress
  move_progress =
      progress_at (moved p.conversion.direction (count_of w.site) open_progress.plan) open_progress

  move-plan : (blocks_in move_progress.plan ≡ blocks_in p.plan)
      × (boundary_in p.conversion.direction move_progress.plan
      ≡ boundary_behind (direction_of p.conversion.direction)
      (boundary_in p.conversion.direction p.plan) (count_of w.site))
      × (move_progress.plan.zone ≡ 0)
  move-plan =
      boundary-moved p.conversion.direction (count_of w.site) p.plan working.zone.is.closed
      plan-few

  move-known : progress_of headers.moved.loaded.valid.meta w.loaded.valid.sizes
      ≡ Some move_progress
  move-known =
      subst (λ q. progress_of headers.moved.loaded.valid.meta w.loaded.valid.sizes
      ≡ Some (progress_at (moved q.conversion.direction (count_of w.site)
      (opened q.conversion.direction (count_of w.site) q.plan))
      (progress_at (opened q.conversion.direction (count_of w.site) q.plan) q))) same-now
      are.moves.progress

  move-parts : parts_in (header_by headers.moved.commit).means
      ≡ Ok headers.moved.loaded.valid.meta
  move-parts =
      ap (λ copy. parts_in (meaning_of copy)) are.follows.same.primary
      ∙ next-parts are.between headers.moved.loaded.valid.meta are.follows.first
      are.loaded.stored are.follows.commit

  pub move-map : IsMapAt w.loaded.valid.sizes move_progress
      (map_of w.loaded.valid.sizes (header_by headers.moved.commit).means)
  move-map =
      let fit = places-fit sector w working stored in
      let old_fit = fit.0 in
      let new_fit = fit.1 in
      let blocks = move-plan.0 in
      map-at w.loaded.valid.sizes (header_by headers.moved.commit).means
      headers.moved.loaded.valid.meta move_progress move-parts move-known working.disk.known
      (omega (arith, old_fit, blocks)) (omega (arith, new_fit, blocks))

  pub move-turns : Turns old.disk.atoms w.site.blocks New w.site.own old.map
      (map_of w.loaded.valid.sizes (header_by headers.moved.commit).means)
  move-turns =
      let next = map_of w.loaded.valid.sizes (header_by headers.moved.commit).means in
      let n = count_of w.site in
      let bound : boundary_in p.conversion.direction move_progress.plan
      ≡ boundary_behind old.map.direction old.map.boundary n =
      move-plan.1
      ∙ ap (λ d. boundary_behind d (boundary_in p.conversion.direction p.plan) n)
      (sym at-now.direction)
      ∙ ap (λ b. boundary_behind old.map.direction b n) (sym at-now.boundary) in
      let behind = boundary_behind old.map.direction old.map.boundary n in
      turns-by old.disk.atoms w.site.blocks New w.site.own old.map next
      (alike next move_progress move-map move-plan.0 refl refl) fits begins-at
      (λ b inside beyond.
      side-then next move_progress behind 0 b move-map refl move-plan.0 bound move-plan.2
      ∙ beyond-new old.map.blocks old.map.boundary n b old.map.direction old.map.within n-few
      inside (range-beyond b beyond)
      ∙ sym (side-now b))
      (λ b from below.
      side-then next move_progress behind 0 b move-map refl move-plan.0 bound move-plan.2
      ∙ beside-new old.map.blocks old.map.boundary n b old.map.direction old.map.within n-few
      (range-from b from) (range-below b below))

  -- ---- both follow one another
  pub open-header : IsHeader header_reader (header_by headers.opened)
  open-header =
      subst (λ h. IsHeader header_reader h) (same-headers are.first headers.opened are.same)
      are.commit.whole

  pub move-header : IsHeader header_reader (header_by headers.moved.commit)
  move-header =
      subst (λ h. IsHeader header_reader h)
      (same-headers are.follows.first headers.moved.commit are.follows.same)
      are.follows.commit.whole

  -- and go on with the conversion
  pub both-lead-on : (layout : Layout) (part : Part)
      → LeadsOn (reading_of w.loaded.valid.sizes)
      (named (unnamed layout w part) (header_by headers.opened) (header_by headers.moved.commit))
  both-lead-on layout part = record {
    opens = λ to.
        goes-on w.loaded.valid.sizes are.now
        (opened are.now.conversion.direction (count_of w.site) are.now.plan) w.loaded.valid.meta
        are.between.valid.meta are.opens (meaning_of w.loaded.copies.used.bytes)
        (header_by headers.opened).means (stored-parts w.loaded stored) open-parts
        (rules-kept w.loaded stored) are.known;
    moves =
        goes-on w.loaded.valid.sizes
        (progress_at (opened are.now.conversion.direction (count_of w.site) are.now.plan) are.now)
        (moved are.now.conversion.direction (count_of w.site)
        (opened are.now.conversion.direction (count_of w.site) are.now.plan))
        are.between.valid.meta headers.moved.loaded.valid.meta are.moves
        (header_by headers.opened).means (header_by headers.moved.commit).means open-parts
        move-parts are.opens.valid are.opens.progress;
  }

  module _ (salt : length w.loaded.copies.primary.salt ≡ 64) where
    open-number : seqid_in (header_by headers.opened).means
        ≡ suc (seqid_in (meaning_of w.loaded.copies.used.bytes))
    open-number =
        ap (λ copy. seqid_in (meaning_of copy)) are.same.primary
        ∙ next-number w.loaded are.between.valid.meta are.first stored are.commit salt

    move-number : seqid_in (header_by headers.moved.commit).means
        ≡ suc (seqid_in (header_by headers.opened).means)
    move-number =
        ap (λ copy. seqid_in (meaning_of copy)) are.follows.same.primary
        ∙ next-number are.between headers.moved.loaded.valid.meta are.follows.first
        are.loaded.stored are.follows.commit
        (ap (λ (c : Copies). length c.primary.salt) are.loaded.copies
        ∙ ap (λ (h : BinHeader). length h.salt) are.commit.header ∙ salt)
        ∙ ap (λ copy. suc (seqid_in (meaning_of copy)))
        (ap (λ (c : Copies). c.used.bytes) are.loaded.copies ∙ sym are.same.primary)

    open-succeeds : Succeeds header_reader (header_on w.loaded) (header_by headers.opened)
    open-succeeds = record {
      number = open-number;
      is = open-header;
      follows = subst (λ copy. Follows header_reader (meaning_of w.loaded.copies.used.bytes)
          (meaning_of copy)) (sym are.same.primary) are.commit.follows;
    }

    move-succeeds : Succeeds header_reader (header_by headers.opened)
        (header_by headers.moved.commit)
    move-succeeds = record {
      number = move-number;
      is = move-header;
      follows = subst (λ copy. Follows header_reader (meaning_of (primary_of headers.opened.copies))
          (meaning_of copy)) (sym are.follows.same.primary)
          (subst (λ copy. Follows header_reader (meaning_of copy)
          (meaning_of (primary_of are.follows.first.copies)))
          (ap (λ (c : Copies). c.used.bytes) are.loaded.copies ∙ sym are.same.primary)
          are.follows.commit.follows);
    }

    pub both-lead : (layout : Layout) (part : Part)
        → Leads (reading_of w.loaded.valid.sizes) old
        (named (unnamed layout w part) (header_by headers.opened)
        (header_by headers.moved.commit))
    both-lead layout part = record {
      opens = λ to. (open-succeeds, open-turns);
      moves = (
        move-succeeds,
        subst (λ n. Turns old.disk.atoms w.site.blocks New n old.map
            (map_of w.loaded.valid.sizes (header_by headers.moved.commit).means))
            (sym (new-place w.site.guard (named (unnamed layout w part) (header_by headers.opened)
            (header_by headers.moved.commit)).zone)) move-turns,
      );
    }
