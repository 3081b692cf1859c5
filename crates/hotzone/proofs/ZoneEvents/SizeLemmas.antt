-- Sizes of one disk by which a header gives the same map are the same.
use Rattle.std.proofs.Common.{◌≡◌, ◌∙◌, ℕ, ◌+◌, ◌*◌, ◌/◌, ◌<◌, ◌≤◌, Bool, true, false, List, [], ◌∷◌}
use Rattle.std.proofs.Common.{Option, Some, None, Result, Ok, Err, refl, sym, ap, subst, arith, cond}
use Rattle.std.proofs.Common.{zero, suc, ◌^◌}
use Rattle.std.proofs.Math.Nat.{mul-le-mul_right}
use Rattle.crash_laws.specs.HeaderAreas.Headers.{Layout}
use Rattle.base_terms.specs.declared.disk_sizes.Sizes.{Sizes}
use Rattle.hotzone.specs.declared.site.Site.{Site}
use Rattle.hotzone.specs.declared.worker.Worker.{Worker}
use Rattle.sector_disk.specs.JoinedDisks.Counts.{HasSizes}
use Rattle.json_members.specs.declared.faults.JsonFault.{JsonFault}
use Rattle.luks_meta.specs.declared.digest.Digest.{Digest}
use Rattle.luks_meta.specs.declared.meta.Parts.{Parts}
use Rattle.luks_meta.specs.declared.segment.Segment.{Segment}
use Rattle.luks_rules.specs.Areas.{areas_end}
use Rattle.luks_rules.specs.Conversions.{conversions_of, only}
use Rattle.luks_rules.specs.Idles.{idle_from, idle_of}
use Rattle.luks_rules.specs.Segments.{in_progress}
use Rattle.luks_rules.specs.Shapes.{progress_of, progress_under}
use Rattle.luks_rules.specs.declared.idle.Idle.{Idle}
use Rattle.luks_rules.specs.declared.shape.Progress.{Progress}
use Rattle.reenc_meta.proofs.GoLemmas.{under-way}
use Rattle.reenc_meta.specs.Placements.{base_of}
use Rattle.segment_map.specs.declared.map.Map.{Map}
use Rattle.std.specs.Option.{option_and_then}
use Rattle.volume_machine.specs.Seals.{Seals}
use Rattle.volume_machine.specs.States.{State}
use Rattle.volume_machine.specs.declared.keys.Keys.{Keys}
use Rattle.hotzone.proofs.ZoneEvents.FollowLemmas.{HasBlocks, alike-now, meant}
use Rattle.hotzone.proofs.ZoneEvents.MapLemmas.{HasShape, shaped, shaped-with}
use Rattle.hotzone.specs.ZoneEvents.Holding.{AtomsAgree, IsKept, IsOnDisk, SizesAreTold}
use Rattle.hotzone.specs.ZoneEvents.Readings.{Shape, idle_shape, is_map, map_by, map_of, map_when}
use Rattle.hotzone.specs.ZoneEvents.Readings.{map_with}
use Rattle.hotzone.specs.ZoneEvents.Readings.{no_shape, parts_in, shape_at, shape_from, shape_of}
use Rattle.hotzone.specs.ZoneEvents.Works.{work_of}

-- ---- a map that has a block has the numbers that it was made of
no-block : (map_with no_shape refl).blocks ≡ 0
unfolding map_with
no-block = refl

some-shaped : (s : Shape) → 0 < (map_by s).blocks → HasShape s (map_by s)
unfolding map_by
some-shaped s some = go (is_map s) refl some
  where
    go : (b : Bool) (e : is_map s ≡ b) → 0 < (map_when s b e).blocks → HasShape s (map_when s b e)
    go true e h = shaped-with s e
    go false e h = absurd (let none = no-block in omega (arith, h, none))

none-shaped : 0 < (map_by no_shape).blocks → ⊥
none-shaped some = let has = shaped no_shape refl in let none = has.blocks in omega (arith, some, none)

-- ---- metadata tell a conversion, and a volume's segment, by the atom alone
progress-told : (m : Parts) (one own : Sizes) → one.atom ≡ own.atom
    → progress_of m one ≡ progress_of m own
unfolding progress_of
progress-told m one own atom =
    ap (λ a. cond (in_progress m.config) (option_and_then (progress_under a m)
    (only (conversions_of m.keyslots))) None) atom

-- a volume of one segment
abbrev IsOf : Option Idle → Option Idle → Type 0
IsOf one None = Unit {0}
IsOf one (Some v) = (u : Idle) × (one ≡ Some u) × (u.segment ≡ v.segment)

from-told : (one own : Sizes) (ds : List (ℕ × Digest)) (segments : List (ℕ × Segment))
    → IsOf (idle_from one ds segments) (idle_from own ds segments)
from-told one own ds [] = tt
from-told one own ds (s ∷ []) = (_, refl, refl)
from-told one own ds (s ∷ another ∷ more) = tt

idle-told : (m : Parts) (one own : Sizes) → IsOf (idle_of m one) (idle_of m own)
unfolding idle_of
idle-told m one own = go (in_progress m.config)
  where
    go : (b : Bool) → IsOf (cond b None (idle_from one m.digests m.segments))
        (cond b None (idle_from own m.digests m.segments))
    go true = tt
    go false = from-told one own m.digests m.segments

-- ---- so a map with a block tells where the main disk begins
module _ (one own : Sizes) (atom : one.atom ≡ own.atom) where
  -- what begins at the same atom of the main disk begins at the same one of all
  bases : (a b : ℕ) → base_of one + a / one.atom ≡ base_of own + b / own.atom → a ≡ b
      → base_of one ≡ base_of own
  bases a b same at =
      let cut : a / one.atom ≡ b / own.atom =
      ap (λ n. n / one.atom) at ∙ ap (λ n. b / n) atom in
      omega (arith, same, cut)

  by-shapes : (s t : Shape) → map_by s ≡ map_by t → 0 < (map_by t).blocks
      → s.new_place ≡ t.new_place
  by-shapes s t same some =
      let first = some-shaped s (subst (λ (m : Map). 0 < m.blocks) (sym same) some) in
      let second = some-shaped t some in
      sym first.new_place ∙ ap (λ (m : Map). m.new_place) same ∙ second.new_place

  by-idle : (o q : Option Idle) → IsOf o q
      → map_by (shape_from one None o) ≡ map_by (shape_from own None q)
      → 0 < (map_by (shape_from own None q)).blocks → base_of one ≡ base_of own
  by-idle o None has same some = absurd (none-shaped some)
  by-idle o (Some v) has same some =
      let made = subst (λ r. map_by (shape_from one None r) ≡ map_by (idle_shape own v)) has.1
      same in
      bases has.0.segment.offset v.segment.offset
      (by-shapes (idle_shape one has.0) (idle_shape own v) made some)
      (ap (λ e. e.offset) has.2)

  by-progress : (o : Option Progress) (a b : Option Idle) → IsOf a b
      → map_by (shape_from one o a) ≡ map_by (shape_from own o b)
      → 0 < (map_by (shape_from own o b)).blocks → base_of one ≡ base_of own
  by-progress None a b has same some = by-idle a b has same some
  by-progress (Some p) a b has same some =
      bases p.new.offset p.new.offset (by-shapes (shape_at one p) (shape_at own p) same some) refl

  by-parts : (r : Result Parts JsonFault) → map_by (shape_of one r) ≡ map_by (shape_of own r)
      → 0 < (map_by (shape_of own r)).blocks → base_of one ≡ base_of own
  by-parts (Err fault) same some = absurd (none-shaped some)
  by-parts (Ok m) same some =
      by-progress (progress_of m own) (idle_of m one) (idle_of m own) (idle-told m one own)
      (subst (λ o. map_by (shape_from one o (idle_of m one))
      ≡ map_by (shape_from own (progress_of m own) (idle_of m own))) (progress-told m one own atom)
      same) some

  pub base-told : (means : List ℕ) → map_of one means ≡ map_of own means
      → 0 < (map_of own means).blocks → base_of one ≡ base_of own
  unfolding map_of
  base-told means same some = by-parts (parts_in means) same some

-- ---- and with it all sizes
module _ {K : Type 0} (one own : Sizes) (state : State K) (first : HasSizes one state.disk)
    (second : HasSizes own state.disk) (base : base_of one ≡ base_of own)
    (some : 0 < one.header_atoms) (own_some : 0 < own.header_atoms) where
  mains : one.main_atoms ≡ own.main_atoms
  mains = let a = first.all in let b = second.all in omega (arith, a, b, base)

  atoms : one.atom ≡ own.atom
  atoms = first.atom ∙ sym second.atom

  heads : (a b : Bool) → one.detached ≡ a → own.detached ≡ b
      → cond a one.header_atoms 0 ≡ cond b own.header_atoms 0
      → (one.header_atoms ≡ own.header_atoms) × (one.detached ≡ own.detached)
  heads true true x y same = (same, x ∙ sym y)
  heads false false x y same =
      (first.alone x ∙ mains ∙ sym (second.alone y), x ∙ sym y)
  heads true false x y same = absurd (omega (arith, some, same))
  heads false true x y same = absurd (omega (arith, own_some, same))

  pub sizes-same : one ≡ own
  sizes-same =
      let both = heads one.detached own.detached refl refl base in
      let header = both.0 in
      let detached = both.1 in
      let atom = atoms in
      let main = mains in
      λ i. record {
        atom = atom i;
        header_atoms = header i;
        main_atoms = main i;
        detached = detached i;
      }

-- ---- the map of a worker's header has the volume's blocks
right-part : (base main : ℕ) → main ≤ base + main
right-part base main = omega arith

small-main : (base main atom : ℕ) → (base + main) * atom < 2 ^ 63 → main * atom < 2 ^ 63
small-main base main atom all =
    let more = mul-le-mul_right atom (right-part base main) in omega (arith, more, all)

some-header : (header atom end : ℕ) → 0 < end → end ≤ header * atom → 0 < header
some-header zero atom end some fits = absurd (omega (arith, some, fits))
some-header (suc n) atom end some fits = omega arith

module _ {C : Type 0} (sector : C → ℕ) (seals : Seals) (layout : Layout) (w : Worker C)
    (state : State (Keys C)) (kept : IsKept sector w)
    (was : state.work ≡ Some (work_of seals layout w))
    (own : IsOnDisk w.loaded.valid.sizes state) where
  some-blocks : 0 < w.map.blocks
  some-blocks =
      let on = under-way w.loaded.valid.meta w.loaded.valid.sizes kept.working.zone.now kept.ruled
      kept.working.zone.is.known
      (small-main (base_of w.loaded.valid.sizes) w.loaded.valid.sizes.main_atoms
      w.loaded.valid.sizes.atom kept.working.disk.fits) in
      let blocks = kept.working.zone.map_is.blocks in
      let some = on.some in
      omega (arith, blocks, some)

  map-by-own : state.map ≡ map_of w.loaded.valid.sizes (meant (work_of seals layout w))
  map-by-own = (own.courses (work_of seals layout w) was).map

  alike : HasBlocks w.map (map_of w.loaded.valid.sizes (meant (work_of seals layout w)))
  alike =
      alike-now sector w kept.working kept.stored kept.ruled seals layout w.next w.halted
      kept.working.next

  pub atom-agrees : state.map.atom ≡ w.site.atom
  atom-agrees =
      ap (λ (m : Map). m.atom) map-by-own ∙ alike.0
      ∙ sym (ap (λ (s : Site). s.atom) kept.working.zone.site_is)

  header-there : 0 < w.loaded.valid.sizes.header_atoms
  header-there = go w.loaded.valid.sizes.detached refl
    where
      go : (b : Bool) → w.loaded.valid.sizes.detached ≡ b
          → 0 < w.loaded.valid.sizes.header_atoms
      go true is =
          some-header w.loaded.valid.sizes.header_atoms w.loaded.valid.sizes.atom
          (areas_end w.loaded.valid.meta.config) (omega arith) (kept.ruled.within.detached is)
      go false is =
          let alone = own.sizes_are.alone is in
          let some = some-blocks in
          let fits = kept.working.fits.old_places in
          let base : base_of w.loaded.valid.sizes ≡ 0 =
          ap (λ b. cond b w.loaded.valid.sizes.header_atoms 0) is in
          omega (arith, alone, some, fits, base)

  pub sizes-are : (one : Sizes) → IsOnDisk one state → 0 < one.header_atoms
      → one ≡ w.loaded.valid.sizes
  sizes-are one on some =
      sizes-same one w.loaded.valid.sizes state on.sizes_are own.sizes_are
      (base-told one w.loaded.valid.sizes (on.sizes_are.atom ∙ sym own.sizes_are.atom)
      (meant (work_of seals layout w))
      (sym (on.courses (work_of seals layout w) was).map ∙ map-by-own)
      (let blocks = alike.1 in let there = some-blocks in omega (arith, blocks, there)))
      some header-there

pub sizes-told : {C : Type 0} (sector : C → ℕ) → SizesAreTold sector
sizes-told sector seals layout sizes w state kept was own on some =
    sizes-are sector seals layout w state kept was own sizes on some

pub atoms-agree : {C : Type 0} (sector : C → ℕ) → AtomsAgree sector
atoms-agree sector seals layout w state kept was own =
    atom-agrees sector seals layout w state kept was own
