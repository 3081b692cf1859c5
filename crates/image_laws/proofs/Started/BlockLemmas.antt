-- Each block of a volume lies behind the keyslots' areas, whether it is being converted or not.
use Rattle.std.proofs.Common.{◌≡◌, inl, inr, ℕ, ◌+◌, ◌*◌, ◌/◌, ◌%◌, ◌≤◌, Bool, true, false}
use Rattle.std.proofs.Common.{List, Option, Some, None, refl, sym, ◌∙◌, subst, arith}
use Rattle.std.specs.Prelude.{if◌then◌else◌, option_and_then}
use Rattle.base_terms.specs.declared.disk_sizes.Sizes.{Sizes}
use Rattle.luks_meta.specs.declared.meta.Parts.{Parts}
use Rattle.luks_rules.specs.Areas.{areas_end}
use Rattle.luks_rules.specs.Conversions.{conversions_of, only}
use Rattle.luks_rules.specs.Idles.{idle_from, idle_of}
use Rattle.luks_rules.specs.Plain.{LieWithin}
use Rattle.luks_rules.specs.Segments.{in_progress}
use Rattle.luks_rules.specs.Shapes.{progress_of, progress_under}
use Rattle.luks_rules.specs.States.{IsConverting, IsIdle, IsPlaced, IsSound}
use Rattle.luks_rules.specs.declared.extents.Extent.{Extent}
use Rattle.luks_rules.specs.declared.idle.Idle.{Idle}
use Rattle.luks_rules.specs.declared.shape.Progress.{Progress}
use Rattle.reenc_meta.specs.Placements.{IsIdlePlacement, PlacedBy, place_of}
use Rattle.reenc_meta.specs.declared.placement.Placement.{Placement}
use Rattle.reenc_recovery.specs.Placings.{PlacesConversion, PlacesVolume}
use Rattle.sector_disk.specs.Geometry.{IsAtom}
use Rattle.segment_map.specs.Maps.{place_on}
use Rattle.segment_map.specs.declared.Side.{Side}
use Rattle.segment_map.specs.declared.Side.TheVariants.{Old, New, Zone}
use Rattle.segment_map.specs.declared.map.Map.{Map}
use Rattle.volume_machine.specs.Pieces.{place_in, side_in}

-- ---- what is converted, and what isn't
pub idle-rests : (m : Parts) (sizes : Sizes) (v : Idle) → idle_of m sizes ≡ Some v
    → in_progress m.config ≡ false
unfolding idle_of
idle-rests m sizes v is = go (in_progress m.config) refl is
  where
    go : (b : Bool) → in_progress m.config ≡ b
        → (if b then None else idle_from sizes m.digests m.segments) ≡ Some v
        → in_progress m.config ≡ false
    go true at e = absurd cc
    go false at e = at

pub progress-busy : (m : Parts) (sizes : Sizes) (p : Progress) → progress_of m sizes ≡ Some p
    → in_progress m.config ≡ true
unfolding progress_of
progress-busy m sizes p is = go (in_progress m.config) refl is
  where
    go : (b : Bool) → in_progress m.config ≡ b
        → (if b then option_and_then (progress_under sizes.atom m)
        (only (conversions_of m.keyslots)) else None) ≡ Some p
        → in_progress m.config ≡ true
    go true at e = at
    go false at e = absurd cc

pub the-idle : (m : Parts) (sizes : Sizes) (v : Idle) → IsSound m sizes → idle_of m sizes ≡ Some v
    → IsIdle m sizes v
the-idle m sizes v sound is =
    let found = (sound.idle (idle-rests m sizes v is)).1 in
    let same : found.0 ≡ v = (let e : Some found.0 ≡ Some v = sym found.1 ∙ is in cc) in
    subst (IsIdle m sizes) same found.2

pub the-conversion : (m : Parts) (sizes : Sizes) (p : Progress) → IsSound m sizes
    → progress_of m sizes ≡ Some p → (live : List Extent) × IsConverting m sizes p live
the-conversion m sizes p sound is =
    let found = (sound.busy (progress-busy m sizes p is)).1 in
    let same : found.0 ≡ p = (let e : Some found.0 ≡ Some p = sym found.1 ∙ is in cc) in
    subst (λ (c : Progress). (live : List Extent) × IsConverting m sizes c live) same found.2

-- ---- where a block lies
starts-at : (atom base offset b : ℕ) → IsAtom atom → offset % atom ≡ 0
    → base * atom + offset ≤ (base + offset / atom + b) * atom
starts-at atom base offset b (inl e) even =
    let whole = rw e at even in rw e (omega (arith, whole))
starts-at atom base offset b (inr e) even =
    let whole = rw e at even in rw e (omega (arith, whole))

-- the keyslots area ends in front of the segment, or of the main disk
ends-before : (m : Parts) (sizes : Sizes) (e : Extent) → LieWithin m sizes → IsPlaced m sizes e
    → (b : Bool) → sizes.detached ≡ b
    → areas_end m.config ≤ (if b then sizes.header_atoms else 0) * sizes.atom + e.offset
ends-before m sizes e lie placed true is =
    let end = lie.detached is in omega (arith, end)
ends-before m sizes e lie placed false is =
    let end = placed.behind is in omega (arith, end)

behind-areas : (m : Parts) (sizes : Sizes) (e : Extent) (b : ℕ) → IsAtom sizes.atom
    → LieWithin m sizes → IsPlaced m sizes e
    → areas_end m.config ≤ (place_of sizes e + b) * sizes.atom
behind-areas m sizes e b known lie placed =
    let base : ℕ = if sizes.detached then sizes.header_atoms else 0 in
    let end = ends-before m sizes e lie placed sizes.detached refl in
    let start = starts-at sizes.atom base e.offset b known placed.whole in
    omega (arith, end, start)

-- on either side
by-side : (P : ℕ → Type 0) (map : Map) (old new b : ℕ) → map.old_place ≡ old → map.new_place ≡ new
    → P (old + b) → P (new + b) → (s : Side) → P (place_on map b s)
by-side P map old new b is also first second Old = subst (λ k. P (k + b)) (sym is) first
by-side P map old new b is also first second Zone = subst (λ k. P (k + b)) (sym is) first
by-side P map old new b is also first second New = subst (λ k. P (k + b)) (sym also) second

module _ (m : Parts) (sizes : Sizes) (p : Placement) (known : IsAtom sizes.atom)
    (sound : IsSound m sizes) (b : ℕ) where
  abbrev Lies : ℕ → Type 0
  Lies place = areas_end m.config ≤ place * sizes.atom

  idle-behind : (v : Idle) → idle_of m sizes ≡ Some v → IsIdlePlacement sizes v p
      → Lies (place_in p.map b)
  idle-behind v is placed =
      let there = behind-areas m sizes v.segment b known sound.within
      (the-idle m sizes v sound is).placed in
      by-side Lies p.map (place_of sizes v.segment) (place_of sizes v.segment) b placed.old_place
      placed.new_place there there (side_in p.map b)

  by-idle : (o : Option Idle) → idle_of m sizes ≡ o → PlacedBy sizes o p → Lies (place_in p.map b)
  by-idle (Some v) is placed = idle-behind v is placed
  by-idle None is placed = absurd placed

  converting-behind : PlacesConversion m sizes p → Lies (place_in p.map b)
  converting-behind (c, is, placed) =
      let has = the-conversion m sizes c sound is in
      by-side Lies p.map (place_of sizes c.old) (place_of sizes c.new) b placed.map.old_place
      placed.map.new_place (behind-areas m sizes c.old b known sound.within has.1.old)
      (behind-areas m sizes c.new b known sound.within has.1.new) (side_in p.map b)

  pub block-behind : PlacesVolume m sizes p → Lies (place_in p.map b)
  block-behind (inl placed) = by-idle (idle_of m sizes) refl placed
  block-behind (inr placed) = converting-behind placed
