-- A header says one thing of a volume, whether it is being converted or not.
use Rattle.std.proofs.Common.{◌≡◌, inl, inr, ℕ, ◌+◌, Bool, true, false, List, Option, Some, None}
use Rattle.std.proofs.Common.{Ok, refl, sym, ◌∙◌, ap, subst, slice_get, if◌then◌else◌}
use Rattle.base_terms.specs.declared.disk_sizes.Sizes.{Sizes}
use Rattle.luks_meta.specs.declared.meta.Parts.{Parts}
use Rattle.luks_rules.specs.Idles.{idle_from, idle_of}
use Rattle.luks_rules.specs.Segments.{in_progress}
use Rattle.luks_rules.specs.Shapes.{progress_of}
use Rattle.luks_rules.specs.declared.idle.Idle.{Idle}
use Rattle.luks_rules.specs.declared.shape.Progress.{Progress}
use Rattle.luks_store.specs.Devices.{front_of}
use Rattle.luks_store.specs.Loads.{stored_in}
use Rattle.luks_store.specs.declared.loaded.Stored.{Stored}
use Rattle.reenc_meta.specs.Placements.{IsPlacementOf, PlacedBy}
use Rattle.reenc_meta.specs.Places.{AreOne}
use Rattle.reenc_meta.specs.declared.placement.Placement.{Placement}
use Rattle.reenc_recovery.specs.Placings.{IsConvertingPlacement, PlacesConversion, PlacesVolume}
use Rattle.reenc_recovery.specs.Placings.{RestsIn}
use Rattle.segment_map.specs.Maps.{place_on, sides_of}
use Rattle.segment_map.specs.Sides.{sides}
use Rattle.segment_map.specs.declared.Side.{Side}
use Rattle.segment_map.specs.declared.Side.TheVariants.{New, Old, Zone}
use Rattle.segment_map.specs.declared.map.Map.{Map}
use Rattle.volume_machine.specs.Pieces.{known_side, place_in, side_in}

-- a header says one thing of a volume of which nothing is being converted
abbrev pub OneIdlePlacement : Type 0
OneIdlePlacement = (m : Parts) (sizes : Sizes) (p q : Placement) → IsPlacementOf m sizes p
    → IsPlacementOf m sizes q → AreOne p q

-- and of any volume of which no zone is open
abbrev pub OnePlacement : Type 0
OnePlacement = (m : Parts) (sizes : Sizes) (p q : Placement) → PlacesVolume m sizes p
    → PlacesVolume m sizes q → AreOne p q

-- ---- a volume is idle, or it is being converted
idle_by : (sizes : Sizes) (busy : Bool) (idle : Option Idle) (p : Placement)
    → PlacedBy sizes (if busy then None else idle) p → busy ≡ false
idle_by sizes true idle p placed = absurd placed
idle_by sizes false idle p placed = refl

pub is_idle : (m : Parts) (sizes : Sizes) (p : Placement) → IsPlacementOf m sizes p
    → in_progress m.config ≡ false
unfolding idle_of
is_idle m sizes p placed =
    idle_by sizes (in_progress m.config) (idle_from sizes m.digests m.segments) p placed

busy_by : (busy : Bool) (found : Option Progress) (c : Progress)
    → (if busy then found else None) ≡ Some c → busy ≡ true
busy_by true found c is = refl
busy_by false found c is = absurd (let e : None ≡ Some c = is in cc)

is_busy : (m : Parts) (sizes : Sizes) (c : Progress) → progress_of m sizes ≡ Some c
    → in_progress m.config ≡ true
unfolding progress_of
is_busy m sizes c is = busy_by (in_progress m.config) _ c is

never_both : (m : Parts) (sizes : Sizes) (p q : Placement) → IsPlacementOf m sizes p
    → PlacesConversion m sizes q → ⊥
never_both m sizes p q idle (c, is, placed) =
    (let e : false ≡ true = sym (is_idle m sizes p idle) ∙ is_busy m sizes c is in cc)

-- where metadata place a volume of which nothing is being converted, that is how they place it
pub idle_too : (m : Parts) (sizes : Sizes) (p q : Placement) → IsPlacementOf m sizes p
    → PlacesVolume m sizes q → IsPlacementOf m sizes q
idle_too m sizes p q idle (inl is) = is
idle_too m sizes p q idle (inr converts) = absurd (never_both m sizes p q idle converts)

-- and so they do where nothing is being converted by them
pub resting : (m : Parts) (sizes : Sizes) (p : Placement) → in_progress m.config ≡ false
    → PlacesVolume m sizes p → IsPlacementOf m sizes p
resting m sizes p rests (inl is) = is
resting m sizes p rests (inr (c, is, placed)) =
    absurd (let e : false ≡ true = sym rests ∙ is_busy m sizes c is in cc)

-- ---- an image that has a header of which nothing is being converted
pub rests_by : (sizes : Sizes) (image : List ℕ) (header : Stored)
    → stored_in sizes (front_of sizes image) ≡ Ok header
    → in_progress header.valid.meta.config ≡ false → RestsIn sizes image
rests_by sizes image header held idle stored also =
    (let both : Ok stored ≡ Ok header = sym also ∙ held in
    let same : stored ≡ header = cc in
    ap (λ (s : Stored). in_progress s.valid.meta.config) same ∙ idle)

-- ---- two placements by one conversion
place_alike : (one other : Map) → one.old_place ≡ other.old_place
    → one.new_place ≡ other.new_place → (b : ℕ) (side : Side)
    → place_on one b side ≡ place_on other b side
place_alike one other old new b Old = ap (λ n. n + b) old
place_alike one other old new b Zone = ap (λ n. n + b) old
place_alike one other old new b New = ap (λ n. n + b) new

module _ (sizes : Sizes) (c : Progress) (p q : Placement) (is : IsConvertingPlacement sizes c p)
    (also : IsConvertingPlacement sizes c q) where
  same_sides : sides_of p.map ≡ sides_of q.map
  same_sides =
      ap (λ way. sides way p.map.blocks p.map.boundary p.map.zone)
      (is.map.direction ∙ sym also.map.direction)
      ∙ ap (λ n. sides q.map.direction n p.map.boundary p.map.zone)
      (is.map.blocks ∙ sym also.map.blocks)
      ∙ ap (λ n. sides q.map.direction q.map.blocks n p.map.zone)
      (is.map.boundary ∙ sym also.map.boundary)
      ∙ ap (λ n. sides q.map.direction q.map.blocks q.map.boundary n)
      (is.map.zone ∙ sym also.map.zone)

  same_side : (b : ℕ) → side_in p.map b ≡ side_in q.map b
  same_side b = ap (λ (xs : List Side). known_side (slice_get xs b)) same_sides

  same_place : (b : ℕ) → place_in p.map b ≡ place_in q.map b
  same_place b =
      ap (λ side. place_on p.map b side) (same_side b)
      ∙ place_alike p.map q.map (is.map.old_place ∙ sym also.map.old_place)
      (is.map.new_place ∙ sym also.map.new_place) b (side_in q.map b)

  one_conversion : AreOne p q
  one_conversion = record {
    atom = is.map.atom ∙ sym also.map.atom;
    blocks = is.map.blocks ∙ sym also.map.blocks;
    sides = λ b below. same_side b;
    places = λ b below. same_place b;
    old = is.old ∙ sym also.old;
    new = is.new ∙ sym also.new;
  }

same_progress : (o : Option Progress) (c d : Progress) → o ≡ Some c → o ≡ Some d → d ≡ c
same_progress o c d is also = (let e : Some d ≡ Some c = sym also ∙ is in cc)

conversions_are_one : (m : Parts) (sizes : Sizes) (p q : Placement) → PlacesConversion m sizes p
    → PlacesConversion m sizes q → AreOne p q
conversions_are_one m sizes p q (c, is, placed) (d, also, placed_too) =
    one_conversion sizes c p q placed
    (subst (λ (x : Progress). IsConvertingPlacement sizes x q)
    (same_progress (progress_of m sizes) c d is also) placed_too)

-- ---- both
pub placed_once : OneIdlePlacement → OnePlacement
placed_once idle m sizes p q (inl is) (inl also) = idle m sizes p q is also
placed_once idle m sizes p q (inl is) (inr converts) =
    absurd (never_both m sizes p q is converts)
placed_once idle m sizes p q (inr converts) (inl is) =
    absurd (never_both m sizes q p is converts)
placed_once idle m sizes p q (inr one) (inr other) = conversions_are_one m sizes p q one other
