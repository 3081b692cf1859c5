-- Where a volume's blocks lie by a header without an open zone, and which two headers the commit at
-- hand leads from and to in each phase of a zone that is led.
use Rattle.std.proofs.Common.{◌≡◌, ◌≢◌, ◌⊎◌, inl, inr, ℕ, ◌+◌, true, false, List}
use Rattle.std.proofs.Common.{Some, refl, sym, ◌∙◌, ap, ap₂, subst}
use Rattle.std.proofs.lemmas.Bool.{cases_lt}
use Rattle.crash_laws.specs.HeaderAreas.Headers.{Header}
use Rattle.base_terms.specs.declared.disk_sizes.Sizes.{Sizes}
use Rattle.crash_laws.specs.HotZones.Standing.{IsPhaseOf, side_after}
use Rattle.crash_laws.specs.HotZones.Standing.{side_before}
use Rattle.crash_laws.specs.HotZones.Zones.{Hotzone, Phase, checksum, datashift, from_of, journal, mending}
use Rattle.crash_laws.specs.HotZones.Zones.{moving, opening, saving, shifting, to_of, turning, writing}
use Rattle.crash_laws.specs.HotZones.Zones.{Resilience as Guard}
use Rattle.hotzone.proofs.MadeLemmas.{config-on}
use Rattle.luks_meta.specs.declared.config.Config.{Config}
use Rattle.luks_meta.specs.declared.meta.Parts.{Parts}
use Rattle.luks_rules.specs.Shapes.{progress_of}
use Rattle.luks_rules.specs.declared.extents.Extent.{Extent}
use Rattle.luks_rules.specs.declared.plan.Plan.{Plan}
use Rattle.luks_rules.specs.declared.shape.Progress.{Progress}
use Rattle.image_laws.proofs.Opened.OneLemmas.{same-progress}
use Rattle.image_laws.proofs.Opened.TurnLemmas.{LiesBeside, LiesIn}
use Rattle.image_laws.specs.Opened.Images.{seals_at}
use Rattle.reenc_meta.specs.Moves.{IsGoneTo}
use Rattle.reenc_meta.specs.declared.placement.Placement.{Placement}
use Rattle.reenc_recovery.proofs.PlacingLemmas.{is_idle}
use Rattle.reenc_recovery.specs.Images.{seals_in}
use Rattle.reenc_recovery.specs.Keys.{seals_by}
use Rattle.reenc_recovery.specs.Placings.{IsConvertingPlacement, PlacesVolume}
use Rattle.segment_map.specs.declared.Side.{Side}
use Rattle.segment_map.specs.declared.Side.TheVariants.{New, Old, Zone}
use Rattle.image_laws.proofs.Started.BlockLemmas.{progress-busy}
use Rattle.image_laws.specs.Led.Leading.{IsLed}
use Rattle.image_laws.specs.Led.Leading.{open_in}

-- ---- where the blocks lie by the header without an open zone
pub converting : (m : Parts) (sizes : Sizes) (c : Progress) (p : Placement)
    → progress_of m sizes ≡ Some c → PlacesVolume m sizes p → IsConvertingPlacement sizes c p
converting m sizes c p known (inl idle) =
    absurd (let e : false ≡ true = sym (is_idle m sizes p idle) ∙ progress-busy m sizes c known in cc)
converting m sizes c p known (inr (other, is, placed)) =
    subst (λ (x : Progress). IsConvertingPlacement sizes x p)
    (same-progress (progress_of m sizes) other c is known) placed

pub seals-as : (sizes : Sizes) (closed : Progress) (n : ℕ) (p : Placement)
    → IsConvertingPlacement sizes closed p → (old new : List ℕ)
    → seals_in sizes.atom p old new ≡ seals_at sizes.atom (open_in n closed) old new
seals-as sizes closed n p placed old new =
    ap₂ (λ (x y : Extent). seals_by sizes.atom x y old new) placed.old placed.new

-- the area of the text stays as long as it is
pub opens-as-long : (m : Parts) (sizes : Sizes) (c : Progress) (plan : Plan) (next : Parts)
    → IsGoneTo m sizes c plan next → next.config.json_size ≡ m.config.json_size
opens-as-long m sizes c plan next gone =
    ap (λ (x : Parts). x.config.json_size) gone.is
    ∙ ap (λ (x : Config). x.json_size) (config-on sizes.atom c plan m)

-- a block lies beside the zone, or in it
pub lies : (plan : Plan) (b : ℕ) → LiesBeside plan b ⊎ LiesIn plan b
lies plan b =
    elim (cases_lt b plan.first) as (λ _. LiesBeside plan b ⊎ LiesIn plan b) [
      | inl before ↦ inl (inl before)
      | inr from ↦
          elim (cases_lt b (plan.first + plan.zone))
          as (λ _. LiesBeside plan b ⊎ LiesIn plan b) [
            | inl below ↦ inr (from, below)
            | inr behind ↦ inl (inr behind)
          ]
    ]

-- ---- the phases
pub led-phase : (r : Guard) (phase : Phase) → r ≢ datashift → IsLed phase → IsPhaseOf r phase
led-phase journal (saving n) other is = tt
led-phase journal (opening stage) other is = tt
led-phase journal (writing n) other is = tt
led-phase journal (moving stage) other is = tt
led-phase checksum (saving n) other is = tt
led-phase checksum (opening stage) other is = tt
led-phase checksum (writing n) other is = tt
led-phase checksum (moving stage) other is = tt
led-phase datashift phase other is = absurd (other refl)
led-phase r (mending n) other is = absurd is
led-phase r (shifting n) other is = absurd is
led-phase r (turning stage) other is = absurd is

-- which commit is at hand, or to come
pub record Turn (zone : Hotzone (List ℕ)) (phase : Phase) (from to : Header (List ℕ))
    (near far : Side) : Type 0 where
  pub from_is : from_of zone phase ≡ from
  pub to_is : to_of zone phase ≡ to
  pub near_is : side_before phase ≡ near
  pub far_is : side_after phase ≡ far

abbrev pub Turns : Hotzone (List ℕ) → Phase → Type 0
Turns zone phase =
    Turn zone phase zone.before zone.opened Old Zone ⊎ Turn zone phase zone.opened zone.moved Zone New

pub turn-of : (zone : Hotzone (List ℕ)) (phase : Phase) → IsLed phase → Turns zone phase
turn-of zone (saving n) is = inl (record { from_is = refl; to_is = refl; near_is = refl; far_is = refl })
turn-of zone (opening s) is = inl (record { from_is = refl; to_is = refl; near_is = refl; far_is = refl })
turn-of zone (writing n) is = inr (record { from_is = refl; to_is = refl; near_is = refl; far_is = refl })
turn-of zone (moving s) is = inr (record { from_is = refl; to_is = refl; near_is = refl; far_is = refl })
turn-of zone (mending n) is = absurd is
turn-of zone (shifting n) is = absurd is
turn-of zone (turning stage) is = absurd is
