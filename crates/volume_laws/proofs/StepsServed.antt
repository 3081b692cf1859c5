-- Steps of the zone at hand, one at a time: what holds at a moment goes on to hold.
use Rattle.std.proofs.Common.{Bool, List, Some, ap, arith, false, inl, refl, subst, true, ℕ, ◌+◌}
use Rattle.std.proofs.Common.{◌<◌, ◌∙◌, ◌≡◌}
use Rattle.crash_laws.specs.HotZones.Zones.{Resilience, checksum, datashift, journal}
use Rattle.plain_disk.specs.Plain.{Block}
use Rattle.sector_disk.specs.DiskViews.Views.{View}
use Rattle.segment_map.specs.declared.Side.TheVariants.{New, Old}
use Rattle.volume_machine.specs.Edges.{InPlain}
use Rattle.volume_machine.specs.Seals.{Seals}
use Rattle.volume_machine.specs.States.{State}
use Rattle.volume_machine.specs.Working.{IsWorking}
use Rattle.volume_machine.specs.Works.{Work}
use Rattle.crash_laws.specs.HotZones.Standing.{IsPhaseOf, side_before}
use Rattle.crash_laws.specs.HotZones.Zones.{Phase, saving, opening, writing, mending, moving, shifting}
use Rattle.crash_laws.specs.HotZones.Zones.{turning}
use Rattle.sector_disk.specs.Devices.{Device}
use Rattle.volume_machine.specs.WorkCalls.{ZoneStep, arrives, keeps, moves, opens, reads, resealed}
use Rattle.volume_machine.specs.WorkCalls.{saves, settles, shifts, turns, writes}
use Rattle.volume_machine.specs.WorkSteps.{Proceeds}
use Rattle.volume_machine.specs.Works.{Part, advanced}
use Rattle.volume_laws.specs.Contents.{block_in}
use Rattle.volume_laws.specs.Texts.{texts_of}
use Rattle.volume_laws.proofs.Here.{Here}
use Rattle.volume_laws.proofs.DigestsTell.{tells_after}
use Rattle.volume_laws.proofs.Invariant.{Shown, ShowsAtHand}
use Rattle.volume_laws.proofs.StepParts.{part_after}
use Rattle.volume_laws.proofs.StepsSeen.{step_seen}
use Rattle.volume_laws.proofs.WorkAround.{governed_back, governed_on, live_back, worked_served}
use Rattle.volume_laws.proofs.WorkAround.{works_advanced}

-- whether a phase is one of a zone whose blocks get other places
abbrev pub shifted_in : Phase → Bool
shifted_in (shifting n) = true
shifted_in (turning stage) = true
shifted_in _ = false

abbrev pub shifted_by : Resilience → Bool
shifted_by datashift = true
shifted_by _ = false

pub kind_of_phase : (resilience : Resilience) (phase : Phase) → IsPhaseOf resilience phase
    → shifted_in phase ≡ shifted_by resilience
kind_of_phase journal (saving n) is = refl
kind_of_phase journal (opening stage) is = refl
kind_of_phase journal (writing n) is = refl
kind_of_phase journal (mending n) is = refl
kind_of_phase journal (moving stage) is = refl
kind_of_phase journal (shifting n) is = absurd is
kind_of_phase journal (turning stage) is = absurd is
kind_of_phase checksum (saving n) is = refl
kind_of_phase checksum (opening stage) is = refl
kind_of_phase checksum (writing n) is = refl
kind_of_phase checksum (mending n) is = refl
kind_of_phase checksum (moving stage) is = refl
kind_of_phase checksum (shifting n) is = absurd is
kind_of_phase checksum (turning stage) is = absurd is
kind_of_phase datashift (saving n) is = absurd is
kind_of_phase datashift (opening stage) is = absurd is
kind_of_phase datashift (writing n) is = absurd is
kind_of_phase datashift (mending n) is = absurd is
kind_of_phase datashift (moving stage) is = absurd is
kind_of_phase datashift (shifting n) is = refl
kind_of_phase datashift (turning stage) is = refl

pub phase_of_kind : (resilience : Resilience) (phase : Phase)
    → shifted_in phase ≡ shifted_by resilience → IsPhaseOf resilience phase
phase_of_kind journal (saving n) is = tt
phase_of_kind journal (opening stage) is = tt
phase_of_kind journal (writing n) is = tt
phase_of_kind journal (mending n) is = tt
phase_of_kind journal (moving stage) is = tt
phase_of_kind journal (shifting n) is = absurd (cc)
phase_of_kind journal (turning stage) is = absurd (cc)
phase_of_kind checksum (saving n) is = tt
phase_of_kind checksum (opening stage) is = tt
phase_of_kind checksum (writing n) is = tt
phase_of_kind checksum (mending n) is = tt
phase_of_kind checksum (moving stage) is = tt
phase_of_kind checksum (shifting n) is = absurd (cc)
phase_of_kind checksum (turning stage) is = absurd (cc)
phase_of_kind datashift (saving n) is = absurd (cc)
phase_of_kind datashift (opening stage) is = absurd (cc)
phase_of_kind datashift (writing n) is = absurd (cc)
phase_of_kind datashift (mending n) is = absurd (cc)
phase_of_kind datashift (moving stage) is = absurd (cc)
phase_of_kind datashift (shifting n) is = tt
phase_of_kind datashift (turning stage) is = tt

-- a step of the zone stays of its kind, and on the side on which its header has its blocks
module _ {seals : Seals} {atom : ℕ} {work : Work} {old new : Device} where
  step_kind : {phase next_phase : Phase} {part next_part : Part}
      → ZoneStep seals atom work old new phase part next_phase next_part
      → shifted_in next_phase ≡ shifted_in phase
  step_kind (reads phase first count text is counted any long call) = refl
  step_kind (saves first count text saved it any call) = refl
  step_kind (keeps part call) = refl
  step_kind (opens stage part goes call) = refl
  step_kind (writes n count text next any is call) = refl
  step_kind (settles part call) = refl
  step_kind (moves stage part goes call) = refl
  step_kind (shifts n count text next any is within call) = refl
  step_kind (arrives part call) = refl
  step_kind (turns stage part goes call) = refl

  pub step_side : {phase next_phase : Phase} {part next_part : Part}
      → ZoneStep seals atom work old new phase part next_phase next_part
      → side_before next_phase ≡ side_before phase
  step_side (reads phase first count text is counted any long call) = refl
  step_side (saves first count text saved it any call) = refl
  step_side (keeps part call) = refl
  step_side (opens stage part goes call) = refl
  step_side (writes n count text next any is call) = refl
  step_side (settles part call) = refl
  step_side (moves stage part goes call) = refl
  step_side (shifts n count text next any is within call) = refl
  step_side (arrives part call) = refl
  step_side (turns stage part goes call) = refl

  pub step_phased : {phase next_phase : Phase} {part next_part : Part} (resilience : Resilience)
      → ZoneStep seals atom work old new phase part next_phase next_part
      → IsPhaseOf resilience phase → IsPhaseOf resilience next_phase
  step_phased {phase} {next_phase} resilience step phased = phase_of_kind resilience next_phase
      (step_kind step ∙ kind_of_phase resilience phase phased)

-- what an old atom of the zone is as it is sealed anew
pub newest_resealed : {K P Q : Type 0} {state : State K} {seals : Seals} {plain : ℕ → InPlain}
    {left : List Block} → Here P Q state seals plain left → (work : Work) → IsWorking state work
    → (i : ℕ) → i < work.zone.own.count
    → resealed seals (work.range.start + i) ((texts_of state.map.atom seals left work).old i)
    ≡ (texts_of state.map.atom seals left work).new i
newest_resealed {seals = seals} {left = left} here work working i below =
    let count = working.lies.count in let inside = working.lies.inside in
    ap (λ value. seals.sealed New (work.range.start + i) value)
    (here.lawful.opens_sealed Old (work.range.start + i)
    (block_in left (work.range.start + i)).newest
    (here.logic.are.newest (work.range.start + i) (omega (arith, below, count, inside))))

-- what is known of the zone while nothing has failed
pub at_hand_now : {K : Type 0} {state : State K} {seals : Seals} {plain : ℕ → InPlain}
    {left : List Block} {view : View} (work : Work) → state.work ≡ Some work
    → state.broken ≡ false → Shown state seals plain left view
    → ShowsAtHand state.map.atom seals left work false view
at_hand_now {state = state} {seals = seals} {left = left} {view = view} work is was shown =
    subst (λ b. ShowsAtHand state.map.atom seals left work b view) was (shown.zone work is)

pub zone_step_served : {K P Q : Type 0} {old new : State K} {seals : Seals} {plain : ℕ → InPlain}
    {left : List Block} {phase : Phase} {part : Part} → Here P Q old seals plain left → Q
    → (work : Work) → old.work ≡ Some work → old.broken ≡ false
    → ZoneStep seals old.map.atom work old.disk new.disk work.phase work.part phase part
    → Proceeds old new old.map (advanced work phase part) false → Here P Q new seals plain left
zone_step_served {old = old} {new = new} {seals = seals} {plain = plain} {left = left}
    {phase = phase} {part = part} here all work is was step on =
    let working = here.works work is in
    let texts = texts_of old.map.atom seals left work in
    let now = at_hand_now work is was here.shown in
    let moved = step_seen here work working texts (λ i. refl) (newest_resealed here work working) all
    was now.part step in
    let knows = part_after work texts here.values step now.zone now.part in
    worked_served here on was
    (works_advanced work is on moved.atoms was
    (step_phased work.zone.resilience step working.phased) (step_side step) here.works)
    (λ b zoned. governed_on work is on b (here.logic.sound.zoned b zoned))
    (λ lane o at knows_lane b from to of.
    knows_lane.beside b from to (governed_back work is on b of)) moved
    (λ view after seen shown. record {
      live = λ b live. inl (live_back work is on b live);
      beside = seen.beside;
      zone = λ next is_next. let same : next ≡ advanced work phase part =
          (let at = on.work in cc) in
          rw (same, on.map_is, on.broken_is) (record {
            zone = seen.zone (at_hand_now work is was shown).zone;
            part = knows;
            apart = tells_after work texts here.logic.sound.fits.known working.enough
                (newest_resealed here work working) step now.part now.apart;
          });
    })
