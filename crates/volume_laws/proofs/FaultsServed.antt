-- Steps of the worker that fail: the volume is broken, and the last lane's operation ends.
use Rattle.std.proofs.Common.{Bool, Contains, List, Some, ap, arith, false, inl, inr, refl, subst}
use Rattle.std.proofs.Common.{sym, true, ℕ, ◌∷◌, ◌+◌, ◌-◌, ◌<◌, ◌∙◌, ◌≡◌}
use Rattle.crash_laws.proofs.HotZones.ZoneFrames.{zone_stays}
use Rattle.crash_laws.specs.HotZones.Zones.{Resilience}
use Rattle.plain_disk.specs.Plain.{Block}
use Rattle.sector_disk.specs.DiskViews.Parts.{block_at}
use Rattle.sector_disk.specs.DiskViews.Views.{IsOutside, View}
use Rattle.volume_machine.specs.Edges.{InPlain}
use Rattle.volume_machine.specs.Pieces.{place_in}
use Rattle.volume_machine.specs.Seals.{Seals}
use Rattle.volume_machine.specs.States.{IsLive, State, open_at}
use Rattle.volume_machine.specs.Steps.{Holds}
use Rattle.volume_machine.specs.Working.{Works}
use Rattle.volume_machine.specs.Works.{Work}
use Rattle.crash_laws.specs.HeaderAreas.Areas.{Area, AreApart}
use Rattle.crash_laws.specs.HeaderAreas.Headers.{Layout, Header, place_of}
use Rattle.sector_disk.specs.DiskViews.Views.{HasNoMore}
use Rattle.crash_laws.specs.HotZones.Calls.{write_fails_beside}
use Rattle.crash_laws.specs.HotZones.Standing.{IsPhaseOf, side_before}
use Rattle.crash_laws.specs.HotZones.Zones.{Phase, Reaches, saving, its_header, its_own, its_store, its_target}
use Rattle.sector_disk.specs.Devices.{Device}
use Rattle.volume_machine.specs.WorkCalls.{StepFails, move_fails, open_fails, read_fails, save_fails}
use Rattle.volume_machine.specs.WorkCalls.{shift_fails, sync_fails, turn_fails, write_fails}
use Rattle.volume_machine.specs.WorkSteps.{Faults, Frees, MissesWipe, Proceeds, zeros_of}
use Rattle.volume_machine.specs.Working.{IsSpare}
use Rattle.volume_machine.specs.Works.{Part, advanced, empty_zone, resting, wanted, wiping}
use Rattle.volume_laws.specs.Contents.{IsAllowedAt, IsSealed}
use Rattle.volume_laws.specs.Texts.{texts_of}
use Rattle.volume_laws.proofs.FreesServed.{freed_served, still_under_way, then_ends}
use Rattle.volume_laws.proofs.Here.{Here, Moves, here_after}
use Rattle.volume_laws.proofs.ToldApart.{TellsAtoms, tells_failed}
use Rattle.volume_laws.proofs.Invariant.{KnowsPart, Logic, Shown, ShowsWork}
use Rattle.volume_laws.proofs.Invariant.{allowed_kept}
use Rattle.volume_laws.proofs.Reading.{forced_writes, writes_lock}
use Rattle.volume_laws.proofs.StepsSeen.{SeenFailed, fault_seen}
use Rattle.volume_laws.proofs.StepsServed.{at_hand_now, kind_of_phase, newest_resealed, phase_of_kind}
use Rattle.volume_laws.proofs.StepsServed.{shifted_in}
use Rattle.volume_laws.proofs.WorkAround.{governed_back, governed_on, live_back, logic_worked}
use Rattle.volume_laws.proofs.WorkAround.{same_tried, sound_worked, works_advanced}
use Rattle.volume_laws.proofs.WorkMoves.{moves_as, put_fails}
use Rattle.volume_laws.proofs.Workings.{ended_live, works_apart}

-- a call that fails leaves of live blocks no more than was there
module _ {K : Type 0} {old mid : State K} {next : Work} (on : Proceeds old mid old.map next true) where
  around_failed : {plain : ℕ → InPlain} {seals : Seals} {left : List Block} {view after : View}
      → Logic old plain left → old.broken ≡ false → Works old
      → ((b : ℕ) → IsLive mid b → IsLive old b)
      → ((b : ℕ) → IsLive old b → HasNoMore view after (place_in old.map b))
      → ShowsWork mid seals left after → Shown old seals plain left view
      → Shown mid seals plain left after
  around_failed {plain} {seals} {left} {view} {after} logic was works live beside zone shown =
      record {
        current = λ whole. absurd (let broke = on.broken_is in cc);
        candidates = λ b alive atom contains. subst (λ m. (value : List ℕ)
            × IsAllowedAt mid plain left b value × IsSealed m seals b value atom) (sym on.map_is)
            (let (value, allowed, sealed) = shown.candidates b (live b alive) atom
            (beside b (live b alive) atom
            (subst (λ m. Contains (after.candidates (place_in m b)) atom) on.map_is contains)) in
            (value, allowed_kept (same_tried on) left b value allowed, sealed));
        settled = λ lane o is forced is_settled b from to atom contains. subst (λ m. IsSealed m
            seals b (block_at m.atom (plain lane).bytes (b - o.range.start)) atom) (sym on.map_is)
            (let is_old : open_at old.lanes lane ≡ Some o =
            ap (λ l. open_at l lane) (sym on.lanes) ∙ is in
            let knows = logic.lanes lane o is_old in
            let kept = knows.kept is_settled in
            let held : Holds old lane = knows.holds (let least = knows.least in
            omega (arith, kept, from, to, least)) in
            let alive = ended_live lane logic.sound (works_apart works) was is_old
            (writes_lock o.ask (forced_writes o.ask forced)) held (omega (arith, kept, from, to))
            b from to in
            shown.settled lane o is_old forced is_settled b from to atom (beside b alive atom
            (subst (λ m. Contains (after.candidates (place_in m b)) atom) on.map_is contains)));
        zone = zone;
      }

-- a step that fails stays of its kind too
module _ {seals : Seals} {atom : ℕ} {work : Work} {old new : Device} where
  fails_kind : {phase next_phase : Phase} {part : Part}
      → StepFails seals atom work old new phase part next_phase
      → shifted_in next_phase ≡ shifted_in phase
  fails_kind (read_fails phase first text behind call) = refl
  fails_kind (save_fails first count text saved it any call) = refl
  fails_kind (open_fails stage part call) = refl
  fails_kind (write_fails n count text next any is call) = refl
  fails_kind (move_fails stage part call) = refl
  fails_kind (shift_fails n count text next any is within call) = refl
  fails_kind (turn_fails stage part call) = refl
  fails_kind (sync_fails phase part next call) = refl

  pub fails_side : {phase next_phase : Phase} {part : Part}
      → StepFails seals atom work old new phase part next_phase
      → side_before next_phase ≡ side_before phase
  fails_side (read_fails phase first text behind call) = refl
  fails_side (save_fails first count text saved it any call) = refl
  fails_side (open_fails stage part call) = refl
  fails_side (write_fails n count text next any is call) = refl
  fails_side (move_fails stage part call) = refl
  fails_side (shift_fails n count text next any is within call) = refl
  fails_side (turn_fails stage part call) = refl
  fails_side (sync_fails phase part next call) = refl

  pub fails_phased : {phase next_phase : Phase} {part : Part} (resilience : Resilience)
      → StepFails seals atom work old new phase part next_phase → IsPhaseOf resilience phase
      → IsPhaseOf resilience next_phase
  fails_phased {phase} {next_phase} resilience fails phased = phase_of_kind resilience next_phase
      (fails_kind fails ∙ kind_of_phase resilience phase phased)

module _ {K P Q : Type 0} {old new : State K} {seals : Seals} {plain : ℕ → InPlain}
    {left : List Block} (here : Here P Q old seals plain left) (work : Work)
    (was : old.work ≡ Some work) (whole : old.broken ≡ false) where
  -- the volume breaks, and the last lane has its operation still
  broke_here : {phase : Phase} {part : Part} {fine : Bool}
      → Frees old new true (Some (advanced work phase part))
      → IsPhaseOf work.zone.resilience phase → side_before phase ≡ side_before work.phase
      → KnowsPart old.map.atom (texts_of old.map.atom seals left work) work.zone part
      → TellsAtoms old.map.atom (texts_of old.map.atom seals left work) work.zone phase
      → Moves P fine old.map.atom here.bytes old.disk new.disk
      (SeenFailed here work (here.works work was) (texts_of old.map.atom seals left work) work.phase
      phase) → Here P Q (still_under_way old new) seals plain left
  broke_here {phase} {part} frees phased side knows tells moved =
      let mid = still_under_way old new in
      let on : Proceeds old mid old.map (advanced work phase part) true = record {
        map_is = frees.map;
        keys = frees.keys;
        room = frees.room;
        entries = refl;
        lanes = refl;
        broken_is = frees.broken_is;
        work = frees.work;
      } in
      let sound = sound_worked on moved.atoms
      (λ b zoned. governed_on work was on b (here.logic.sound.zoned b zoned)) here.logic.sound in
      here_after here on.map_is (works_advanced work was on moved.atoms whole phased side here.works)
      (λ unbroken. absurd (let broke = frees.broken_is in cc))
      (logic_worked on sound whole (λ lane o at knows_lane b from to of.
      knows_lane.beside b from to (governed_back work was on b of)) here.logic) moved
      (λ view after seen shown. around_failed on here.logic whole here.works
      (live_back work was on) seen.beside (λ next is_next.
      let same : next ≡ advanced work phase part = (let at = on.work in cc) in
      rw (same, on.map_is, on.broken_is) (record {
        zone = seen.zone (at_hand_now work was whole shown).zone;
        part = knows;
        apart = tells;
      })) shown)

  pub broke_served : {phase : Phase} {part : Part} {fine : Bool}
      → (frees : Frees old new true (Some (advanced work phase part)))
      → IsPhaseOf work.zone.resilience phase → side_before phase ≡ side_before work.phase
      → KnowsPart old.map.atom (texts_of old.map.atom seals left work) work.zone part
      → TellsAtoms old.map.atom (texts_of old.map.atom seals left work) work.zone phase
      → Moves P fine old.map.atom here.bytes old.disk new.disk
      (SeenFailed here work (here.works work was) (texts_of old.map.atom seals left work) work.phase
      phase) → Here P Q new seals plain left
  broke_served frees phased side knows tells moved =
      freed_served (broke_here frees phased side knows tells moved) (then_ends frees) refl frees.last
      (λ o at. (here.works work was).worker frees.lane o frees.last at)
      (λ next is unbroken. absurd (let broke = frees.broken_is in cc))

pub faults_served : {K P Q : Type 0} {old new : State K} {seals : Seals} {plain : ℕ → InPlain}
    {left : List Block} → Here P Q old seals plain left → Faults seals old new
    → Here P Q new seals plain left
faults_served {old = old} {seals = seals} {left = left} here it =
    let work = it.work in
    let working = here.works work it.was in
    let texts = texts_of old.map.atom seals left work in
    let part = (at_hand_now work it.was it.unbroken here.shown).part in
    let (fine, moved) = fault_seen here work working texts (λ i. refl)
    (newest_resealed here work working) part it.fails in
    broke_served here work it.was it.unbroken it.frees
    (fails_phased work.zone.resilience it.fails working.phased) (fails_side it.fails) part
    (tells_failed texts it.fails (at_hand_now work it.was it.unbroken here.shown).apart) moved

-- ---- areas to be wiped
-- an area apart from another has none of its places
pub apart_outside : (area other : Area) (i : ℕ) → AreApart area other → i < other.count
    → IsOutside area.start area.count (other.start + i)
apart_outside area other i (inl before) below = inr (omega (arith, before))
apart_outside area other i (inr behind) below = inl (omega (arith, behind, below))

pub spare_beside : {K : Type 0} {state : State K} (layout : Layout) (header : Header (List ℕ))
    (area other : Area) → IsSpare state layout area
    → Reaches layout (empty_zone header header) other → (i : ℕ) → i < other.count
    → IsOutside area.start area.count (other.start + i)
spare_beside layout header area _ spare its_own i below = absurd (omega (arith, below))
spare_beside layout header area _ spare its_target i below = absurd (omega (arith, below))
spare_beside layout header area _ spare its_store i below = absurd (omega (arith, below))
spare_beside layout header area _ spare (its_header copy) i below =
    apart_outside area (place_of layout copy) i (spare.copies copy) below

pub wipe_fails_served : {K P Q : Type 0} {old new : State K} {seals : Seals} {plain : ℕ → InPlain}
    {left : List Block} → Here P Q old seals plain left → MissesWipe old new
    → Here P Q new seals plain left
wipe_fails_served {old = old} {new = new} {seals = seals} {left = left} here it =
    let work = resting it.layout it.header (wiping (it.area ∷ it.areas)) in
    let working = here.works work it.was in
    let texts = texts_of old.map.atom seals left work in
    let spare = working.spare it.area (0, omega arith, refl) in
    let zeros = zeros_of old.map.atom it.area in
    let frees : Frees old new true (Some (advanced work (saving 0) (wanted 0))) = record {
      lane = it.frees.lane;
      last = it.frees.last;
      map = it.frees.map;
      keys = it.frees.keys;
      room = it.frees.room;
      entries = it.frees.entries;
      lanes = it.frees.lanes;
      broken_is = it.frees.broken_is;
      work = it.frees.work ∙ it.was;
    } in
    broke_served here work it.was it.unbroken frees tt refl tt
    (λ is_so i below. absurd (omega (arith, below))) (moves_as (λ view after tried. record {
      zone = λ shows. zone_stays old.map.atom it.layout work.zone texts (saving 0) true view after
          (write_fails_beside old.map.atom it.area.start it.area.count zeros
          (λ other of i below. spare_beside it.layout it.header it.area other spare of i below) tried)
          shows;
      beside = λ b live. tried.outside (place_in old.map b) (spare.beside b live.inside);
    }) (put_fails here it.area.count it.call))
