-- Areas that are wiped, and the blocks that the worker takes: what holds at a moment goes on to
-- hold.
use Rattle.std.proofs.Common.{Bool, Contains, List, Some, [], ap, arith, false, inl, refl, subst}
use Rattle.std.proofs.Common.{suc, sym, true, ℕ, ◌<◌, ◌∙◌, ◌∷◌, ◌≡◌}
use Rattle.crash_laws.proofs.HotZones.ZoneFrames.{zone_stays}
use Rattle.crash_laws.specs.HotZones.Zones.{journal}
use Rattle.plain_disk.specs.Plain.{Block}
use Rattle.volume_machine.specs.Edges.{InPlain, nothing}
use Rattle.volume_machine.specs.Pieces.{place_in}
use Rattle.volume_machine.specs.Seals.{Seals}
use Rattle.volume_machine.specs.States.{IsLive, State, open_at}
use Rattle.volume_machine.specs.Working.{Works}
use Rattle.volume_machine.specs.Works.{Work}
use Rattle.crash_laws.specs.HeaderAreas.Areas.{Area}
use Rattle.crash_laws.specs.HeaderAreas.Headers.{Layout, Header, place_of}
use Rattle.crash_laws.specs.HotZones.Calls.{syncs, writes_beside}
use Rattle.crash_laws.specs.HotZones.Zones.{saving, its_header}
use Rattle.volume_machine.proofs.Soundness.{begins, sound_admitted}
use Rattle.volume_machine.specs.Events.{Outcome}
use Rattle.volume_machine.specs.States.{begun as begun_open}
use Rattle.volume_machine.specs.Readings.{Reading}
use Rattle.volume_machine.specs.WorkSteps.{IsWiped, Proceeds, Takes, Wipes, zeros_of}
use Rattle.volume_machine.specs.Working.{IsSpare, wiped_later}
use Rattle.volume_machine.specs.Works.{Progress, complete, converting, resting, wiping}
use Rattle.volume_machine.specs.declared.open.Open.{Open}
use Rattle.volume_laws.specs.Texts.{texts_of}
use Rattle.volume_laws.proofs.Admits.{holds_admitted, idle, knows_nothing, untried}
use Rattle.volume_laws.proofs.BeginsServed.{none_governed}
use Rattle.volume_laws.proofs.FaultsServed.{spare_beside}
use Rattle.volume_laws.proofs.Here.{Here, here_after, moves_by_sync, moves_not, positive}
use Rattle.volume_laws.proofs.Invariant.{goes_stays, live_back, logic_kept}
use Rattle.volume_laws.proofs.Invariant.{shown_kept, writes_stay}
use Rattle.volume_laws.proofs.StepsSeen.{synced_leaves}
use Rattle.volume_laws.proofs.StepsServed.{at_hand_now}
use Rattle.volume_laws.proofs.TurnsServed.{resting_works}
use Rattle.volume_laws.proofs.WorkAround.{worked_served}
use Rattle.volume_laws.proofs.WorkMoves.{put_moves}

-- a step between zones without blocks, which leaves the map and the locks
module _ {K : Type 0} {old new : State K} {layout : Layout} {header : Header (List ℕ)}
    {progress : Progress} {next : Work} {is_broken : Bool}
    (was : old.work ≡ Some (resting layout header progress))
    (on : Proceeds old new old.map next is_broken) where
  live_rest : (b : ℕ) → IsLive new b → IsLive old b
  live_rest b live = record {
    inside = subst (λ m. b < m.blocks) on.map_is live.inside;
    free = none_governed old b was;
  }

  -- what is asked of the zone at hand then
  pub works_rest : (to : Header (List ℕ)) → next.layout ≡ layout
      → next.zone ≡ Rattle.volume_machine.specs.Works.empty_zone header to
      → next.range ≡ Rattle.volume_machine.specs.Works.no_blocks
      → Rattle.crash_laws.specs.HotZones.Standing.IsPhaseOf journal next.phase
      → new.disk.atoms ≡ old.disk.atoms
      → ((area : Area) → Contains (wiped_later next.progress) area → IsSpare old layout area)
      → Works old → Works new
  works_rest to layout_is zone_is range_is phased atoms spare works one is_one =
      let working = works _ was in
      let same : one ≡ next = (let at = on.work in cc) in
      rw same (resting_works layout header to next layout_is zone_is range_is phased
      working.lies.apart.headers (rw atoms working.within.copies)
      (λ lane o last at. working.worker lane o (rw (← on.lanes) last)
      (ap (λ l. open_at l lane) (sym on.lanes) ∙ at))
      (λ b live copy. rw on.map_is
      (working.lies.away b (live_rest b live) (place_of layout copy) (its_header copy)))
      (λ area has. let it = spare area has in record {
        within = rw atoms it.within;
        copies = it.copies;
        beside = λ b below. rw on.map_is (it.beside b (subst (λ m. b < m.blocks) on.map_is below));
      }))

-- ---- an area is wiped, and all are certain to be
pub wipes_served : {K P Q : Type 0} {old new : State K} {seals : Seals} {plain : ℕ → InPlain}
    {left : List Block} → Here P Q old seals plain left → Q → Wipes old new
    → Here P Q new seals plain left
wipes_served {old = old} {new = new} {seals = seals} {left = left} here all it =
    let on = it.goes in
    let rest = resting it.layout it.header (wiping (it.area ∷ it.areas)) in
    let then_rest = resting it.layout it.header (wiping it.areas) in
    let working = here.works rest it.was in
    let spare = working.spare it.area (0, omega arith, refl) in
    worked_served here on it.unbroken
    (works_rest it.was on it.header refl refl refl tt it.call.call.atoms
    (λ area (k, below, is). working.spare area (suc k, omega (arith, below), is)) here.works)
    (λ b zoned. absurd (none_governed old b it.was (here.logic.sound.zoned b zoned)))
    (λ lane o at knows b from to of. none_governed new b on.work of)
    (put_moves here it.area.count all it.unbroken spare.within it.call)
    (λ view after written shown. record {
      live = λ b live. inl (live_rest it.was on b live);
      beside = λ b live. (let outside = spare.beside b live.inside in record {
        current = written.outside (place_in old.map b) outside;
        candidates = λ atom has. inl (written.tried.outside (place_in old.map b) outside atom has);
      });
      zone = λ next is_next. (let one : next ≡ then_rest = (let at = on.work in cc) in
          rw (one, on.map_is, on.broken_is) (record {
            zone = zone_stays old.map.atom it.layout rest.zone (texts_of old.map.atom seals left rest)
                (saving 0) false view after (writes_beside old.map.atom it.area.start it.area.count
                (zeros_of old.map.atom it.area) (λ other of i below.
                spare_beside it.layout it.header it.area other spare of i below) written)
                (at_hand_now rest it.was it.unbroken shown).zone;
            part = tt;
            apart = λ is_so i below. absurd (omega (arith, below));
          }));
    })

pub wiped_served : {K P Q : Type 0} {old new : State K} {seals : Seals} {plain : ℕ → InPlain}
    {left : List Block} → Here P Q old seals plain left → IsWiped old new
    → Here P Q new seals plain left
wiped_served {old = old} {new = new} {seals = seals} {left = left} here it =
    let on = it.goes in
    let rest = resting it.layout it.header (wiping []) in
    let then_rest = resting it.layout it.header complete in
    worked_served here on it.unbroken
    (works_rest it.was on it.header refl refl refl tt it.call.atoms
    (λ area (k, below, is). absurd (omega (arith, below))) here.works)
    (λ b zoned. absurd (none_governed old b it.was (here.logic.sound.zoned b zoned)))
    (λ lane o at knows b from to of. none_governed new b on.work of)
    (moves_by_sync it.call here.values)
    (λ view after synced shown. record {
      live = λ b live. inl (live_rest it.was on b live);
      beside = λ b live. synced_leaves here rest (here.works rest it.was) view after synced b;
      zone = λ next is_next. (let one : next ≡ then_rest = (let at = on.work in cc) in
          rw (one, on.map_is, on.broken_is) (record {
            zone = zone_stays old.map.atom it.layout rest.zone (texts_of old.map.atom seals left rest)
                (saving 0) false view after (syncs synced)
                (at_hand_now rest it.was it.unbroken shown).zone;
            part = tt;
            apart = λ is_so i below. absurd (omega (arith, below));
          }));
    })

-- ---- the next zone's blocks are taken
-- what is asked of the zone at hand when its blocks are taken
pub works_taken : {K : Type 0} {reading : Reading} {old new : State K} {outcome : Outcome}
    → Takes reading old new outcome
    → Works old → Works new
works_taken {old = old} {new = new} it works one is_one =
    let goes = it.admitted.goes in
    let rest = resting it.layout it.header converting in
    let working = works rest it.was in
    let same : one ≡ rest = (let now = goes.work ∙ it.was in cc) in
    let fresh = begun_open old.map.atom it.session it.ask in
    rw same (resting_works it.layout it.header it.header rest refl refl refl tt
    working.lies.apart.headers (rw (ap (λ d. d.atoms) it.admitted.rests) working.within.copies)
    (λ lane o last at.
    let count = goes.lane_is.count in let first = it.last in
    let own : lane ≡ it.lane = omega (arith, last, count, first) in
    let there = ap (λ n. open_at new.lanes n) own in
    let e : o ≡ fresh = (let now = goes.lane_is.own in cc) in
    rw e (record { writes = it.writes; next = refl; unfailed = refl }))
    (λ b live copy. rw goes.map (working.lies.away b (live_back b (goes_stays goes) live)
    (place_of it.layout copy) (its_header copy)))
    (λ area (k, below, is). absurd (omega (arith, below))))

pub takes_served : {K P Q : Type 0} {reading : Reading} {old new : State K} {seals : Seals}
    {plain : ℕ → InPlain} {left : List Block} {outcome : Outcome} → Here P Q old seals plain left
    → (it : Takes reading old new outcome) → plain it.lane ≡ nothing → Here P Q new seals plain left
takes_served {old = old} {new = new} {plain = plain} {left = left} {outcome = outcome} here it none =
    let goes = it.admitted.goes in
    let fresh = begun_open old.map.atom it.session it.ask in
    let under_way = begins old.map it.session it.ask it.proper in
    let sound = sound_admitted new it.lane here.logic.sound it.session it.ask outcome it.free
    it.proper it.admitted in
    let is_fresh : (o : Open) → Some o ≡ Some fresh → o ≡ fresh = λ o same. cc in
    here_after here goes.map (works_taken it here.works) (λ whole. (sym goes.broken_is ∙ whole, refl))
    (logic_kept goes (λ whole. whole) sound (λ k other. refl) (holds_admitted it.admitted)
    (λ o same. let e : o ≡ fresh = cc in
    rw e (knows_nothing none refl refl (omega (arith, under_way.begun, under_way.within)) refl refl))
    here.logic)
    (moves_not it.admitted.rests here.values)
    (λ view after same. shown_kept (goes_stays goes) (writes_stay goes.map goes.lane_is
    (λ k other. refl) (idle it.free) (untried (rw goes.map (positive here)) none)
    (λ o becomes forced settled. let e : o ≡ fresh = cc in
    let never : false ≡ true = rw e at settled in cc))
    (λ whole. (sym goes.broken_is ∙ whole, same.current)) same.candidates)
