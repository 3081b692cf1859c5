-- A zone whose headers are named, and the finish, whose zone has no block: nothing else changes, and
-- what holds at a moment goes on to hold.
use Rattle.std.proofs.Common.{List, Some, arith, false, inl, inr, refl, subst, sym, true, ℕ, ◌≡◌}
use Rattle.std.proofs.Common.{◌⊎◌}
use Rattle.std.proofs.lemmas.Bool.{cases_eq as same_or_not}
use Rattle.crash_laws.specs.HotZones.Zones.{Reaches, Resilience, checksum, datashift, journal}
use Rattle.crash_laws.specs.HotZones.Zones.{ShowsZone}
use Rattle.plain_disk.specs.Plain.{Block}
use Rattle.sector_disk.specs.DiskViews.Views.{View}
use Rattle.volume_machine.specs.Edges.{InPlain}
use Rattle.volume_machine.specs.Seals.{Seals}
use Rattle.volume_machine.specs.States.{IsLive, State}
use Rattle.volume_machine.specs.Working.{IsWorking}
use Rattle.volume_machine.specs.Works.{Work}
use Rattle.crash_laws.specs.HeaderAreas.Areas.{Area}
use Rattle.crash_laws.specs.HeaderAreas.Commits.{begun, first_written}
use Rattle.crash_laws.specs.HeaderAreas.Headers.{Layout, Header, place_of}
use Rattle.crash_laws.proofs.HotZones.ZoneFrames.{zone_unchanged}
use Rattle.crash_laws.specs.HotZones.Calls.{IsFirst}
use Rattle.crash_laws.specs.HotZones.Zones.{Hotzone, Phase, Texts, saving, opening, writing, mending, moving}
use Rattle.crash_laws.specs.HotZones.Zones.{shifting, turning, IsApart, its_header, its_own, its_store}
use Rattle.crash_laws.specs.HotZones.Zones.{its_target}
use Rattle.volume_machine.specs.Readings.{Reading}
use Rattle.volume_machine.specs.WorkCalls as steps
use Rattle.volume_machine.specs.WorkSteps.{Concludes, Frees, MayConclude, MissesConclusion, Proceeds}
use Rattle.volume_machine.specs.WorkSteps.{StepsOn, closing}
use Rattle.volume_machine.specs.Working.{HasRoom}
use Rattle.volume_machine.specs.Works.{advanced, converting, named, resting, wanted}
use Rattle.volume_laws.specs.Texts.{texts_of}
use Rattle.volume_laws.proofs.BeginsServed.{any_next, none_governed}
use Rattle.volume_laws.proofs.FaultsServed.{broke_served}
use Rattle.volume_laws.proofs.Here.{Here, moves_not}
use Rattle.volume_laws.proofs.StepsSeen.{fault_seen, unchanged_leaves}
use Rattle.volume_laws.proofs.StepsServed.{at_hand_now, newest_resealed, zone_step_served}
use Rattle.volume_laws.proofs.TurnsServed.{resting_works}
use Rattle.volume_laws.proofs.WorkAround.{IsIn, worked_served}

-- a phase is the first one, or it isn't
pub first_or_not : (phase : Phase) → IsFirst phase ⊎ (IsFirst phase → ⊥)
first_or_not (saving n) = same_or_not n 0
first_or_not (opening stage) = inr (λ is. is)
first_or_not (writing n) = inr (λ is. is)
first_or_not (mending n) = inr (λ is. is)
first_or_not (moving stage) = inr (λ is. is)
first_or_not (shifting n) = same_or_not n 0
first_or_not (turning stage) = inr (λ is. is)

-- a state with another zone at hand
abbrev pub with_work : {K : Type 0} → State K → Work → State K
with_work state work = record state { work = Some work }

-- nothing changes but the zone at hand
renamed_goes : {K : Type 0} {old : State K} (next : Work) → old.broken ≡ false
    → Proceeds old (with_work old next) old.map next false
renamed_goes next was = record {
  map_is = refl;
  keys = refl;
  room = refl;
  entries = refl;
  lanes = refl;
  broken_is = was;
  work = refl;
}

-- ---- the headers that a zone leads to
module _ (opened moved : Header (List ℕ)) where
  abbrev zone_named : Hotzone (List ℕ) → Hotzone (List ℕ)
  zone_named zone = record zone { opened = opened; moved = moved }

  apart_named : (layout : Layout) (zone : Hotzone (List ℕ)) → IsApart layout zone
      → IsApart layout (zone_named zone)
  apart_named layout zone apart = record {
    own_store = apart.own_store;
    own_target = apart.own_target;
    target_store = apart.target_store;
    own_header = apart.own_header;
    target_header = apart.target_header;
    store_header = apart.store_header;
    headers = apart.headers;
  }

  room_named : (resilience : Resilience) (atom : ℕ) (zone : Hotzone (List ℕ))
      → HasRoom resilience atom zone → HasRoom resilience atom (zone_named zone)
  room_named journal atom zone room = room
  room_named checksum atom zone room = room
  room_named datashift atom zone room = room

  reaches_back : {layout : Layout} {zone : Hotzone (List ℕ)} {area : Area}
      → Reaches layout (zone_named zone) area → Reaches layout zone area
  reaches_back its_own = its_own
  reaches_back its_target = its_target
  reaches_back its_store = its_store
  reaches_back (its_header copy) = its_header copy

  pub working_named : {K : Type 0} {old : State K} (work : Work) → old.work ≡ Some work
      → IsWorking old work
      → IsWorking (with_work old (named work opened moved)) (named work opened moved)
  working_named {old = old} work was working = record {
    lies = record {
      apart = apart_named work.layout work.zone working.lies.apart;
      count = working.lies.count;
      inside = working.lies.inside;
      fewer = working.lies.fewer;
      held = λ whole some. (let held = working.lies.held whole some in record {
        lane = held.lane;
        last = held.last;
        o = held.o;
        at = held.at;
        writes = held.writes;
        range = held.range;
        next = held.next;
        unfailed = held.unfailed;
        holds = held.holds;
      });
      away = λ b live area of. working.lies.away b (live_named b live) area (reaches_back of);
    };
    enough = room_named work.zone.resilience _ work.zone working.enough;
    phased = working.phased;
    within = record {
      zone = record {
        own = working.within.zone.own;
        target = working.within.zone.target;
        store = working.within.zone.store;
      };
      copies = working.within.copies;
    };
    sides = working.sides;
    places = working.places;
    worker = working.worker;
    spare = λ area has. (let spare = working.spare area has in record {
      within = spare.within;
      copies = spare.copies;
      beside = spare.beside;
    });
    behind = working.behind;
  }
    where
      live_named : (b : ℕ) → IsLive (with_work old (named work opened moved)) b → IsLive old b
      live_named b live = record {
        inside = live.inside;
        free = λ governed. live.free (subst (λ w. IsIn w b) was governed);
      }

  -- what the disk shows
  shows_named : (atom : ℕ) (layout : Layout) (zone : Hotzone (List ℕ)) (texts : Texts)
      (phase : Phase) (view : View) → IsFirst phase
      → ShowsZone atom layout zone texts phase false view
      → ShowsZone atom layout (zone_named zone) texts phase false view
  shows_named atom layout zone texts (saving n) view is shows = record {
    own = shows.own;
    target = shows.target;
    store = shows.store;
    header = any_next opened shows.header;
  }
  shows_named atom layout zone texts (opening stage) view is shows = absurd is
  shows_named atom layout zone texts (writing n) view is shows = absurd is
  shows_named atom layout zone texts (mending n) view is shows = absurd is
  shows_named atom layout zone texts (moving stage) view is shows = absurd is
  shows_named atom layout zone texts (shifting n) view is shows = record {
    own = shows.own;
    target = shows.target;
    store = shows.store;
    header = any_next moved shows.header;
  }
  shows_named atom layout zone texts (turning stage) view is shows = absurd is

module _ {K P Q : Type 0} {old : State K} {seals : Seals} {plain : ℕ → InPlain} {left : List Block}
    (here : Here P Q old seals plain left) (work : Work) (is : old.work ≡ Some work)
    (was : old.broken ≡ false) where
  first_named : (opened moved : Header (List ℕ)) → IsFirst work.phase
      → Here P Q (with_work old (named work opened moved)) seals plain left
  first_named opened moved first =
      let next = named work opened moved in
      let on = renamed_goes {old = old} next was in
      worked_served here on was
      (λ one is_one. let same : one ≡ next = cc in
      rw same (working_named opened moved work is (here.works work is)))
      (λ b zoned. subst (λ w. IsIn w b) is (here.logic.sound.zoned b zoned))
      (λ lane o at knows b from to of. knows.beside b from to (subst (λ w. IsIn w b) (sym is) of))
      (moves_not refl here.values)
      (λ view after same shown. record {
        live = λ b live. inl (record {
          inside = live.inside;
          free = λ governed. live.free (subst (λ w. IsIn w b) is governed);
        });
        beside = λ b live. unchanged_leaves here work (here.works work is) view after same b;
        zone = λ one is_one. (let eq : one ≡ next = cc in
            let now = at_hand_now work is was shown in
            rw (eq, was) (record {
              zone = shows_named opened moved old.map.atom work.layout work.zone
                  (texts_of old.map.atom seals left work) work.phase after first
                  (zone_unchanged old.map.atom work.layout work.zone
                  (texts_of old.map.atom seals left work) work.phase false view after same now.zone);
              part = now.part;
              apart = now.apart;
            }));
      })

  -- named with the first write, and as they are from then on
  pub named_here : (opened moved : Header (List ℕ))
      → ((IsFirst work.phase → ⊥) → (opened ≡ work.zone.opened) × (moved ≡ work.zone.moved))
      → Here P Q (with_work old (named work opened moved)) seals plain left
  named_here opened moved stay = elim (first_or_not work.phase) [
    | inl first ↦ first_named opened moved first
    | inr behind ↦ let (same_opened, same_moved) = stay behind in
        let same : with_work old (named work opened moved) ≡ old =
        rw (same_opened, same_moved, ← is) refl in
        subst (λ s. Here P Q s seals plain left) (sym same) here
  ]

pub steps_served : {K P Q : Type 0} {reading : Reading} {old new : State K} {seals : Seals}
    {plain : ℕ → InPlain} {left : List Block} → Here P Q old seals plain left → Q
    → StepsOn reading seals old new → Here P Q new seals plain left
steps_served {old = old} here all it =
    let next = named it.work it.opened it.moved in
    let on = it.goes in
    zone_step_served {old = with_work old next}
    (named_here here it.work it.was it.unbroken it.opened it.moved it.names.stay) all next refl
    it.unbroken it.step (record {
      map_is = on.map_is;
      keys = on.keys;
      room = on.room;
      entries = on.entries;
      lanes = on.lanes;
      broken_is = on.broken_is;
      work = on.work;
    })

-- ---- the finish
module _ {K P Q : Type 0} {reading : Reading} {old : State K} {seals : Seals} {plain : ℕ → InPlain}
    {left : List Block} (here : Here P Q old seals plain left) (layout : Layout)
    (header next : Header (List ℕ)) (areas : List Area)
    (may : MayConclude reading old layout header next areas) where
  abbrev closed : Work
  closed = closing layout header next begun areas

  pub closed_here : Here P Q (with_work old closed) seals plain left
  closed_here =
      let rest = resting layout header converting in
      let working = here.works rest may.was in
      let on = renamed_goes {old = old} closed may.unbroken in
      worked_served here on may.unbroken
      (λ one is_one. let same : one ≡ closed = cc in
      rw same (resting_works layout header next closed refl refl refl tt working.lies.apart.headers
      working.within.copies working.worker
      (λ b live copy. working.lies.away b (record {
        inside = live.inside;
        free = none_governed old b may.was;
      }) (place_of layout copy) (its_header copy)) (λ area has. let spare = may.spare area has in
      record { within = spare.within; copies = spare.copies; beside = spare.beside })))
      (λ b zoned. absurd (none_governed old b may.was (here.logic.sound.zoned b zoned)))
      (λ lane o at knows b from to (low, high). omega (arith, high))
      (moves_not refl here.values)
      (λ view after same shown. record {
        live = λ b live. inl (record { inside = live.inside; free = none_governed old b may.was });
        beside = λ b live. unchanged_leaves here rest working view after same b;
        zone = λ one is_one. (let eq : one ≡ closed = cc in
            let now = at_hand_now rest may.was may.unbroken shown in
            rw (eq, may.unbroken) (record {
              zone = record {
                own = record {
                  now = λ whole i below. absurd (omega (arith, below));
                  left = λ i below value has. absurd (omega (arith, below));
                };
                target = record { now = λ whole i below. tt; left = λ i below value has. tt };
                store = record {
                  now = λ whole i below. absurd (omega (arith, below));
                  left = λ i below value has. absurd (omega (arith, below));
                };
                header = any_next next (zone_unchanged old.map.atom layout rest.zone
                    (texts_of old.map.atom seals left rest) (saving 0) false view after same
                    now.zone).header;
              };
              part = tt;
              apart = λ is_so i below. absurd (omega (arith, below));
            }));
      })

pub concludes_served : {K P Q : Type 0} {reading : Reading} {old new : State K} {seals : Seals}
    {plain : ℕ → InPlain} {left : List Block} → Here P Q old seals plain left → Q
    → Concludes reading old new → Here P Q new seals plain left
concludes_served {old = old} here all it =
    let on = it.goes in
    zone_step_served {old = with_work old (closing it.layout it.header it.next begun it.areas)}
    (closed_here here it.layout it.header it.next it.areas it.may) all
    (closing it.layout it.header it.next begun it.areas) refl it.may.unbroken
    (steps.moves begun (wanted 0) (λ same. cc) it.call) (record {
      map_is = on.map_is;
      keys = on.keys;
      room = on.room;
      entries = on.entries;
      lanes = on.lanes;
      broken_is = on.broken_is;
      work = on.work;
    })

pub conclusion_fails_served : {K P Q : Type 0} {reading : Reading} {old new : State K}
    {seals : Seals} {plain : ℕ → InPlain} {left : List Block} → Here P Q old seals plain left
    → MissesConclusion reading old new → Here P Q new seals plain left
conclusion_fails_served {old = old} {new = new} {seals = seals} {left = left} here it =
    let closed_work = closing it.layout it.header it.next begun it.areas in
    let mid = closed_here here it.layout it.header it.next it.areas it.may in
    let working = mid.works closed_work refl in
    let (fine, moved) = fault_seen mid closed_work working (texts_of old.map.atom seals left
    closed_work) (λ i. refl) (newest_resealed mid closed_work working) tt
    (steps.move_fails begun (wanted 0) it.call) in
    let frees : Frees (with_work old closed_work) new true
    (Some (advanced closed_work (moving first_written) (wanted 0))) = record {
      lane = it.frees.lane;
      last = it.frees.last;
      map = it.frees.map;
      keys = it.frees.keys;
      room = it.frees.room;
      entries = it.frees.entries;
      lanes = it.frees.lanes;
      broken_is = it.frees.broken_is;
      work = it.frees.work;
    } in
    broke_served mid closed_work refl it.may.unbroken frees tt refl tt
    (λ is_so i below. absurd (omega (arith, below))) moved
