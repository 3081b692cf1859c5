-- The last call of a zone: its blocks are new and live, and no zone is at hand.
use Rattle.std.proofs.Common.{Contains, List, ap, arith, inl, inr, refl, subst, sym, ℕ, ◌+◌, ◌-◌}
use Rattle.std.proofs.Common.{◌<◌, ◌∙◌, ◌≡◌, ◌≤◌}
use Rattle.plain_disk.specs.Plain.{Block}
use Rattle.sector_disk.specs.DiskViews.Views.{IsOutside, IsSynced, View}
use Rattle.segment_map.specs.declared.Side.TheVariants.{New}
use Rattle.volume_machine.specs.Edges.{InPlain}
use Rattle.volume_machine.specs.Pieces.{place_in, side_in}
use Rattle.volume_machine.specs.Seals.{Seals}
use Rattle.volume_machine.specs.States.{IsGoverned, IsLive, State, open_at}
use Rattle.volume_machine.specs.Working.{IsWorking, Works}
use Rattle.volume_machine.specs.Works.{Work}
use Rattle.crash_laws.specs.HeaderAreas.Areas.{Area}
use Rattle.crash_laws.specs.HeaderAreas.Headers.{Copy, place_of}
use Rattle.crash_laws.proofs.HotZones.ZoneCalls.{zone_ends}
use Rattle.crash_laws.specs.HotZones.Calls.{ShowsMoved, new_area}
use Rattle.crash_laws.specs.HotZones.Standing.{new_start}
use Rattle.crash_laws.specs.HotZones.Zones.{its_header}
use Rattle.volume_machine.specs.Courses.{IsOnCourse, Turns}
use Rattle.volume_machine.specs.Readings.{Reading}
use Rattle.volume_machine.specs.WorkSteps.{EndsZone}
use Rattle.volume_machine.specs.Working.{IsSpare, wiped_later}
use Rattle.volume_machine.specs.Works.{resting}
use Rattle.volume_laws.specs.Contents.{IsSealed, block_in}
use Rattle.volume_laws.specs.Texts.{texts_of}
use Rattle.volume_laws.proofs.BeginsServed.{none_governed, zone_untried}
use Rattle.volume_laws.proofs.Here.{Here, positive}
use Rattle.volume_laws.proofs.Invariant.{Logic, Shown}
use Rattle.volume_laws.proofs.StepsServed.{at_hand_now}
use Rattle.volume_laws.proofs.TurnedMaps.{IsTurned, here_turned, inside_before, logic_turned}
use Rattle.volume_laws.proofs.TurnedMaps.{shown_turned, sound_turned}
use Rattle.volume_laws.proofs.TurnsServed.{beyond_live, beyond_or_in, last_behind, leads_of}
use Rattle.volume_laws.proofs.TurnsServed.{live_beyond}
use Rattle.volume_laws.proofs.TurnsServed.{new_away, new_starts, new_within, resting_works, zoned_by}
use Rattle.volume_laws.proofs.WorkAround.{IsIn}

module _ {K : Type 0} {reading : Reading} {old new : State K} (it : EndsZone reading old new)
    (turns : Turns old.disk.atoms it.work.range New
    (new_start it.work.zone.resilience it.work.zone) old.map
    (reading.map_of it.work.zone.moved.means)) where
  abbrev rest : Work
  rest = resting it.work.layout it.work.zone.moved it.work.progress

  -- a block of the zone
  in_zone : IsWorking old it.work → (b : ℕ) → it.work.range.start ≤ b → b < it.work.range.end
      → b - it.work.range.start < it.work.zone.own.count
  in_zone working b from to = let count = working.lies.count in omega (arith, count, from, to)

  -- live blocks and the areas that are let alone
  copies_away : IsWorking old it.work → (b : ℕ) → IsLive new b → (copy : Copy)
      → IsOutside (place_of it.work.layout copy).start (place_of it.work.layout copy).count
      (place_in new.map b)
  copies_away working b live copy =
      let below = inside_before it.goes turns it.unbroken live.inside in
      elim (beyond_or_in it.work.range b) [
        | inl beyond ↦ subst (λ p. IsOutside (place_of it.work.layout copy).start
            (place_of it.work.layout copy).count p)
            (sym (ap (λ m. place_in m b) it.goes.map_is ∙ turns.same_places b below beyond))
            (working.lies.away b (beyond_live it.work it.was b below beyond)
            (place_of it.work.layout copy) (its_header copy))
        | inr (from, to) ↦ subst (λ p. IsOutside (place_of it.work.layout copy).start
            (place_of it.work.layout copy).count p)
            (sym (ap (λ m. place_in m b) it.goes.map_is ∙ turns.places b from to))
            (new_away it.work.zone.resilience old.map.atom (b - it.work.range.start) copy
            working.lies.apart working.enough (in_zone working b from to))
      ]

  spare_on : new.disk.atoms ≡ old.disk.atoms → IsWorking old it.work → (area : Area)
      → Contains (wiped_later it.work.progress) area → IsSpare new it.work.layout area
  spare_on atoms working area has =
      let spare = working.spare area has in let behind = working.behind area has in record {
        within = rw atoms spare.within;
        copies = spare.copies;
        beside = λ b inside. (let below = inside_before it.goes turns it.unbroken inside in
            elim (beyond_or_in it.work.range b) [
              | inl beyond ↦ subst (λ p. IsOutside area.start area.count p)
                  (sym (ap (λ m. place_in m b) it.goes.map_is ∙ turns.same_places b below beyond))
                  (spare.beside b below)
              | inr (from, to) ↦ absurd (omega (arith, behind, from, to))
            ]);
      }

  pub works_ended : new.disk.atoms ≡ old.disk.atoms → Works old → Works new
  works_ended atoms works next is_next =
      let working = works it.work it.was in
      let on = it.goes in
      let same : next ≡ rest = (let at = on.work in cc) in
      rw same (resting_works it.work.layout it.work.zone.moved it.work.zone.moved rest refl refl refl
      tt working.lies.apart.headers (rw atoms working.within.copies)
      (λ lane o last at. working.worker lane o (rw (← on.lanes) last)
      (ap (λ l. open_at l lane) (sym on.lanes) ∙ at)) (copies_away working)
      (spare_on atoms working))

  -- the zone's blocks hold their new atoms
  zone_turned : {seals : Seals} {plain : ℕ → InPlain} {left : List Block} {view after : View}
      → IsWorking old it.work → Logic old plain left → 0 < old.map.atom → IsSynced view after
      → Shown old seals plain left view → (b : ℕ) → it.work.range.start ≤ b → b < it.work.range.end
      → IsTurned it.goes turns it.unbroken seals plain left after b
  zone_turned {seals} {plain} {left} {view} {after} working logic some synced shown b from to =
      let work = it.work in
      let i : ℕ = b - work.range.start in
      let below : i < work.zone.own.count = in_zone working b from to in
      let texts = texts_of old.map.atom seals left work in
      let moved : ShowsMoved old.map.atom work.layout work.zone texts
      (new_area work.zone work.phase) after =
      zone_ends old.map.atom work.layout work.zone texts work.phase view after it.last
      (at_hand_now work it.was it.unbroken shown).zone synced in
      let within = new_within work.zone.resilience old.map.atom i work.zone work.phase it.last
      working.phased working.enough below in
      let inside : b < old.map.blocks = (let end = working.lies.inside in omega (arith, end, to)) in
      let number : work.range.start + i ≡ b = omega (arith, from) in
      let place : (new_area work.zone work.phase).start + i ≡ place_in new.map b =
      ap (λ n. n + i) (new_starts work.zone.resilience work.zone work.phase it.last working.phased)
      ∙ sym (ap (λ m. place_in m b) it.goes.map_is ∙ turns.places b from to) in
      let sealed : (atom : List ℕ) → atom ≡ texts.new i
      → IsSealed new.map seals b (block_in left b).newest atom = λ atom is. (
        rw (it.goes.map_is, turns.atom) (logic.are.newest b inside),
        is ∙ ap (λ n. seals.sealed New n (block_in left n).newest) number
            ∙ ap (λ s. seals.sealed s b (block_in left b).newest)
            (sym (ap (λ m. side_in m b) it.goes.map_is ∙ turns.sides b from to)),
      ) in record {
        untried = λ lane value tried. zone_untried work b lane value logic some
            (working.lies.held it.unbroken (omega (arith, from, to))) from to tried;
        current = sealed (after.current (place_in new.map b))
            (ap (λ p. after.current p) (sym place) ∙ moved.new.now refl i within);
        candidates = λ atom has. sealed atom (moved.new.left i within atom
            (subst (λ p. Contains (after.candidates p) atom) (sym place) has));
      }

pub ends_served : {K P Q : Type 0} {reading : Reading} {old new : State K} {seals : Seals}
    {plain : ℕ → InPlain} {left : List Block} → Here P Q old seals plain left
    → (it : EndsZone reading old new) → IsOnCourse reading old it.work → Here P Q new seals plain left
ends_served {reading = reading} {old = old} {new = new} {seals = seals} {plain = plain}
    {left = left} here it course =
    let work = it.work in let on = it.goes in
    let leads = leads_of work course (last_behind work.phase it.last) in
    let turns = leads.moves.1 in
    let working = here.works work it.was in
    let atoms = it.call.atoms in
    let works = works_ended it turns atoms here.works in
    let free : (b : ℕ) → IsGoverned new b → ⊥ = λ b. none_governed new b on.work in
    let sound = sound_turned on turns it.unbroken atoms (zoned_by (λ b. IsGoverned new b) turns
    (λ b is beyond. absurd (let governed = here.logic.sound.zoned b is in
    let (from, to) = subst (λ w. IsIn w b) it.was governed in
    elim beyond [ inl before ↦ omega (arith, before, from) | inr behind ↦ omega (arith, behind, to) ]))
    (λ b from to is. absurd (cc))) here.logic.sound in
    let texts = texts_of old.map.atom seals left work in
    here_turned on turns it.unbroken here it.call
    (logic_turned on turns it.unbroken sound (λ b of. absurd (free b of)) here.logic) works
    (λ b below. inl (record { inside = below; free = free b }))
    (λ view after synced shown. shown_turned on turns it.unbroken (positive here) here.works
    here.logic (live_beyond work it.was) (λ b live.
    let below = inside_before on turns it.unbroken live.inside in
    elim (beyond_or_in work.range b) [
      | inl beyond ↦ inl (beyond_live work it.was b below beyond)
      | inr (from, to) ↦ inr (zone_turned it turns working here.logic (positive here) synced shown b
          from to)
    ])
    (λ next is_next. let same : next ≡ rest it turns = (let at = on.work in cc) in
    let moved = zone_ends old.map.atom work.layout work.zone texts work.phase view after it.last
    (at_hand_now work it.was it.unbroken shown).zone synced in
    rw (same, on.map_is, turns.atom, on.broken_is) (record {
      zone = record {
        own = record {
          now = λ whole i below. absurd (omega (arith, below));
          left = λ i below value has. absurd (omega (arith, below));
        };
        target = record { now = λ whole i below. tt; left = λ i below value has. tt };
        store = record {
          now = λ whole i below. absurd (omega (arith, below));
          left = λ i below value has. tt;
        };
        header = moved.header work.zone.moved;
      };
      part = tt;
      apart = λ is_so i below. absurd (omega (arith, below));
    })) synced shown)
