-- The last calls of the commits 'zone open' and 'boundary moved': the map is that of the next
-- header.
use Rattle.std.proofs.Common.{Contains, List, Some, ap, arith, false, inl, inr, length, refl, subst}
use Rattle.std.proofs.Common.{suc, sym, ℕ, ◌+◌, ◌<◌, ◌∙◌, ◌≡◌, ◌≤◌, ◌⊎◌}
use Rattle.std.proofs.lemmas.Bool.{cases_lt}
use Rattle.base_terms.specs.declared.block_range.BlockRange.{BlockRange}
use Rattle.crash_laws.specs.HotZones.Zones.{Reaches, Resilience, checksum, datashift, journal}
use Rattle.plain_disk.specs.Plain.{Block}
use Rattle.sector_disk.specs.DiskViews.Views.{IsOutside}
use Rattle.segment_map.specs.declared.Side.{Side}
use Rattle.segment_map.specs.declared.Side.TheVariants.{Zone}
use Rattle.segment_map.specs.declared.map.Map.{Map}
use Rattle.volume_machine.specs.Edges.{InPlain}
use Rattle.volume_machine.specs.Pieces.{place_in, side_in}
use Rattle.volume_machine.specs.Seals.{Seals}
use Rattle.volume_machine.specs.States.{open_at, IsGoverned, IsLive, State}
use Rattle.volume_machine.specs.Working.{IsWorking, Works}
use Rattle.volume_machine.specs.Works.{Work}
use Rattle.crash_laws.specs.HeaderAreas.Areas.{Area, AreApart}
use Rattle.crash_laws.specs.HeaderAreas.Commits.{second_written}
use Rattle.crash_laws.specs.HeaderAreas.Headers.{Copy, Layout, Header, place_of}
use Rattle.crash_laws.proofs.HotZones.ZoneCalls.{zone_goes}
use Rattle.crash_laws.specs.HotZones.Calls as calls
use Rattle.crash_laws.specs.HotZones.Calls.{IsFirst, IsLast, ShowsMoved, new_area}
use Rattle.crash_laws.specs.HotZones.Standing.{IsPhaseOf, new_start}
use Rattle.crash_laws.specs.HotZones.Zones.{Hotzone, Phase, saving, opening, writing, mending, moving}
use Rattle.crash_laws.specs.HotZones.Zones.{shifting, turning, ShowsZone, IsApart, its_header, its_own}
use Rattle.crash_laws.specs.HotZones.Zones.{its_store, its_target}
use Rattle.volume_machine.specs.Courses.{IsBeyond, IsOnCourse, Leads, Turns}
use Rattle.volume_machine.specs.Readings.{Reading}
use Rattle.volume_machine.specs.WorkSteps.{OpensZone}
use Rattle.volume_machine.specs.Working.{HasRoom, IsSpare, IsWorkers, wiped_later}
use Rattle.volume_machine.specs.Works.{advanced, empty_zone, no_blocks}
use Rattle.volume_machine.specs.declared.open.Open.{Open}
use Rattle.volume_laws.specs.Texts.{texts_of}
use Rattle.volume_laws.proofs.ToldApart.{IsTold}
use Rattle.volume_laws.proofs.Here.{Here, positive}
use Rattle.volume_laws.proofs.StepsServed.{at_hand_now, kind_of_phase, phase_of_kind, shifted_by}
use Rattle.volume_laws.proofs.TurnedMaps.{here_turned, inside_before, logic_turned}
use Rattle.volume_laws.proofs.TurnedMaps.{shown_turned, sound_turned}
use Rattle.volume_laws.proofs.WorkAround.{IsIn}

-- a block is beyond a range, or one of it
pub beyond_or_in : (range : BlockRange) (b : ℕ)
    → IsBeyond range b ⊎ ((range.start ≤ b) × (b < range.end))
beyond_or_in range b = elim (cases_lt b range.start) [
  | inl before ↦ inl (inl before)
  | inr from ↦ elim (cases_lt b range.end) [
    | inl to ↦ inr (from, to)
    | inr behind ↦ inl (inr behind)
  ]
]

module _ {K : Type 0} {state : State K} (work : Work) (is : state.work ≡ Some work) where
  pub live_beyond : (b : ℕ) → IsLive state b → IsBeyond work.range b
  live_beyond b live = elim (beyond_or_in work.range b) [
    | inl beyond ↦ beyond
    | inr within ↦ absurd (live.free (subst (λ w. IsIn w b) (sym is) within))
  ]

  pub beyond_live : (b : ℕ) → b < state.map.blocks → IsBeyond work.range b → IsLive state b
  beyond_live b below beyond = record {
    inside = below;
    free = λ governed. absurd (let (from, to) = subst (λ w. IsIn w b) is governed in
        elim beyond [ inl before ↦ omega (arith, before, from) | inr behind ↦ omega (arith, behind, to) ]);
  }

-- behind its first write a zone leads to its headers
pub leads_of : {K : Type 0} {reading : Reading} {state : State K} (work : Work)
    → IsOnCourse reading state work → (IsFirst work.phase → ⊥) → Leads reading state work
leads_of work course behind = elim course.next [
  | inl first ↦ absurd (behind first)
  | inr leads ↦ leads
]

pub last_behind : (phase : Phase) → IsLast phase → IsFirst phase → ⊥
last_behind (saving n) last first = last
last_behind (opening stage) last first = last
last_behind (writing n) last first = last
last_behind (mending n) last first = last
last_behind (moving stage) last first = first
last_behind (shifting n) last first = last
last_behind (turning stage) last first = first

-- a turned map has a zone only where the volume has one
pub zoned_by : {atoms start : ℕ} {range : BlockRange} {side : Side} {from to : Map}
    (governed : ℕ → Type 0)
    → Turns atoms range side start from to
    → ((b : ℕ) → side_in from b ≡ Zone → IsBeyond range b → governed b)
    → ((b : ℕ) → range.start ≤ b → b < range.end → side ≡ Zone → governed b)
    → (b : ℕ) → side_in to b ≡ Zone → governed b
zoned_by {range = range} {from = from} governed turns beyond within b is =
    elim (beyond_or_in range b) [
      | inl out ↦ elim (cases_lt b from.blocks) [
        | inl below ↦ beyond b (sym (turns.same_sides b below out) ∙ is) out
        | inr past ↦ absurd (let old = turns.zoned b past in cc)
      ]
      | inr (low, high) ↦ within b low high (sym (turns.sides b low high) ∙ is)
    ]

-- ---- 'zone open'
module _ {K : Type 0} {reading : Reading} {old new : State K} (it : OpensZone reading old new)
    (turns : Turns old.disk.atoms it.work.range Zone it.work.zone.own.start old.map
    (reading.map_of it.work.zone.opened.means)) where
  abbrev opened_work : Work
  opened_work = advanced it.work (writing 0) it.work.part

  opened_governs : (b : ℕ) → IsGoverned new b → IsGoverned old b
  opened_governs b of = subst (λ w. IsIn w b) (sym it.was) (subst (λ w. IsIn w b) it.goes.work of)

  pub governs_on : (b : ℕ) → IsGoverned old b → IsGoverned new b
  governs_on b of = subst (λ w. IsIn w b) (sym it.goes.work) (subst (λ w. IsIn w b) it.was of)

  live_opened : (b : ℕ) → IsLive new b → IsLive old b
  live_opened b live = record {
    inside = inside_before it.goes turns it.unbroken live.inside;
    free = λ of. live.free (governs_on b of);
  }

  places_stay : IsWorking old it.work → (b : ℕ) → b < old.map.blocks
      → place_in new.map b ≡ place_in old.map b
  places_stay working b below = ap (λ m. place_in m b) it.goes.map_is
      ∙ elim (beyond_or_in it.work.range b) [
        | inl beyond ↦ turns.same_places b below beyond
        | inr (from, to) ↦ turns.places b from to ∙ sym (working.places b from to)
      ]

  pub works_opened : new.disk.atoms ≡ old.disk.atoms → Works old → Works new
  works_opened atoms works next is_next =
      let working = works it.work it.was in
      let on = it.goes in
      let same : next ≡ opened_work = (let at = on.work in cc) in
      let inside : it.work.range.end ≤ new.map.blocks = rw (on.map_is, turns.blocks) working.lies.inside in
      rw same (record {
        lies = record {
          apart = working.lies.apart;
          count = working.lies.count;
          inside = inside;
          fewer = working.lies.fewer;
          held = λ whole some. (let held = working.lies.held it.unbroken some in record {
            lane = held.lane;
            last = rw on.lanes held.last;
            o = held.o;
            at = rw on.lanes held.at;
            writes = held.writes;
            range = held.range;
            next = held.next;
            unfailed = held.unfailed;
            holds = rw on.entries held.holds;
          });
          away = λ b live area of. subst (λ p. IsOutside area.start area.count p)
              (sym (places_stay working b (live_opened b live).inside))
              (working.lies.away b (live_opened b live) area (reaches area of));
        };
        enough = rw (on.map_is, turns.atom) working.enough;
        phased = phase_of_kind it.work.zone.resilience (writing 0) (in_place working.phased);
        within = rw atoms (record { zone = working.within.zone; copies = working.within.copies });
        sides = λ b from to. ap (λ m. side_in m b) on.map_is ∙ turns.sides b from to;
        places = λ b from to. ap (λ m. place_in m b) on.map_is ∙ turns.places b from to;
        worker = λ lane o last at. working.worker lane o (rw (← on.lanes) last)
            (ap (λ l. open_at l lane) (sym on.lanes) ∙ at);
        spare = λ area has. (let spare = working.spare area has in record {
          within = rw atoms spare.within;
          copies = spare.copies;
          beside = λ b below. subst (λ p. IsOutside area.start area.count p)
              (sym (places_stay working b (inside_before it.goes turns it.unbroken below)))
              (spare.beside b (inside_before it.goes turns it.unbroken below));
        });
        behind = λ area has. working.behind area has;
      })
    where
      reaches : (area : Area) → Reaches opened_work.layout opened_work.zone area
          → Reaches it.work.layout it.work.zone area
      reaches area of = of

      in_place : IsPhaseOf it.work.zone.resilience it.work.phase
          → false ≡ shifted_by it.work.zone.resilience
      in_place phased = kind_of_phase it.work.zone.resilience (opening second_written)
          (rw (← it.phase) phased)

pub opens_served : {K P Q : Type 0} {reading : Reading} {old new : State K} {seals : Seals}
    {plain : ℕ → InPlain} {left : List Block} → Here P Q old seals plain left
    → (it : OpensZone reading old new) → IsOnCourse reading old it.work → Here P Q new seals plain left
opens_served {reading = reading} {old = old} {new = new} {seals = seals} {plain = plain}
    {left = left} here it course =
    let work = it.work in let on = it.goes in
    let leads = leads_of work course (λ first. subst IsFirst it.phase first) in
    let turns = (leads.opens (rw it.phase tt)).1 in
    let working = here.works work it.was in
    let atoms = it.call.atoms in
    let works = works_opened it turns atoms here.works in
    let sound = sound_turned on turns it.unbroken atoms (zoned_by (λ b. IsGoverned new b) turns
    (λ b is beyond. governs_on it turns b (here.logic.sound.zoned b is))
    (λ b from to is. subst (λ w. IsIn w b) (sym on.work) (from, to))) here.logic.sound in
    let texts = texts_of old.map.atom seals left work in
    here_turned on turns it.unbroken here it.call
    (logic_turned on turns it.unbroken sound (opened_governs it turns) here.logic) works
    (λ b below. inr (places_stay it turns working b (inside_before on turns it.unbroken below)))
    (λ view after synced shown. shown_turned on turns it.unbroken (positive here) here.works
    here.logic (live_beyond work it.was) (λ b live. inl (live_opened it turns b live))
    (λ next is_next. let same : next ≡ opened_work it turns = (let at = on.work in cc) in
    rw (same, on.map_is, turns.atom, on.broken_is) (record {
      zone = zone_goes old.map.atom work.layout work.zone texts (opening second_written) (writing 0)
          view after working.lies.apart
          (subst (λ p. ShowsZone old.map.atom work.layout work.zone texts p false view) it.phase
          (at_hand_now work it.was it.unbroken shown).zone) (calls.opened synced);
      part = (at_hand_now work it.was it.unbroken here.shown).part;
      apart = λ is_so i below told. (at_hand_now work it.was it.unbroken here.shown).apart is_so i
          below (subst (λ p. IsTold old.map.atom p i) (sym it.phase) tt);
    })) synced shown)

-- ---- 'boundary moved'
-- where the new atoms are
pub new_starts : {M : Type 0} (resilience : Resilience) (zone : Hotzone M) (phase : Phase)
    → IsLast phase → IsPhaseOf resilience phase
    → (new_area zone phase).start ≡ new_start resilience zone
new_starts journal zone (saving n) last phased = absurd last
new_starts journal zone (opening stage) last phased = absurd last
new_starts journal zone (writing n) last phased = absurd last
new_starts journal zone (mending n) last phased = absurd last
new_starts journal zone (moving stage) last phased = refl
new_starts journal zone (shifting n) last phased = absurd last
new_starts journal zone (turning stage) last phased = absurd phased
new_starts checksum zone (saving n) last phased = absurd last
new_starts checksum zone (opening stage) last phased = absurd last
new_starts checksum zone (writing n) last phased = absurd last
new_starts checksum zone (mending n) last phased = absurd last
new_starts checksum zone (moving stage) last phased = refl
new_starts checksum zone (shifting n) last phased = absurd last
new_starts checksum zone (turning stage) last phased = absurd phased
new_starts datashift zone (saving n) last phased = absurd last
new_starts datashift zone (opening stage) last phased = absurd last
new_starts datashift zone (writing n) last phased = absurd last
new_starts datashift zone (mending n) last phased = absurd last
new_starts datashift zone (moving stage) last phased = absurd phased
new_starts datashift zone (shifting n) last phased = absurd last
new_starts datashift zone (turning stage) last phased = refl

pub new_within : {M : Type 0} (resilience : Resilience) (atom i : ℕ) (zone : Hotzone M) (phase : Phase)
    → IsLast phase → IsPhaseOf resilience phase → HasRoom resilience atom zone
    → i < zone.own.count → i < (new_area zone phase).count
new_within resilience atom i zone (saving n) last phased room below = absurd last
new_within resilience atom i zone (opening stage) last phased room below = absurd last
new_within resilience atom i zone (writing n) last phased room below = absurd last
new_within resilience atom i zone (mending n) last phased room below = absurd last
new_within resilience atom i zone (moving stage) last phased room below = below
new_within resilience atom i zone (shifting n) last phased room below = absurd last
new_within journal atom i zone (turning stage) last phased room below = absurd phased
new_within checksum atom i zone (turning stage) last phased room below = absurd phased
new_within datashift atom i zone (turning stage) last phased room below = omega (arith, room, below)

pub outside_copy : (a b : Area) (i : ℕ) → AreApart a b → i < a.count
    → IsOutside b.start b.count (a.start + i)
outside_copy a b i (inl before) below = inl (omega (arith, before, below))
outside_copy a b i (inr behind) below = inr (omega (arith, behind))

pub new_away : {layout : Layout} {zone : Hotzone (List ℕ)} (resilience : Resilience) (atom i : ℕ)
    (copy : Copy)
    → IsApart layout zone → HasRoom resilience atom zone → i < zone.own.count
    → IsOutside (place_of layout copy).start (place_of layout copy).count
    (new_start resilience zone + i)
new_away {layout} {zone} journal atom i copy apart room below =
    outside_copy zone.own (place_of layout copy) i (apart.own_header copy) below
new_away {layout} {zone} checksum atom i copy apart room below =
    outside_copy zone.own (place_of layout copy) i (apart.own_header copy) below
new_away {layout} {zone} datashift atom i copy apart room below =
    outside_copy zone.target (place_of layout copy) i (apart.target_header copy)
    (omega (arith, room, below))

-- what is asked of a zone without blocks
pub resting_works : {K : Type 0} {state : State K} (layout : Layout) (from to : Header (List ℕ))
    (rest : Work) → rest.layout ≡ layout → rest.zone ≡ empty_zone from to
    → rest.range ≡ no_blocks
    → IsPhaseOf journal rest.phase → AreApart layout.first layout.second
    → ((copy : Copy) → (place_of layout copy).start + (place_of layout copy).count
    ≤ state.disk.atoms)
    → ((lane : ℕ) (o : Open) → suc lane ≡ length state.lanes
    → open_at state.lanes lane ≡ Some o → IsWorkers o)
    → ((b : ℕ) → IsLive state b → (copy : Copy)
    → IsOutside (place_of layout copy).start (place_of layout copy).count (place_in state.map b))
    → ((area : Area) → Contains (wiped_later rest.progress) area → IsSpare state layout area)
    → IsWorking state rest
resting_works {state = state} layout from to rest layout_is zone_is range_is phased apart within
    worker away spare = record {
      lies = record {
        apart = rw (layout_is, zone_is) (record {
          own_store = inl (omega arith);
          own_target = inl (omega arith);
          target_store = inl (omega arith);
          own_header = λ copy. inl (omega arith);
          target_header = λ copy. inl (omega arith);
          store_header = λ copy. inl (omega arith);
          headers = apart;
        });
        count = rw (zone_is, range_is) refl;
        inside = rw range_is (omega arith);
        fewer = rw zone_is (omega arith);
        held = λ whole some. absurd (let none = ap (λ r. r.end) range_is in omega (arith, none, some));
        away = λ b live area of. reached b live area
            (subst (λ z. Reaches layout z area) zone_is (subst (λ l. Reaches l rest.zone area)
            layout_is of));
      };
      enough = rw zone_is refl;
      phased = rw zone_is phased;
      within = record {
        zone = rw zone_is (record {
          own = omega arith;
          target = omega arith;
          store = omega arith;
        });
        copies = rw layout_is within;
      };
      sides = λ b low high. absurd (let none = ap (λ r. r.end) range_is in omega (arith, none, high));
      places = λ b low high.
          absurd (let none = ap (λ r. r.end) range_is in omega (arith, none, high));
      worker = worker;
      spare = λ area has. rw layout_is (spare area has);
      behind = λ area has. rw range_is (omega arith);
    }
  where
    reached : (b : ℕ) → IsLive state b → (area : Area) → Reaches layout (empty_zone from to) area
        → IsOutside area.start area.count (place_in state.map b)
    reached b live _ its_own = inr (omega arith)
    reached b live _ its_target = inr (omega arith)
    reached b live _ its_store = inr (omega arith)
    reached b live _ (its_header copy) = away b live copy
