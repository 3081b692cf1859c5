-- A zone that begins: the last lane holds its blocks, so that nobody has tried them, and a sync
-- makes certain what they hold.
use Rattle.std.proofs.Common.{Bool, Contains, List, Some, [], ap, arith, false, inl, inr, length}
use Rattle.std.proofs.Common.{refl, subst, suc, sym, true, ℕ, ◌*◌, ◌+◌, ◌-◌, ◌<◌, ◌∙◌, ◌≡◌, ◌≤◌}
use Rattle.std.proofs.lemmas.Bool.{cases_lt, cases_eq as same_or_not}
use Rattle.base_terms.specs.declared.block_range.BlockRange.{BlockRange}
use Rattle.plain_disk.specs.Plain.{Block}
use Rattle.sector_disk.specs.DiskViews.Views.{View}
use Rattle.segment_map.specs.declared.Side.TheVariants.{Old}
use Rattle.volume_machine.specs.Asks.{range_of, has_lock}
use Rattle.volume_machine.specs.Edges.{InPlain}
use Rattle.volume_machine.specs.Pieces.{place_in}
use Rattle.volume_machine.specs.Seals.{Seals}
use Rattle.volume_machine.specs.States.{IsGoverned, IsLive, State, open_at}
use Rattle.volume_machine.specs.Working.{HoldsZone, Works}
use Rattle.volume_machine.specs.Works.{Work}
use Rattle.crash_laws.specs.HeaderAreas.Areas.{Area}
use Rattle.crash_laws.specs.HeaderAreas.Commits.{begun, ShowsCommit}
use Rattle.crash_laws.specs.HeaderAreas.Headers.{Layout, Header, place_of}
use Rattle.crash_laws.proofs.HotZones.ZoneCalls.{zone_begins}
use Rattle.crash_laws.specs.HotZones.Calls.{IsFirst}
use Rattle.crash_laws.specs.HotZones.Standing.{side_before}
use Rattle.crash_laws.specs.HotZones.Zones.{Hotzone, Phase, Texts, saving, opening, writing, mending}
use Rattle.crash_laws.specs.HotZones.Zones.{moving}
use Rattle.crash_laws.specs.HotZones.Zones.{shifting, turning, from_of, to_of}
use Rattle.volume_machine.specs.Courses.{IsBeyond}
use Rattle.volume_machine.specs.Readings.{Reading}
use Rattle.volume_machine.specs.WorkSteps.{Begins}
use Rattle.volume_machine.specs.Working.{wiped_later}
use Rattle.volume_machine.specs.Works.{Progress, converting, resting}
use Rattle.volume_machine.specs.declared.ask.Ask.{Ask}
use Rattle.volume_machine.specs.declared.ask.Ask.TheVariants.{Flush, Read, Write}
use Rattle.volume_machine.specs.declared.open.Open.{Open}
use Rattle.volume_laws.specs.Contents.{IsTriedBy, block_in}
use Rattle.volume_laws.specs.Texts.{texts_of}
use Rattle.volume_laws.proofs.Here.{Here, moves_by_sync, positive}
use Rattle.volume_laws.proofs.ToldApart.{first_tells}
use Rattle.volume_laws.proofs.Invariant.{KnowsPart, LaneKnows, Logic, Shown}
use Rattle.volume_laws.proofs.Reading.{held_apart, tried_apart, writes_lock}
use Rattle.volume_laws.proofs.StepsSeen.{synced_leaves}
use Rattle.volume_laws.proofs.StepsServed.{at_hand_now}
use Rattle.volume_laws.proofs.WorkAround.{IsIn, worked_served}

-- ---- what the last lane holds
-- no lane has tried a block that the worker holds
pub zone_untried : {K : Type 0} {state : State K} {plain : ℕ → InPlain} {left : List Block}
    (work : Work) (b lane : ℕ) (value : List ℕ) → Logic state plain left → 0 < state.map.atom
    → HoldsZone state work → work.range.start ≤ b → b < work.range.end
    → IsTriedBy state plain lane b value → ⊥
zone_untried {state = state} {plain = plain} work b lane value logic some held from to tried =
    let range = held.range in
    elim (same_or_not held.lane lane) [
      | inl same ↦
          let one : tried.o ≡ held.o = (let t = tried.is in let h = held.at in
          let u = ap (λ n. open_at state.lanes n) same in cc) in
          let knows = logic.lanes held.lane held.o held.at in
          let exact = knows.exact held.unfailed in
          let next = held.next in
          let size = knows.are.size in
          let enough : suc (b - tried.o.range.start) * state.map.atom ≤ length (plain held.lane).bytes =
          subst (λ n. suc (b - tried.o.range.start) * state.map.atom ≤ length (plain n).bytes) (sym same)
          tried.tried in
          let none : knows.count ≡ 0 = omega (arith, exact, next) in
          let empty : length (plain held.lane).bytes ≡ 0 =
          size ∙ ap (λ n. n * state.map.atom) none ∙ omega arith in
          absurd (let bound : 1 * state.map.atom
          ≤ suc (b - tried.o.range.start) * state.map.atom = grind arith in
          omega (arith, enough, empty, some, bound))
      | inr differ ↦ tried_apart held.lane lane b logic some differ held.at
          (writes_lock held.o.ask held.writes) held.holds (rw range from) (rw range to) tried
    ]

-- an operation with blocks has an entry
has_blocks : (atom : ℕ) (ask : Ask) (b : ℕ) {range : BlockRange} → range ≡ range_of atom ask
    → b < range.end → has_lock ask ≡ true
has_blocks atom (Read offset len) b is below = refl
has_blocks atom (Write offset len fua) b is below = refl
has_blocks atom Flush b is below =
    absurd (let none = ap (λ r. r.end) is in omega (arith, none, below))

-- no lane that has tried or read a block of it is under way
held_beside : {K : Type 0} {state : State K} {plain : ℕ → InPlain} {left : List Block} (work : Work)
    (lane : ℕ) (o : Open) (b : ℕ) → Logic state plain left → HoldsZone state work
    → open_at state.lanes lane ≡ Some o → (knows : LaneKnows state plain left lane o)
    → o.range.start ≤ b → b < o.range.start + knows.count
    → work.range.start ≤ b → b < work.range.end → ⊥
held_beside {state = state} work lane o b logic held at knows from to low high =
    let range = held.range in
    elim (same_or_not held.lane lane) [
      | inl same ↦ absurd (let one : held.o ≡ o = (let h = held.at in
          let u = ap (λ n. open_at state.lanes n) same in cc) in
          let exact = knows.exact (subst (λ p. p.failed ≡ false) one held.unfailed) in
          let next = subst (λ p. p.next ≡ p.range.start) one held.next in
          omega (arith, exact, next, from, to))
      | inr differ ↦ let most = knows.most in
          let below : b < o.range.end = omega (arith, to, most) in
          held_apart lane held.lane b logic.sound (λ same. differ (sym same)) at
          (has_blocks state.map.atom o.ask b (logic.sound.under_way lane o at).range_is below)
          (knows.holds (omega (arith, from, to))) from below held.at held.writes held.holds
          (rw range low) (rw range high)
    ]

-- ---- no zone is at hand
pub none_governed : {K : Type 0} (state : State K) {layout : Layout} {header : Header (List ℕ)}
    {progress : Progress} (b : ℕ) → state.work ≡ Some (resting layout header progress)
    → IsGoverned state b → ⊥
none_governed state b rests governed = (let (from, to) = subst (λ w. IsIn w b) rests governed in
    omega (arith, to))

-- both copies hold a header, whichever is to come
pub any_next : {atom : ℕ} {layout : Layout} {from to : Header (List ℕ)} {broken : Bool} {view : View}
    (next : Header (List ℕ)) → ShowsCommit atom layout from to begun broken view
    → ShowsCommit atom layout from next begun broken view
any_next next shows = record { first = shows.first; second = shows.second }

first_header : {atom : ℕ} {layout : Layout} {header to : Header (List ℕ)} {view : View}
    (zone : Hotzone (List ℕ)) (phase : Phase) → IsFirst phase → zone.before ≡ header
    → ShowsCommit atom layout header to begun false view
    → ShowsCommit atom layout (from_of zone phase) (to_of zone phase) begun false view
first_header zone (saving n) is before shows = rw before (any_next zone.opened shows)
first_header zone (opening stage) is before shows = absurd is
first_header zone (writing n) is before shows = absurd is
first_header zone (mending n) is before shows = absurd is
first_header zone (moving stage) is before shows = absurd is
first_header zone (shifting n) is before shows = rw before (any_next zone.moved shows)
first_header zone (turning stage) is before shows = absurd is

first_side : (phase : Phase) → IsFirst phase → side_before phase ≡ Old
first_side (saving n) is = refl
first_side (opening stage) is = absurd is
first_side (writing n) is = absurd is
first_side (mending n) is = absurd is
first_side (moving stage) is = absurd is
first_side (shifting n) is = refl
first_side (turning stage) is = absurd is

-- ---- the beginning
module _ {K : Type 0} {reading : Reading} {old new : State K} (begins : Begins reading old new) where
  beyond : (b : ℕ) → IsLive new b → IsBeyond begins.work.range b
  beyond b live = elim (cases_lt b begins.work.range.start) [
    | inl before ↦ inl before
    | inr from ↦ elim (cases_lt b begins.work.range.end) [
      | inl to ↦ absurd (live.free (subst (λ w. IsIn w b) (sym begins.goes.work) (from, to)))
      | inr behind ↦ inr behind
    ]
  ]

  live_begun : (b : ℕ) → IsLive new b → IsLive old b
  live_begun b live = record {
    inside = subst (λ m. b < m.blocks) begins.goes.map_is live.inside;
    free = none_governed old b begins.was;
  }

  pub works_begun : new.disk.atoms ≡ old.disk.atoms → Works old → Works new
  works_begun atoms works next is_next =
      let same : next ≡ begins.work = (let at = begins.goes.work in cc) in
      let rest_works = works _ begins.was in
      let planned = begins.planned in
      let on = begins.goes in
      rw same (record {
        lies = record {
          apart = planned.apart;
          count = planned.count;
          inside = rw on.map_is planned.inside;
          fewer = planned.fewer;
          held = λ whole some. (let held = begins.held in record {
            lane = held.lane;
            last = rw on.lanes held.last;
            o = held.o;
            at = rw on.lanes held.at;
            writes = held.writes;
            range = held.range;
            next = held.next;
            unfailed = held.unfailed;
            holds = rw on.entries held.holds;
          });
          away = λ b live area of. rw on.map_is
              (planned.away b (live_begun b live).inside (beyond b live) area of);
        };
        enough = rw on.map_is planned.enough;
        phased = planned.phased;
        within = rw atoms (record {
          zone = planned.within;
          copies = λ copy. subst (λ l. (place_of l copy).start + (place_of l copy).count
              ≤ old.disk.atoms) (sym planned.layout_is) (rest_works.within.copies copy);
        });
        sides = λ b from to. rw on.map_is
            (planned.sides b from to ∙ sym (first_side begins.work.phase planned.first));
        places = λ b from to. rw on.map_is (planned.places b from to);
        worker = λ lane o last at. rest_works.worker lane o (rw (← on.lanes) last)
            (ap (λ l. open_at l lane) (sym on.lanes) ∙ at);
        spare = λ area has. (let (k, below, is) = areas area has in absurd (omega (arith, below)));
        behind = λ area has. (let (k, below, is) = areas area has in absurd (omega (arith, below)));
      })
    where
      areas : (area : Area) → Contains (wiped_later begins.work.progress) area → Contains [] area
      areas area has = subst (λ p. Contains (wiped_later p) area) begins.planned.progress has

  -- the zone's blocks hold their newest values
  begun_now : {seals : Seals} {plain : ℕ → InPlain} {left : List Block} {view : View}
      → Logic old plain left → 0 < old.map.atom → Shown old seals plain left view → (i : ℕ)
      → i < begins.work.zone.own.count
      → view.current (begins.work.zone.own.start + i) ≡ (texts_of old.map.atom seals left begins.work).old i
  begun_now {seals} {plain} {left} {view} logic some shown i below =
      let b = begins.work.range.start + i in
      let planned = begins.planned in
      let count = planned.count in
      let inside = planned.inside in
      let live : IsLive old b = record {
        inside = omega (arith, inside, count, below);
        free = none_governed old b begins.was;
      } in
      let (value, is_now, sealed) = shown.current begins.unbroken b live in
      let newest : value ≡ (block_in left b).newest = elim is_now [
        | inl tried ↦ absurd (zone_untried begins.work b tried.0 value logic some begins.held (omega arith)
            (omega (arith, below, count)) tried.1)
        | inr only ↦ only.1
      ] in
      let place : place_in old.map b ≡ begins.work.zone.own.start + i =
      planned.places b (omega arith) (omega (arith, below, count)) ∙ omega arith in
      ap (λ p. view.current p) (sym place) ∙ sealed.1
      ∙ ap (λ s. seals.sealed s b value)
      (planned.sides b (omega arith) (omega (arith, below, count)))
      ∙ ap (λ v. seals.sealed Old b v) newest

  first_part : (atom : ℕ) (texts : Texts) → KnowsPart atom texts begins.work.zone begins.work.part
  first_part atom texts = subst (KnowsPart atom texts begins.work.zone) (sym begins.planned.part) tt

pub begins_served : {K P Q : Type 0} {reading : Reading} {old new : State K} {seals : Seals}
    {plain : ℕ → InPlain} {left : List Block} → Here P Q old seals plain left
    → Begins reading old new → Here P Q new seals plain left
begins_served {old = old} {new = new} {seals = seals} {left = left} here begins =
    let on = begins.goes in
    let zone_at = begins.work in
    let rest = resting begins.layout begins.header converting in
    let moved = moves_by_sync begins.call here.values in
    worked_served here on begins.unbroken (works_begun begins moved.atoms here.works)
    (λ b zoned. absurd (none_governed old b begins.was (here.logic.sound.zoned b zoned)))
    (λ lane o at knows b from to of. let (low, high) = subst (λ w. IsIn w b) on.work of in
    held_beside zone_at lane o b here.logic begins.held at knows from to low high) moved
    (λ view after synced shown. record {
      live = λ b live. inl (live_begun begins b live);
      beside = λ b live. synced_leaves here rest (here.works rest begins.was) view after synced b;
      zone = λ next is_next. let same : next ≡ zone_at = (let at = on.work in cc) in
          rw (same, on.map_is, on.broken_is) (record {
            zone = zone_begins old.map.atom zone_at.layout zone_at.zone
                (texts_of old.map.atom seals left zone_at) zone_at.phase view after
                begins.planned.first
                (begun_now begins here.logic (positive here) shown)
                (subst (λ l. ShowsCommit old.map.atom l (from_of zone_at.zone zone_at.phase)
                (to_of zone_at.zone zone_at.phase) begun false view) (sym begins.planned.layout_is)
                (first_header zone_at.zone zone_at.phase begins.planned.first begins.planned.before
                (at_hand_now rest begins.was begins.unbroken shown).zone.header))
                synced;
            part = first_part begins old.map.atom (texts_of old.map.atom seals left zone_at);
            apart = first_tells old.map.atom (texts_of old.map.atom seals left zone_at) zone_at.zone
                zone_at.phase begins.planned.first begins.planned.phased;
          });
    })
