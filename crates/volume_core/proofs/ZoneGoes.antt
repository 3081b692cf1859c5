-- A step of a zone, made or not, is a step of the volume's worker, and the zone leads the volume
-- behind it.
use Rattle.std.proofs.Common.{Bool, List, None, Option, Some, ap, arith, false, if◌then◌else◌, inl}
use Rattle.std.proofs.Common.{inr, length, refl, subst, suc, sym, true, ℕ, ◌==◌, ◌<◌, ◌∙◌, ◌≡◌, ◌≤◌}
use Rattle.std.proofs.Common.{◌⊎◌}
use Rattle.segment_map.specs.declared.Side.TheVariants.{New}
use Rattle.segment_map.specs.declared.map.Map.{Map}
use Rattle.volume_machine.specs.Pieces.{side_in}
use Rattle.volume_machine.specs.States.{State, open_at}
use Rattle.std.specs.Prelude.{Err, Ok}
use Rattle.hotzone.specs.Promises.{seals_in}
use Rattle.hotzone.specs.Sites.{count_of}
use Rattle.hotzone.specs.Steps.{Goes, Stops}
use Rattle.hotzone.specs.Workers.{IsMapBy, IsMapNow, first_call}
use Rattle.hotzone.specs.declared.site.Site.{Site}
use Rattle.hotzone.specs.declared.worker.Halt.{Halt}
use Rattle.hotzone.specs.declared.worker.Halt.TheVariants.{Failed, GivenUp, InCommit}
use Rattle.hotzone.specs.declared.worker.NextCall.{NextCall}
use Rattle.hotzone.specs.declared.worker.NextCall.TheVariants.{Begin, ReadAgain, Write, Settle, Move}
use Rattle.hotzone.specs.declared.worker.NextCall.TheVariants.{Finish, Wipe, Rest, Over}
use Rattle.hotzone.specs.declared.worker.Stepped.{Stepped}
use Rattle.hotzone.specs.declared.worker.Worker.{Worker}
use Rattle.hotzone.specs.declared.worker.ZoneFault.{ZoneFault}
use Rattle.base_terms.specs.declared.disk_sizes.Sizes.{Sizes}
use Rattle.sector_disk.specs.JoinedDisks.Counts.{HasSizes}
use Rattle.volume_core.proofs.CodeSteps.{free-entry}
use Rattle.volume_core.proofs.WorkerLanes.{free-left}
use Rattle.volume_core.proofs.ZoneFacts.{IsAt, ended-lane, finish-rests, given-up-work, held-range}
use Rattle.volume_core.proofs.ZoneFacts.{needs-is, none-first, of-step, worker-writes}
use Rattle.volume_core.proofs.ZoneLeaves.{frees-as, left-is, none-left}
use Rattle.volume_core.proofs.ZoneTurns.{Comes, Halting, at_end, comes, goes_on, halting, hand-fits}
use Rattle.volume_core.proofs.ZoneTurns.{hand-on, is_done}
use Rattle.volume_core.specs.Turns.{HasLeft, MayStep}
use Rattle.volume_core.specs.Volumes.{IsVolume}
use Rattle.volume_core.specs.Zones.{FitsCall, FitsZone, IsEnded, worked_of}
use Rattle.volume_core.specs.declared.answers.Worked.TheVariants as answers
use Rattle.volume_laws.specs.Converting.{IsInOrder}
use Rattle.volume_machine.specs.WorkSteps.{AreOn, Frees, WorkStep}
use Rattle.volume_machine.specs.Works.{Work}
use Rattle.volume_machine.specs.declared.keys.Keys.{Keys}
use Rattle.volume_machine.specs.declared.open.Open.{Open as Operation}
use Rattle.hotzone.specs.ZoneEvents.Holding.{IsKept, MapsFollow}
use Rattle.hotzone.specs.ZoneEvents.Promises.{IsOf, IsSameGround, Leaves, StepsAreWorks, breaks}
use Rattle.hotzone.specs.ZoneEvents.Promises.{StepsKeepGround, StepsKeepParts, StepsLeaveNew}
use Rattle.hotzone.specs.ZoneEvents.Readings.{reading_of}
use Rattle.hotzone.specs.ZoneEvents.Works.{between, layout_of, map_in, work_by, work_of}

-- ---- maps of the same blocks
pub same-blocks : {C : Type 0} (w : Worker C) (next : NextCall) (map : Map) → IsMapBy w next map
    → (map.atom ≡ w.map.atom) × (map.blocks ≡ w.map.blocks)
same-blocks w (ReadAgain done headers) map is = (is.atom, is.blocks)
same-blocks w (Write done headers) map is = (is.atom, is.blocks)
same-blocks w (Settle headers) map is = (is.atom, is.blocks)
same-blocks w (Move headers) map is = (is.atom, is.blocks)
same-blocks w (Wipe done ending) map is = (is.atom, is.blocks)
same-blocks w (Rest ending) map is = (is.atom, is.blocks)
same-blocks w (Over ending) map is = (is.atom, is.blocks)
same-blocks w _ map is = (ap (λ (m : Map). m.atom) is, ap (λ (m : Map). m.blocks) is)

-- ---- new blocks may be kept until the next zone takes its own
first-fits : {C : Type 0} (w : Worker C) (map : Map) (o : Operation) (site : Site) → AreOn map o New
    → FitsCall w map o (first_call site)
first-fits w map o site new = go (count_of site == 0)
  where
    go : (b : Bool) → FitsCall w map o (if b then Finish else Begin)
    go true = new
    go false = inr new

-- ---- what leaves a volume whole was given up
given-up : (halt : Halt) → breaks (Some halt) ≡ false → halt ≡ GivenUp
given-up GivenUp whole = refl
given-up Failed whole = absurd (cc)
given-up (InCommit stage) whole = absurd (cc)

-- a finish that isn't made leaves all as it is
leaves-by : {K : Type 0} (old new : State K) (work : Work) (next : NextCall) (halted : Option Halt)
    → Frees old new (breaks halted) (Some work)
    → (next ≡ Finish → halted ≡ Some GivenUp → new ≡ old) → Leaves old new work next halted
leaves-by old new work Finish (Some GivenUp) frees same = same refl refl
leaves-by old new work Finish _ frees same = frees
leaves-by old new work _ halted frees same = frees

-- states that are the same in each part
abbrev copied : {K : Type 0} → State K → State K
copied s = record {
  map = s.map;
  keys = s.keys;
  room = s.room;
  entries = s.entries;
  lanes = s.lanes;
  broken = s.broken;
  work = s.work;
  disk = s.disk;
}

same-state : {K : Type 0} (new old : State K) → new.map ≡ old.map → new.keys ≡ old.keys
    → new.room ≡ old.room → new.entries ≡ old.entries → new.lanes ≡ old.lanes
    → new.broken ≡ old.broken → new.work ≡ old.work → new.disk ≡ old.disk → new ≡ old
same-state new old map keys room entries lanes broken work disk =
    let same : copied new ≡ copied old =
    rw (map, keys, room, entries, lanes, broken, work, disk) refl in same

module _ {C : Type 0} (sector : C → ℕ) (seal unseal : C → ℕ → List ℕ → List ℕ)
    (works : StepsAreWorks sector seal unseal) (ground : StepsKeepGround sector seal unseal)
    (w after : Worker C) (old new : State (Keys C)) (at : IsAt sector seal unseal w old)
    (runs : w.halted ≡ None) (whole : old.broken ≡ false) (lane : ℕ)
    (last : suc lane ≡ length old.lanes) (may : MayStep w old.entries (open_at old.lanes lane) lane)
    (kept : IsKept sector after) (sized : HasSizes after.loaded.valid.sizes new.disk)
    (keys : new.keys ≡ old.keys) (room : new.room ≡ old.room)
    (work : new.work ≡ Some (work_of (seals_in seal unseal after) (layout_of after) after)) where
  of : IsOf sector (seals_in seal unseal w) (layout_of w) w old
  of = of-step sector seal unseal w old at runs whole lane last may

  -- the operation of the lane, where it has one, is none of the end
  ended-none : (w.next ≡ Finish) ⊎ IsEnded w.next → open_at old.lanes lane ≡ None
  ended-none (inl next) =
      let free = of.free next in
      let other = free.last in
      subst (λ n. open_at old.lanes n ≡ None) (omega (arith, other, last)) free.free
  ended-none (inr ended) = ended-lane sector seal unseal w old at runs whole lane last ended

  count-none : (w.next ≡ Finish) ⊎ IsEnded w.next → count_of w.site ≡ 0
  count-none (inl next) = needs-is sector seal unseal w old at runs whole lane last Finish next
  count-none (inr ended) = at.volume.led.none ended

  -- the work behind it, by the seals and the layout before
  module _ (same : IsSameGround seal unseal w after) where
    work-as : new.work ≡ Some (work_of (seals_in seal unseal w) (layout_of w) after)
    work-as =
        work ∙ ap (λ s. Some (work_of s (layout_of after) after)) same.seals
        ∙ ap (λ l. Some (work_of (seals_in seal unseal w) l after)) same.layout

    keys-as : after.keys ≡ new.keys
    keys-as = same.keys ∙ at.volume.led.keys ∙ sym keys

    order-as : IsInOrder (reading_of w.loaded.valid.sizes) new
        → IsInOrder (reading_of after.loaded.valid.sizes) new
    order-as order = subst (λ s. IsInOrder (reading_of s) new) (sym same.sizes) order

  -- ---- a step that is made
  module _ (parts : StepsKeepParts sector seal unseal) (news : StepsLeaveNew sector seal unseal)
      (maps : MapsFollow sector) (stepped : Stepped)
      (step : Goes (seals_in seal unseal w) old.disk new.disk w after stepped)
      (goes : after.halted ≡ None) (map : IsMapNow after new.map)
      (entries : new.entries ≡ old.entries) (lanes : new.lanes ≡ old.lanes)
      (broken : new.broken ≡ old.broken) where
    same-ground : IsSameGround seal unseal w after
    same-ground = ground w after old.disk new.disk (Ok stepped) at.kept.working step

    map-is : new.map ≡ map_in (seals_in seal unseal w) (layout_of w) after
    map-is = maps (seals_in seal unseal w) (layout_of w) after new.map kept goes map

    pub goes-step : WorkStep (reading_of w.loaded.valid.sizes) (seals_in seal unseal w) old new
        (worked_of answers.Stepped)
    goes-step = works (layout_of w) w after old new (Ok stepped) of step (record {
      map_is = map-is;
      keys = keys;
      room = room;
      entries = entries;
      lanes = lanes;
      broken_is = broken ∙ whole;
      work = work-as same-ground;
    })

    -- the last lane's operation, and what it may have behind the step
    was-open : (k : ℕ) (o : Operation) → suc k ≡ length new.lanes → open_at new.lanes k ≡ Some o
        → open_at old.lanes lane ≡ Some o
    was-open k o is_last here =
        let many = ap (λ (l : List (Option Operation)). length l) lanes in
        let one : k ≡ lane = omega (arith, is_last, last, many) in
        subst (λ l. open_at l lane ≡ Some o) lanes
        (subst (λ n. open_at new.lanes n ≡ Some o) one here)

    fits-by : (k : Stepped) → Goes (seals_in seal unseal w) old.disk new.disk w after k
        → Comes w after k → (o : Operation) → open_at old.lanes lane ≡ Some o
        → FitsCall after new.map o after.next
    fits-by k made (goes_on _ hand) o here = hand-fits after new.map o after.next hand
    fits-by _ made (is_done hand next) o here =
        subst (λ n. FitsCall after new.map o n) (sym next)
        (first-fits after new.map o after.site (λ b from below.
        let range = held-range sector seal unseal w old at runs whole lane last w.next refl hand o here
        in
        subst (λ m. side_in m b ≡ New) (sym map-is)
        (news (layout_of w) w after old.disk new.disk b at.kept.working at.kept.stored at.kept.ruled
        runs made
        (subst (λ r. r.start ≤ b) range from) (subst (λ r. b < r.end) range below))))
    fits-by k made (at_end _ ended from site) o here = absurd (let none = ended-none from in cc)

    none-by : (k : Stepped) → Comes w after k → IsEnded after.next → count_of after.site ≡ 0
    none-by k (goes_on _ hand) ended = absurd (hand-on after.next hand ended)
    none-by _ (is_done hand next) ended = absurd (none-first after.site (subst IsEnded next ended))
    none-by k (at_end _ more from site) ended =
        ap (λ (s : Site). count_of s) site ∙ count-none from

    pub goes-kept : IsInOrder (reading_of w.loaded.valid.sizes) new
        → IsVolume sector (Some after) new
    goes-kept order =
        let so = comes w after (seals_in seal unseal w) old.disk new.disk stepped step in
        let blocks = same-blocks after after.next new.map map in
        record {
          atom = blocks.0 ∙ kept.working.zone.map_is.atom ∙ sized.atom;
          sound = order.sound;
          keys = rw (blocks.0, blocks.1, ← keys-as same-ground) kept.working.keys;
          few = rw lanes at.volume.few;
          led = record {
            later = parts w after old.disk new.disk stepped at.kept.working at.volume.led.later step;
            none = none-by stepped so;
            keys = keys-as same-ground;
            sizes = sized;
            order = order-as same-ground order;
            goes_on = λ unbroken. inl goes;
            lane = λ unbroken k o is_last here. subst (λ h. FitsZone after new.map o h) (sym goes)
                (fits-by stepped step so o (was-open k o is_last here));
          };
        }

  -- ---- one that isn't made, or fails
  module _ (fault : ZoneFault)
      (stops : Stops (seals_in seal unseal w) old.disk new.disk w after fault)
      (map : new.map ≡ old.map) (broken : new.broken ≡ breaks after.halted)
      (left : HasLeft lane old.entries new.entries old.lanes new.lanes) where
    halt-ground : IsSameGround seal unseal w after
    halt-ground = ground w after old.disk new.disk (Err fault) at.kept.working stops

    so-halts : Halting w after old.disk new.disk
    so-halts =
        halting w after old.disk new.disk at.volume.led.later (seals_in seal unseal w) fault stops

    -- a finish that isn't made
    refused : after.next ≡ Finish → after.halted ≡ Some GivenUp → new ≡ old
    refused finish given =
        let was = so-halts.finish finish in
        let free = ended-none (inl was.0) in
        let stays = free-left old lane at.volume.sound
        (worker-writes sector seal unseal w old at lane last) new.entries new.lanes free
        (free-entry old lane at.volume.sound free) left in
        let unbroken : new.broken ≡ old.broken = broken ∙ ap (λ h. breaks h) given ∙ sym whole in
        let same-work : new.work ≡ old.work =
        work-as halt-ground
        ∙ ap (λ h. Some (work_by (seals_in seal unseal w) (layout_of w) after after.next h)) given
        ∙ ap (λ k. Some k)
        (given-up-work (seals_in seal unseal w) (layout_of w) after after.next)
        ∙ ap (λ l. Some (between (layout_of w) (record w { loaded = l }))) so-halts.loaded
        ∙ sym (finish-rests sector seal unseal w old at runs whole lane last was.0) in
        same-state new old map keys room stays.0 stays.1 unbroken same-work was.1

    pub stops-step : WorkStep (reading_of w.loaded.valid.sizes) (seals_in seal unseal w) old new
        (worked_of (answers.Fault fault))
    stops-step = works (layout_of w) w after old new (Err fault) of stops
        (leaves-by old new (work_of (seals_in seal unseal w) (layout_of w) after) after.next
        after.halted (frees-as sector seal unseal w old at lane last new left (breaks after.halted)
        (Some (work_of (seals_in seal unseal w) (layout_of w) after)) map keys room broken
        (work-as halt-ground)) refused)

    pub stops-kept : IsInOrder (reading_of w.loaded.valid.sizes) new
        → IsVolume sector (Some after) new
    stops-kept order =
        let size : w.loaded.valid.sizes.atom ≡ old.disk.size = at.volume.led.sizes.atom in
        record {
          atom = rw map (at.volume.atom ∙ sym size
              ∙ ap (λ (s : Sizes). s.atom) (sym halt-ground.sizes) ∙ sized.atom);
          sound = order.sound;
          keys = rw (keys, map) at.volume.keys;
          few = rw (left-is sector seal unseal w old at lane last new left).1.count at.volume.few;
          led = record {
            later = rw so-halts.site so-halts.later;
            none = λ ended. rw so-halts.site (count-none (so-halts.ends ended));
            keys = keys-as halt-ground;
            sizes = sized;
            order = order-as halt-ground order;
            goes_on = λ unbroken. inr (so-halts.halted_is ∙ ap (λ h. Some h)
                (given-up so-halts.halt
                (ap (λ h. breaks h) (sym so-halts.halted_is) ∙ sym broken ∙ unbroken)));
            lane = λ unbroken k o is_last here.
                absurd (none-left sector seal unseal w old at lane last new left k o is_last here);
          };
        }
