-- The headers that a conversion leads to, step by step: each step leaves the map that its header
-- gives, and turns the blocks of the zone alone.
use Rattle.std.proofs.Common.{List, Some, ap, inl, inr, refl, subst, sym, ℕ, ◌<◌, ◌∙◌, ◌≡◌, ◌≤◌}
use Rattle.std.proofs.Common.{◌⊎◌}
use Rattle.base_terms.specs.declared.block_range.BlockRange.{BlockRange}
use Rattle.segment_map.specs.declared.Side.{Side}
use Rattle.segment_map.specs.declared.map.Map.{Map}
use Rattle.volume_machine.specs.Seals.{Seals}
use Rattle.volume_machine.specs.States.{State}
use Rattle.volume_machine.specs.Works.{Work}
use Rattle.crash_laws.specs.HeaderAreas.Headers.{Header, IsHeader, IsLaidOut, Layout}
use Rattle.crash_laws.specs.HotZones.Calls.{IsFirst}
use Rattle.crash_laws.specs.HotZones.Zones.{Hotzone, Phase, from_of, to_of, saving, opening, writing, mending}
use Rattle.crash_laws.specs.HotZones.Zones.{moving, shifting, turning}
use Rattle.sector_disk.specs.Devices.{Device}
use Rattle.volume_machine.specs.Courses.{Courses, IsOnCourse, IsToOpen, Leads, Succeeds}
use Rattle.volume_machine.specs.Courses.{Turns, last_from}
use Rattle.volume_machine.specs.Readings.{Reading}
use Rattle.volume_machine.specs.WorkCalls.{StepFails, ZoneStep, arrives, keeps, move_fails, moves}
use Rattle.volume_machine.specs.WorkCalls.{open_fails, opens, read_fails, reads, save_fails, saves}
use Rattle.volume_machine.specs.WorkCalls.{settles, shift_fails, shifts, sync_fails, turn_fails}
use Rattle.volume_machine.specs.WorkCalls.{turns, write_fails, writes}
use Rattle.volume_machine.specs.WorkSteps.{IsGivable}
use Rattle.volume_machine.specs.Works.{Part, Progress, advanced, resting}

-- what is turned once is turned the same from another map that turned the same blocks
pub turns_on : {atoms start next_start : ℕ} {range : BlockRange} {side next_side : Side}
    {from to next : Map} → Turns atoms range side start from to
    → Turns atoms range next_side next_start from next → Turns atoms range next_side next_start to next
turns_on one other = record {
  atom = other.atom ∙ sym one.atom;
  blocks = other.blocks ∙ sym one.blocks;
  fits = other.fits;
  apart = other.apart;
  same_sides = λ b below beyond.
      (let inside = subst (λ n. b < n) one.blocks below in
      other.same_sides b inside beyond ∙ sym (one.same_sides b inside beyond));
  same_places = λ b below beyond.
      (let inside = subst (λ n. b < n) one.blocks below in
      other.same_places b inside beyond ∙ sym (one.same_places b inside beyond));
  sides = other.sides;
  places = other.places;
  zoned = λ b past. other.zoned b (subst (λ n. n ≤ b) one.blocks past);
}

-- ---- a state whose map, zone at hand and disk's size stay
module _ {K : Type 0} {reading : Reading} {old new : State K} (map : new.map ≡ old.map)
    (atoms : new.disk.atoms ≡ old.disk.atoms) where
  leads_same : (work : Work) → Leads reading old work → Leads reading new work
  leads_same work leads = record {
    opens = λ to_open. (let (succeeds, turned) = leads.opens to_open in
        (succeeds, rw (map, atoms) turned));
    moves = (leads.moves.0, rw (map, atoms) leads.moves.1);
  }

  pub course_same : new.work ≡ old.work → Courses reading old → Courses reading new
  course_same work_is courses work is =
      let course = courses work (sym work_is ∙ is) in record {
        is = course.is;
        map = map ∙ course.map;
        laid = rw (map, atoms) course.laid;
        is_next = course.is_next;
        next = elim course.next [
          | inl first ↦ inl first
          | inr leads ↦ inr (leads_same work leads)
        ];
      }

-- the zone at hand then
pub course_of : {K : Type 0} {reading : Reading} {state : State K} (work : Work)
    → state.work ≡ Some work → IsOnCourse reading state work → Courses reading state
course_of {reading = reading} {state = state} work at course next is =
    let same : next ≡ work = cc in subst (IsOnCourse reading state) (sym same) course

-- between two zones, under a header
pub rest_course : {K : Type 0} {reading : Reading} {state : State K} (layout : Layout)
    (header : Header (List ℕ)) (progress : Progress) → IsHeader reading.reader header
    → state.map ≡ reading.map_of header.means
    → IsLaidOut state.map.atom state.disk.atoms (reading.reader.size header.means) layout
    → IsOnCourse reading state (resting layout header progress)
rest_course layout header progress is map laid = record {
  is = is;
  map = map;
  laid = laid;
  is_next = is;
  next = inl refl;
}

-- ---- the header of a first phase, and of one that may be given up
pub first_from : (zone : Hotzone (List ℕ)) (phase : Phase) → IsFirst phase
    → from_of zone phase ≡ zone.before
first_from zone (saving n) is = refl
first_from zone (opening stage) is = absurd is
first_from zone (writing n) is = absurd is
first_from zone (mending n) is = absurd is
first_from zone (moving stage) is = absurd is
first_from zone (shifting n) is = refl
first_from zone (turning stage) is = absurd is

pub given_from : (zone : Hotzone (List ℕ)) (phase : Phase) → IsGivable phase
    → from_of zone phase ≡ zone.before
given_from zone (saving n) is = refl
given_from zone (opening stage) is = absurd is
given_from zone (writing n) is = absurd is
given_from zone (mending n) is = absurd is
given_from zone (moving stage) is = absurd is
given_from zone (shifting n) is = refl
given_from zone (turning stage) is = absurd is

-- the header that the commit at hand leads to is one of two
pub either_to : (Is : Header (List ℕ) → Type 0) (zone : Hotzone (List ℕ)) (phase : Phase)
    → Is zone.opened → Is zone.moved → Is (to_of zone phase)
either_to Is zone (saving n) opened moved = opened
either_to Is zone (opening stage) opened moved = opened
either_to Is zone (writing n) opened moved = moved
either_to Is zone (mending n) opened moved = moved
either_to Is zone (moving stage) opened moved = moved
either_to Is zone (shifting n) opened moved = moved
either_to Is zone (turning stage) opened moved = moved

-- a step of a zone leaves the header that its commit leads from, done or failed
module _ {seals : Seals} {atom : ℕ} {work : Work} {old new : Device} where
  pub step_from : {phase next : Phase} {part next_part : Part} (zone : Hotzone (List ℕ))
      → ZoneStep seals atom work old new phase part next next_part
      → from_of zone next ≡ from_of zone phase
  step_from zone (reads phase first count text is counted any long call) = refl
  step_from zone (saves first count text saved it any call) = refl
  step_from zone (keeps part call) = refl
  step_from zone (opens stage part goes call) = refl
  step_from zone (writes n count text next any is call) = refl
  step_from zone (settles part call) = refl
  step_from zone (moves stage part goes call) = refl
  step_from zone (shifts n count text next any is within call) = refl
  step_from zone (arrives part call) = refl
  step_from zone (turns stage part goes call) = refl

  pub step_last : {phase next : Phase} {part next_part : Part} (zone : Hotzone (List ℕ))
      → ZoneStep seals atom work old new phase part next next_part
      → last_from zone next ≡ last_from zone phase
  step_last zone (reads phase first count text is counted any long call) = refl
  step_last zone (saves first count text saved it any call) = refl
  step_last zone (keeps part call) = refl
  step_last zone (opens stage part goes call) = refl
  step_last zone (writes n count text next any is call) = refl
  step_last zone (settles part call) = refl
  step_last zone (moves stage part goes call) = refl
  step_last zone (shifts n count text next any is within call) = refl
  step_last zone (arrives part call) = refl
  step_last zone (turns stage part goes call) = refl

  pub step_opens : {phase next : Phase} {part next_part : Part}
      → ZoneStep seals atom work old new phase part next next_part → IsToOpen next → IsToOpen phase
  step_opens (reads phase first count text is counted any long call) to_open = to_open
  step_opens (saves first count text saved it any call) to_open = to_open
  step_opens (keeps part call) to_open = to_open
  step_opens (opens stage part goes call) to_open = to_open
  step_opens (writes n count text next any is call) to_open = to_open
  step_opens (settles part call) to_open = to_open
  step_opens (moves stage part goes call) to_open = to_open
  step_opens (shifts n count text next any is within call) to_open = to_open
  step_opens (arrives part call) to_open = to_open
  step_opens (turns stage part goes call) to_open = to_open

  pub fault_from : {phase next : Phase} {part : Part} (zone : Hotzone (List ℕ))
      → StepFails seals atom work old new phase part next → from_of zone next ≡ from_of zone phase
  fault_from zone (read_fails phase first text behind call) = refl
  fault_from zone (save_fails first count text saved it any call) = refl
  fault_from zone (open_fails stage part call) = refl
  fault_from zone (write_fails n count text next any is call) = refl
  fault_from zone (move_fails stage part call) = refl
  fault_from zone (shift_fails n count text next any is within call) = refl
  fault_from zone (turn_fails stage part call) = refl
  fault_from zone (sync_fails phase part next call) = refl

  pub fault_to : {phase next : Phase} {part : Part} (zone : Hotzone (List ℕ))
      → StepFails seals atom work old new phase part next → to_of zone next ≡ to_of zone phase
  fault_to zone (read_fails phase first text behind call) = refl
  fault_to zone (save_fails first count text saved it any call) = refl
  fault_to zone (open_fails stage part call) = refl
  fault_to zone (write_fails n count text next any is call) = refl
  fault_to zone (move_fails stage part call) = refl
  fault_to zone (shift_fails n count text next any is within call) = refl
  fault_to zone (turn_fails stage part call) = refl
  fault_to zone (sync_fails phase part next call) = refl

  pub fault_last : {phase next : Phase} {part : Part} (zone : Hotzone (List ℕ))
      → StepFails seals atom work old new phase part next → last_from zone next ≡ last_from zone phase
  fault_last zone (read_fails phase first text behind call) = refl
  fault_last zone (save_fails first count text saved it any call) = refl
  fault_last zone (open_fails stage part call) = refl
  fault_last zone (write_fails n count text next any is call) = refl
  fault_last zone (move_fails stage part call) = refl
  fault_last zone (shift_fails n count text next any is within call) = refl
  fault_last zone (turn_fails stage part call) = refl
  fault_last zone (sync_fails phase part next call) = refl

  pub fault_opens : {phase next : Phase} {part : Part}
      → StepFails seals atom work old new phase part next → IsToOpen next → IsToOpen phase
  fault_opens (read_fails phase first text behind call) to_open = to_open
  fault_opens (save_fails first count text saved it any call) to_open = to_open
  fault_opens (open_fails stage part call) to_open = to_open
  fault_opens (write_fails n count text next any is call) to_open = to_open
  fault_opens (move_fails stage part call) to_open = to_open
  fault_opens (shift_fails n count text next any is within call) to_open = to_open
  fault_opens (turn_fails stage part call) to_open = to_open
  fault_opens (sync_fails phase part next call) to_open = to_open

  pub fault_first : {phase next : Phase} {part : Part}
      → StepFails seals atom work old new phase part next → IsFirst phase → IsFirst next
  fault_first (read_fails phase first text behind call) is_first = is_first
  fault_first (save_fails first count text saved it any call) is_first = is_first
  fault_first (open_fails stage part call) is_first = absurd is_first
  fault_first (write_fails n count text next any is call) is_first = absurd is_first
  fault_first (move_fails stage part call) is_first = absurd is_first
  fault_first (shift_fails n count text next any is within call) is_first = is_first
  fault_first (turn_fails stage part call) is_first = absurd is_first
  fault_first (sync_fails phase part next call) is_first = is_first

-- ---- the zone that has come further
module _ {K : Type 0} {reading : Reading} (old new : State K) (map : new.map ≡ old.map)
    (atoms : new.disk.atoms ≡ old.disk.atoms) where
  pub leads_further : (work : Work) (phase : Phase) (part : Part)
      → last_from work.zone phase ≡ last_from work.zone work.phase
      → (IsToOpen phase → IsToOpen work.phase)
      → Leads reading old work → Leads reading new (advanced work phase part)
  leads_further work phase part last still leads = record {
    opens = λ to_open. (let (succeeds, turned) = leads.opens (still to_open) in
        (succeeds, rw (map, atoms) turned));
    moves = (
      subst (λ h. Succeeds reading.reader h work.zone.moved) (sym last) leads.moves.0,
      rw (map, atoms) leads.moves.1,
    );
  }

  pub course_further : (work : Work) (phase : Phase) (part : Part)
      → from_of work.zone phase ≡ from_of work.zone work.phase
      → IsHeader reading.reader (to_of work.zone phase)
      → IsFirst phase ⊎ Leads reading new (advanced work phase part)
      → IsHeader reading.reader (from_of work.zone work.phase)
      → old.map ≡ reading.map_of (from_of work.zone work.phase).means
      → IsLaidOut old.map.atom old.disk.atoms
      (reading.reader.size (from_of work.zone work.phase).means) work.layout
      → IsOnCourse reading new (advanced work phase part)
  course_further work phase part from to next is map_is laid = record {
    is = subst (IsHeader reading.reader) (sym from) is;
    map = map ∙ map_is ∙ ap (λ h. reading.map_of h.means) (sym from);
    laid = rw (map, atoms) (subst (λ h. IsLaidOut old.map.atom old.disk.atoms
        (reading.reader.size h.means) work.layout) (sym from) laid);
    is_next = to;
    next = next;
  }
