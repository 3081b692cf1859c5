-- What each step of the worker leaves beside its zone: the keys, how many blocks there are, clients'
-- lanes, and a count of faults that never falls.
use Rattle.std.proofs.Common.{List, None, Option, Result, ap, arith, length, refl, subst, suc, sym}
use Rattle.std.proofs.Common.{ℕ, ◌<◌, ◌∙◌, ◌≡◌, inl, inr, ◌≢◌, ◌≤◌, Bool}
use Rattle.std.proofs.lemmas.Bool.{cases_lt}
use Rattle.segment_map.specs.declared.map.Map.{Map}
use Rattle.volume_machine.specs.Seals.{Seals}
use Rattle.volume_machine.specs.States.{LaneBecomes, State, open_at}
use Rattle.volume_machine.specs.Works.{Work}
use Rattle.std.proofs.lemmas.List.{get_or_past}
use Rattle.base_terms.specs.declared.failed.Failed.{Failed}
use Rattle.crash_laws.specs.HeaderAreas.Commits.{Stage, begun, first_written, first_kept, second_written}
use Rattle.crash_laws.specs.HeaderAreas.Headers.{Header, Layout}
use Rattle.crash_laws.specs.HotZones.Zones.{Phase}
use Rattle.sector_disk.specs.Devices.{Device, failed_call, succeeded}
use Rattle.volume_machine.specs.Courses.{Courses}
use Rattle.volume_machine.specs.Readings.{Reading}
use Rattle.volume_machine.specs.States.{IsIdle}
use Rattle.volume_machine.specs.Steps.{Goes}
use Rattle.volume_machine.specs.WorkCalls as calls
use Rattle.volume_machine.specs.declared.open.Open.{Open}
use Rattle.range_lock.specs.declared.Entry.{Entry}
use Rattle.volume_machine.specs.WorkCalls.{PutsCopy}
use Rattle.volume_machine.specs.Works.{Part}
use Rattle.volume_machine.specs.WorkSteps.{Frees, Proceeds, WorkStep, Worked, begins, concludes, ends}
use Rattle.volume_machine.specs.WorkSteps.{ends_zone, faults, is_hindered, is_unfinished}
use Rattle.volume_machine.specs.WorkSteps.{leaves_blocks, leaves_broken, misses_conclusion}
use Rattle.volume_machine.specs.WorkSteps.{misses_part, misses_wipe, opens_zone, queues, stays}
use Rattle.volume_machine.specs.WorkSteps.{steps, takes, wiped, wipes}
use Rattle.volume_laws.proofs.HoldersKept.{ends_turned, opens_turned}

-- ---- faults
copy_later : (atom : ℕ) (layout : Layout) (to : Header (List ℕ)) (stage : Stage)
    (old new : Device) (result : Result (Unit {0}) Failed)
    → PutsCopy atom layout to stage old new result → old.faults ≤ new.faults
copy_later atom layout to begun old new result call = call.call.cause.later
copy_later atom layout to first_written old new result call = call.cause.later
copy_later atom layout to first_kept old new result call = call.call.cause.later
copy_later atom layout to second_written old new result call = call.cause.later

module _ {seals : Seals} {atom : ℕ} {work : Work} {old new : Device} where
  step_later : {phase next : Phase} {part next_part : Part}
      → calls.ZoneStep seals atom work old new phase part next next_part → old.faults ≤ new.faults
  step_later (calls.reads phase first count text is counted any long call) = call.cause.later
  step_later (calls.saves first count text saved it any call) = call.cause.later
  step_later (calls.keeps part call) = call.cause.later
  step_later (calls.opens stage part goes call) =
      copy_later atom work.layout work.zone.opened stage old new succeeded call
  step_later (calls.writes n count text next any is call) = call.cause.later
  step_later (calls.settles part call) = call.cause.later
  step_later (calls.moves stage part goes call) =
      copy_later atom work.layout work.zone.moved stage old new succeeded call
  step_later (calls.shifts n count text next any is within call) = call.cause.later
  step_later (calls.arrives part call) = call.cause.later
  step_later (calls.turns stage part goes call) =
      copy_later atom work.layout work.zone.moved stage old new succeeded call

  fails_later : {phase next : Phase} {part : Part}
      → calls.StepFails seals atom work old new phase part next → old.faults ≤ new.faults
  fails_later (calls.read_fails phase first text behind call) = call.cause.later
  fails_later (calls.save_fails first count text saved it any call) = call.cause.later
  fails_later (calls.open_fails stage part call) =
      copy_later atom work.layout work.zone.opened stage old new failed_call call
  fails_later (calls.write_fails n count text next any is call) = call.cause.later
  fails_later (calls.move_fails stage part call) =
      copy_later atom work.layout work.zone.moved stage old new failed_call call
  fails_later (calls.shift_fails n count text next any is within call) = call.cause.later
  fails_later (calls.turn_fails stage part call) =
      copy_later atom work.layout work.zone.moved stage old new failed_call call
  fails_later (calls.sync_fails phase part is call) = call.cause.later

-- ---- lanes
abbrev pub ClientsIdle : {K : Type 0} → State K → Type 0
ClientsIdle state =
    (lane : ℕ) → suc lane < length state.lanes → open_at state.lanes lane ≡ None

pub all_idle : {K : Type 0} (state : State K) (lane : ℕ) → ClientsIdle state
    → suc lane ≡ length state.lanes → open_at state.lanes lane ≡ None → IsIdle state
all_idle state lane clients last free = λ k. elim (cases_lt (suc k) (length state.lanes)) [
  | inl below ↦ clients k below
  | inr behind ↦ elim (cases_lt k (length state.lanes)) [
    | inl within ↦ (let same : k ≡ lane = omega (arith, last, behind, within) in rw same free)
    | inr past ↦ get_or_past state.lanes k None past
  ]
]

module _ {K : Type 0} (old new : State K) where
  pub record Leaves : Type 0 where
    pub keys : new.keys ≡ old.keys
    pub blocks : new.map.blocks ≡ old.map.blocks
    pub later : old.disk.faults ≤ new.disk.faults
    pub clients : ClientsIdle old → ClientsIdle new

  by_same : new ≡ old → Leaves
  by_same same = record {
    keys = ap (λ s. s.keys) same;
    blocks = ap (λ s. s.map.blocks) same;
    later = (let is : new.disk.faults ≡ old.disk.faults = ap (λ s. s.disk.faults) same in omega (arith, is));
    clients = λ idle. subst ClientsIdle (sym same) idle;
  }

  others_idle : {now : Option Open} (lane : ℕ) → suc lane ≡ length old.lanes
      → LaneBecomes old.lanes new.lanes lane now → ClientsIdle old → ClientsIdle new
  others_idle lane last becomes idle k below =
      let count = becomes.count in
      let other : k ≢ lane = (λ same. omega (arith, same, last, below, count)) in
      becomes.others k other ∙ idle k (omega (arith, below, count))

  by_frees : {broken : Bool} {next : Option Work} → Frees old new broken next
      → old.disk.faults ≤ new.disk.faults → Leaves
  by_frees frees later = record {
    keys = frees.keys;
    blocks = ap (λ (m : Map). m.blocks) frees.map;
    later = later;
    clients = others_idle frees.lane frees.last frees.lanes;
  }

  by_proceeds : {map : Map} {next : Work} {broken : Bool} → Proceeds old new map next broken
      → map.blocks ≡ old.map.blocks → old.disk.faults ≤ new.disk.faults → Leaves
  by_proceeds goes same later = record {
    keys = goes.keys;
    blocks = ap (λ (m : Map). m.blocks) goes.map_is ∙ same;
    later = later;
    clients = λ idle k below. rw goes.lanes (idle k (rw goes.lanes at below));
  }

  by_goes : (lane : ℕ) {entries : List Entry} {now : Option Open} {broken : Bool}
      → suc lane ≡ length old.lanes → Goes old new lane entries now broken
      → new.disk ≡ old.disk → Leaves
  by_goes lane last goes rests = record {
    keys = goes.keys;
    blocks = ap (λ (m : Map). m.blocks) goes.map;
    later = (let is : new.disk.faults ≡ old.disk.faults = ap (λ d. d.faults) rests in omega (arith, is));
    clients = others_idle lane last goes.lane_is;
  }

  resting_later : new.disk ≡ old.disk → old.disk.faults ≤ new.disk.faults
  resting_later rests =
      let is : new.disk.faults ≡ old.disk.faults = ap (λ d. d.faults) rests in omega (arith, is)

  pub work_leaves : {reading : Reading} {seals : Seals} {worked : Worked} → Courses reading old
      → WorkStep reading seals old new worked → Leaves
  work_leaves courses (takes grant it) =
      by_goes it.lane it.last it.admitted.goes it.admitted.rests
  work_leaves courses (queues lane it) =
      by_goes it.lane it.last it.admitted.goes it.admitted.rests
  work_leaves courses (stays lane it) = by_same it.same
  work_leaves courses (begins it) = by_proceeds it.goes refl it.call.cause.later
  work_leaves courses (steps it) = by_proceeds it.goes refl (step_later it.step)
  work_leaves courses (opens_zone it) =
      by_proceeds it.goes (opens_turned courses it).blocks it.call.cause.later
  work_leaves courses (ends_zone it) =
      by_proceeds it.goes (ends_turned courses it).blocks it.call.cause.later
  work_leaves courses (leaves_blocks it) = by_frees it.frees (resting_later it.rests)
  work_leaves courses (concludes it) = by_proceeds it.goes refl it.call.call.cause.later
  work_leaves courses (wipes it) = by_proceeds it.goes refl it.call.call.cause.later
  work_leaves courses (wiped it) = by_proceeds it.goes refl it.call.cause.later
  work_leaves courses (ends it) = by_same it.same
  work_leaves courses (misses_part it) = by_frees it.gives_up.frees it.call.cause.later
  work_leaves courses (is_hindered cause it) = by_frees it.gives_up.frees (resting_later it.rests)
  work_leaves courses (is_unfinished cause it) = by_same it.same
  work_leaves courses (faults it) = by_frees it.frees (fails_later it.fails)
  work_leaves courses (misses_conclusion it) = by_frees it.frees it.call.call.cause.later
  work_leaves courses (misses_wipe it) = by_frees it.frees it.call.call.cause.later
  work_leaves courses (leaves_broken it) = by_frees it.frees (resting_later it.rests)
