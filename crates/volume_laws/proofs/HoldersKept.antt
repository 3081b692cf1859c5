-- While a client's operation holds a block, the worker leaves it on its side, at its place and under
-- its keys; and what its steps leave of the disk and the lanes.
use Rattle.std.proofs.Common.{Bool, List, Option, Result, Some, ap, false, length, subst, suc, true}
use Rattle.std.proofs.Common.{ℕ, ◌<◌, ◌∙◌, ◌≡◌, ◌≤◌}
use Rattle.base_terms.specs.declared.block_range.BlockRange.{BlockRange}
use Rattle.segment_map.specs.declared.Side.{Side}
use Rattle.segment_map.specs.declared.Side.TheVariants.{New, Zone}
use Rattle.segment_map.specs.declared.map.Map.{Map}
use Rattle.volume_machine.specs.Asks.{has_lock}
use Rattle.volume_machine.specs.Pieces.{place_in, side_in}
use Rattle.volume_machine.specs.Seals.{Seals}
use Rattle.volume_machine.specs.Sound.{IsSound}
use Rattle.volume_machine.specs.States.{IsLive, State, open_at}
use Rattle.volume_machine.specs.Steps.{Holds}
use Rattle.volume_machine.specs.Working.{Works}
use Rattle.volume_machine.specs.Works.{Work}
use Rattle.base_terms.specs.declared.failed.Failed.{Failed}
use Rattle.crash_laws.specs.HeaderAreas.Commits.{Stage, begun, first_written, first_kept, second_written}
use Rattle.crash_laws.specs.HeaderAreas.Headers.{Header, Layout}
use Rattle.crash_laws.specs.HotZones.Calls.{IsFirst}
use Rattle.crash_laws.specs.HotZones.Standing.{new_start}
use Rattle.crash_laws.specs.HotZones.Zones.{Phase}
use Rattle.sector_disk.specs.Devices.{Device, failed_call, succeeded}
use Rattle.volume_machine.specs.Courses.{Courses, IsBeyond, Turns}
use Rattle.volume_machine.specs.Readings.{Reading}
use Rattle.volume_machine.specs.WorkCalls as calls
use Rattle.volume_machine.specs.WorkCalls.{PutsCopy}
use Rattle.volume_machine.specs.Works.{Part}
use Rattle.volume_machine.specs.WorkSteps.{EndsZone, Frees, OpensZone, WorkStep, Worked, begins}
use Rattle.volume_machine.specs.WorkSteps.{concludes, ends, ends_zone, faults, is_hindered}
use Rattle.volume_machine.specs.WorkSteps.{is_unfinished, leaves_blocks, leaves_broken}
use Rattle.volume_machine.specs.WorkSteps.{misses_conclusion, misses_part, misses_wipe, opens_zone}
use Rattle.volume_machine.specs.WorkSteps.{queues, stays, steps, takes, wiped, wipes}
use Rattle.volume_machine.specs.declared.open.Open.{Open}
use Rattle.volume_laws.specs.Converting.{KeepsBlock}
use Rattle.volume_laws.proofs.TurnsServed.{last_behind, leads_of, live_beyond}
use Rattle.volume_laws.proofs.Workings.{client_live, works_apart}

-- ---- the size of the disk
copy_atoms : (atom : ℕ) (layout : Layout) (to : Header (List ℕ)) (stage : Stage)
    (old new : Device) (result : Result (Unit {0}) Failed)
    → PutsCopy atom layout to stage old new result → new.atoms ≡ old.atoms
copy_atoms atom layout to begun old new result call = call.call.atoms
copy_atoms atom layout to first_written old new result call = call.atoms
copy_atoms atom layout to first_kept old new result call = call.call.atoms
copy_atoms atom layout to second_written old new result call = call.atoms

module _ {seals : Seals} {atom : ℕ} {work : Work} {old new : Device} where
  pub step_atoms : {phase next : Phase} {part next_part : Part}
      → calls.ZoneStep seals atom work old new phase part next next_part → new.atoms ≡ old.atoms
  step_atoms (calls.reads phase first count text is counted any long call) = call.atoms
  step_atoms (calls.saves first count text saved it any call) = call.atoms
  step_atoms (calls.keeps part call) = call.atoms
  step_atoms (calls.opens stage part goes call) =
      copy_atoms atom work.layout work.zone.opened stage old new succeeded call
  step_atoms (calls.writes n count text next any is call) = call.atoms
  step_atoms (calls.settles part call) = call.atoms
  step_atoms (calls.moves stage part goes call) =
      copy_atoms atom work.layout work.zone.moved stage old new succeeded call
  step_atoms (calls.shifts n count text next any is within call) = call.atoms
  step_atoms (calls.arrives part call) = call.atoms
  step_atoms (calls.turns stage part goes call) =
      copy_atoms atom work.layout work.zone.moved stage old new succeeded call

  pub fails_atoms : {phase next : Phase} {part : Part}
      → calls.StepFails seals atom work old new phase part next → new.atoms ≡ old.atoms
  fails_atoms (calls.read_fails phase first text behind call) = call.atoms
  fails_atoms (calls.save_fails first count text saved it any call) = call.atoms
  fails_atoms (calls.open_fails stage part call) =
      copy_atoms atom work.layout work.zone.opened stage old new failed_call call
  fails_atoms (calls.write_fails n count text next any is call) = call.atoms
  fails_atoms (calls.move_fails stage part call) =
      copy_atoms atom work.layout work.zone.moved stage old new failed_call call
  fails_atoms (calls.shift_fails n count text next any is within call) = call.atoms
  fails_atoms (calls.turn_fails stage part call) =
      copy_atoms atom work.layout work.zone.moved stage old new failed_call call
  fails_atoms (calls.sync_fails phase part next call) = call.atoms

-- ---- what each step leaves of the disk's size and of the lanes
module _ {K : Type 0} {reading : Reading} {seals : Seals} {old new : State K} where
  pub atoms_kept : {worked : Worked} → WorkStep reading seals old new worked
      → new.disk.atoms ≡ old.disk.atoms
  atoms_kept (takes grant it) = ap (λ d. d.atoms) it.admitted.rests
  atoms_kept (queues lane it) = ap (λ d. d.atoms) it.admitted.rests
  atoms_kept (stays lane it) = ap (λ s. s.disk.atoms) it.same
  atoms_kept (begins it) = it.call.atoms
  atoms_kept (steps it) = step_atoms it.step
  atoms_kept (opens_zone it) = it.call.atoms
  atoms_kept (ends_zone it) = it.call.atoms
  atoms_kept (leaves_blocks it) = ap (λ d. d.atoms) it.rests
  atoms_kept (concludes it) = it.call.call.atoms
  atoms_kept (wipes it) = it.call.call.atoms
  atoms_kept (wiped it) = it.call.atoms
  atoms_kept (ends it) = ap (λ s. s.disk.atoms) it.same
  atoms_kept (misses_part it) = it.call.atoms
  atoms_kept (is_hindered cause it) = ap (λ d. d.atoms) it.rests
  atoms_kept (is_unfinished cause it) = ap (λ s. s.disk.atoms) it.same
  atoms_kept (faults it) = fails_atoms it.fails
  atoms_kept (misses_conclusion it) = it.call.call.atoms
  atoms_kept (misses_wipe it) = it.call.call.atoms
  atoms_kept (leaves_broken it) = ap (λ d. d.atoms) it.rests

  pub count_kept : {worked : Worked} → WorkStep reading seals old new worked
      → length new.lanes ≡ length old.lanes
  count_kept (takes grant it) = it.admitted.goes.lane_is.count
  count_kept (queues lane it) = it.admitted.goes.lane_is.count
  count_kept (stays lane it) = ap (λ s. length s.lanes) it.same
  count_kept (begins it) = ap (λ lanes. length lanes) it.goes.lanes
  count_kept (steps it) = ap (λ lanes. length lanes) it.goes.lanes
  count_kept (opens_zone it) = ap (λ lanes. length lanes) it.goes.lanes
  count_kept (ends_zone it) = ap (λ lanes. length lanes) it.goes.lanes
  count_kept (leaves_blocks it) = it.frees.lanes.count
  count_kept (concludes it) = ap (λ lanes. length lanes) it.goes.lanes
  count_kept (wipes it) = ap (λ lanes. length lanes) it.goes.lanes
  count_kept (wiped it) = ap (λ lanes. length lanes) it.goes.lanes
  count_kept (ends it) = ap (λ s. length s.lanes) it.same
  count_kept (misses_part it) = it.gives_up.frees.lanes.count
  count_kept (is_hindered cause it) = it.gives_up.frees.lanes.count
  count_kept (is_unfinished cause it) = ap (λ s. length s.lanes) it.same
  count_kept (faults it) = it.frees.lanes.count
  count_kept (misses_conclusion it) = it.frees.lanes.count
  count_kept (misses_wipe it) = it.frees.lanes.count
  count_kept (leaves_broken it) = it.frees.lanes.count

-- ---- what a client holds
module _ {K : Type 0} {old new : State K} where
  same_map : new.map ≡ old.map → new.keys ≡ old.keys → (b : ℕ) → KeepsBlock old new b
  same_map map keys b = record {
    side = ap (λ m. side_in m b) map;
    place = ap (λ m. place_in m b) map;
    keys = keys;
  }

  freed_map : {is_broken : Bool} {next : Option Work} → Frees old new is_broken next → (b : ℕ)
      → KeepsBlock old new b
  freed_map frees = same_map frees.map frees.keys

  same_state : new ≡ old → (b : ℕ) → KeepsBlock old new b
  same_state same = same_map (ap (λ s. s.map) same) (ap (λ s. s.keys) same)

  turned_map : {atoms start : ℕ} {range : BlockRange} {side : Side} {map : Map}
      → new.map ≡ map → new.keys ≡ old.keys → Turns atoms range side start old.map map → (b : ℕ)
      → b < old.map.blocks → IsBeyond range b → KeepsBlock old new b
  turned_map is keys turned b below beyond = record {
    side = ap (λ m. side_in m b) is ∙ turned.same_sides b below beyond;
    place = ap (λ m. place_in m b) is ∙ turned.same_places b below beyond;
    keys = keys;
  }

module _ {K : Type 0} {reading : Reading} {old new : State K} (courses : Courses reading old) where
  pub opens_turned : (it : OpensZone reading old new) → Turns old.disk.atoms it.work.range
      Zone it.work.zone.own.start old.map (reading.map_of it.work.zone.opened.means)
  opens_turned it =
      let leads = leads_of it.work (courses it.work it.was)
      (λ first. subst IsFirst it.phase first) in (leads.opens (rw it.phase tt)).1

  pub ends_turned : (it : EndsZone reading old new) → Turns old.disk.atoms it.work.range New
      (new_start it.work.zone.resilience it.work.zone) old.map
      (reading.map_of it.work.zone.moved.means)
  ends_turned it = let leads = leads_of it.work (courses it.work it.was)
      (last_behind it.work.phase it.last) in leads.moves.1

  pub atom_kept : {seals : Seals} {worked : Worked} → WorkStep reading seals old new worked
      → new.map.atom ≡ old.map.atom
  atom_kept (takes grant it) = ap (λ m. m.atom) it.admitted.goes.map
  atom_kept (queues lane it) = ap (λ m. m.atom) it.admitted.goes.map
  atom_kept (stays lane it) = ap (λ s. s.map.atom) it.same
  atom_kept (begins it) = ap (λ m. m.atom) it.goes.map_is
  atom_kept (steps it) = ap (λ m. m.atom) it.goes.map_is
  atom_kept (opens_zone it) = ap (λ m. m.atom) it.goes.map_is ∙ (opens_turned it).atom
  atom_kept (ends_zone it) = ap (λ m. m.atom) it.goes.map_is ∙ (ends_turned it).atom
  atom_kept (leaves_blocks it) = ap (λ m. m.atom) it.frees.map
  atom_kept (concludes it) = ap (λ m. m.atom) it.goes.map_is
  atom_kept (wipes it) = ap (λ m. m.atom) it.goes.map_is
  atom_kept (wiped it) = ap (λ m. m.atom) it.goes.map_is
  atom_kept (ends it) = ap (λ s. s.map.atom) it.same
  atom_kept (misses_part it) = ap (λ m. m.atom) it.gives_up.frees.map
  atom_kept (is_hindered cause it) = ap (λ m. m.atom) it.gives_up.frees.map
  atom_kept (is_unfinished cause it) = ap (λ s. s.map.atom) it.same
  atom_kept (faults it) = ap (λ m. m.atom) it.frees.map
  atom_kept (misses_conclusion it) = ap (λ m. m.atom) it.frees.map
  atom_kept (misses_wipe it) = ap (λ m. m.atom) it.frees.map
  atom_kept (leaves_broken it) = ap (λ m. m.atom) it.frees.map

  held_kept : {seals : Seals} {worked : Worked} (b : ℕ) → (old.broken ≡ false → IsLive old b)
      → WorkStep reading seals old new worked → KeepsBlock old new b
  held_kept b still_live (takes grant it) = same_map it.admitted.goes.map it.admitted.goes.keys b
  held_kept b still_live (queues other it) = same_map it.admitted.goes.map it.admitted.goes.keys b
  held_kept b still_live (stays other it) = same_state it.same b
  held_kept b still_live (begins it) = same_map it.goes.map_is it.goes.keys b
  held_kept b still_live (steps it) = same_map it.goes.map_is it.goes.keys b
  held_kept b still_live (opens_zone it) = let live = still_live it.unbroken in
      turned_map it.goes.map_is it.goes.keys (opens_turned it) b live.inside
      (live_beyond it.work it.was b live)
  held_kept b still_live (ends_zone it) = let live = still_live it.unbroken in
      turned_map it.goes.map_is it.goes.keys (ends_turned it) b live.inside
      (live_beyond it.work it.was b live)
  held_kept b still_live (leaves_blocks it) = freed_map it.frees b
  held_kept b still_live (concludes it) = same_map it.goes.map_is it.goes.keys b
  held_kept b still_live (wipes it) = same_map it.goes.map_is it.goes.keys b
  held_kept b still_live (wiped it) = same_map it.goes.map_is it.goes.keys b
  held_kept b still_live (ends it) = same_state it.same b
  held_kept b still_live (misses_part it) = freed_map it.gives_up.frees b
  held_kept b still_live (is_hindered cause it) = freed_map it.gives_up.frees b
  held_kept b still_live (is_unfinished cause it) = same_state it.same b
  held_kept b still_live (faults it) = freed_map it.frees b
  held_kept b still_live (misses_conclusion it) = freed_map it.frees b
  held_kept b still_live (misses_wipe it) = freed_map it.frees b
  held_kept b still_live (leaves_broken it) = freed_map it.frees b

  pub holders_keep : {seals : Seals} {worked : Worked} → IsSound old → Works old
      → WorkStep reading seals old new worked → (lane : ℕ) (o : Open)
      → suc lane < length old.lanes → open_at old.lanes lane ≡ Some o → has_lock o.ask ≡ true
      → Holds old lane → (b : ℕ) → o.range.start ≤ b → b < o.range.end → KeepsBlock old new b
  holders_keep sound works step lane o is_client at has holds b from to =
      held_kept b (λ whole. client_live lane sound (works_apart works) whole at has holds is_client b from to) step
