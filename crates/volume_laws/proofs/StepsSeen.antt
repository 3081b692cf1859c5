-- What a step of the zone at hand does to what the disk shows: the zone goes on, and live blocks
-- keep what they hold.
use Rattle.std.proofs.Common.{Bool, Contains, List, arith, false, inl, inr, subst, true, ℕ, ◌+◌}
use Rattle.std.proofs.Common.{◌<◌, ◌≡◌, ◌≤◌, ◌⊎◌}
use Rattle.crash_laws.specs.HotZones.Zones.{Reaches, ShowsZone}
use Rattle.plain_disk.specs.Plain.{Block}
use Rattle.sector_disk.specs.DiskViews.Parts.{block_at}
use Rattle.sector_disk.specs.DiskViews.Views.{IsOutside, IsSynced, IsTried, IsUnchanged, IsWritten}
use Rattle.sector_disk.specs.DiskViews.Views.{View}
use Rattle.volume_machine.specs.Edges.{InPlain}
use Rattle.volume_machine.specs.Pieces.{place_in}
use Rattle.volume_machine.specs.Seals.{Seals}
use Rattle.volume_machine.specs.States.{IsLive, State}
use Rattle.volume_machine.specs.Working.{IsWorking}
use Rattle.volume_machine.specs.Works.{Work}
use Rattle.crash_laws.specs.HeaderAreas.Areas.{Area}
use Rattle.crash_laws.specs.HeaderAreas.Commits.{Stage, begun, first_written, first_kept, second_written}
use Rattle.crash_laws.specs.HeaderAreas.Commits.{CommitCall, CommitFails}
use Rattle.crash_laws.specs.HeaderAreas.Headers.{primary, secondary, place_of, Header, text_of}
use Rattle.sector_disk.specs.DiskViews.Views.{HasNoMore}
use Rattle.crash_laws.proofs.HotZones.ZoneCalls.{zone_goes}
use Rattle.crash_laws.proofs.HotZones.ZoneFaults.{zone_fails}
use Rattle.crash_laws.proofs.HotZones.ZoneFrames.{zone_kept, zone_unchanged}
use Rattle.crash_laws.specs.HotZones.Calls as calls
use Rattle.crash_laws.specs.HotZones.Zones.{Texts, Phase, its_header, its_own, its_store, its_target}
use Rattle.sector_disk.specs.Devices.{Device}
use Rattle.volume_machine.specs.Saved.{saved_atoms, saved_before, saved_of}
use Rattle.volume_machine.specs.WorkCalls.{IsResealed, StepFails, ZoneStep, arrives, keeps}
use Rattle.volume_machine.specs.WorkCalls.{move_fails, moves, resealed}
use Rattle.volume_machine.specs.WorkCalls.{open_fails, opens, read_fails, reads, save_fails, saves}
use Rattle.volume_machine.specs.WorkCalls.{settles, shift_fails, shifts, sync_fails}
use Rattle.volume_machine.specs.WorkCalls.{turn_fails, turns, write_fails, writes}
use Rattle.volume_machine.specs.Works.{Part}
use Rattle.volume_laws.proofs.Here.{Here, Moves, moves_by_failed_sync, moves_by_read}
use Rattle.volume_laws.proofs.Here.{moves_by_sync, positive}
use Rattle.volume_laws.proofs.Invariant.{IsPartOf, KnowsPart}
use Rattle.volume_laws.proofs.StepParts.{new_known, new_within, saved_known}
use Rattle.volume_laws.proofs.WorkMoves.{copy_fails, copy_moves, moves_as, tries_moves, write_moves}

-- what a call leaves of a place: what it holds now, and no candidates but those before and that one
pub record Leaves (view after : View) (place : ℕ) : Type 0 where
  pub current : after.current place ≡ view.current place
  pub candidates : (atom : List ℕ) → Contains (after.candidates place) atom
      → Contains (view.candidates place) atom ⊎ (atom ≡ view.current place)

-- a text that is written as the zone has it
part_written : {atom : ℕ} (area : Area) (values : ℕ → List ℕ) (n more : ℕ) (text : List ℕ)
    {view after : View} → 0 < more → n + more ≤ area.count
    → ((k : ℕ) → k < more → block_at atom text k ≡ values (n + k))
    → IsWritten atom (area.start + n) more text view after
    → calls.WritesPart atom area values n more view after
part_written area values n more text some within each call =
    record { some = some; within = within; text = text; each = each; call = call }

part_tried : {atom : ℕ} (area : Area) (values : ℕ → List ℕ) (n more : ℕ) (text : List ℕ)
    {view after : View} → 0 < more → n + more ≤ area.count
    → ((k : ℕ) → k < more → block_at atom text k ≡ values (n + k))
    → IsTried atom (area.start + n) more text view after
    → calls.TriesPart atom area values n more view after
part_tried area values n more text some within each call =
    record { some = some; within = within; text = text; each = each; call = call }

module _ {K P Q : Type 0} {state : State K} {seals : Seals} {plain : ℕ → InPlain} {left : List Block}
    (here : Here P Q state seals plain left) (work : Work) (working : IsWorking state work) where
  away : (area : Area) → Reaches work.layout work.zone area → (x n : ℕ) → x + n ≤ area.count
      → (b : ℕ) → IsLive state b → IsOutside (area.start + x) n (place_in state.map b)
  away area of x n within b live = elim (working.lies.away b live area of) [
    | inl before ↦ inl (omega (arith, before))
    | inr behind ↦ inr (omega (arith, behind, within))
  ]

  beside_written : (area : Area) (x n : ℕ) (text : List ℕ) (view after : View)
      → Reaches work.layout work.zone area → x + n ≤ area.count
      → IsWritten state.map.atom (area.start + x) n text view after → (b : ℕ) → IsLive state b
      → Leaves view after (place_in state.map b)
  beside_written area x n text view after of within written b live =
      let outside = away area of x n within b live in record {
        current = written.outside (place_in state.map b) outside;
        candidates = λ atom has.
            inl (written.tried.outside (place_in state.map b) outside atom has);
      }

  beside_tried : (area : Area) (x n : ℕ) (text : List ℕ) (view after : View)
      → Reaches work.layout work.zone area → x + n ≤ area.count
      → IsTried state.map.atom (area.start + x) n text view after → (b : ℕ) → IsLive state b
      → HasNoMore view after (place_in state.map b)
  beside_tried area x n text view after of within tried b live =
      tried.outside (place_in state.map b) (away area of x n within b live)

  -- a call of a commit
  beside_copy : (to : Header (List ℕ)) (stage : Stage) (view after : View)
      → CommitCall state.map.atom work.layout to stage view after → (b : ℕ) → IsLive state b
      → Leaves view after (place_in state.map b)
  beside_copy to begun view after call = beside_written (place_of work.layout primary) 0
      (place_of work.layout primary).count (text_of to primary) view after (its_header primary)
      (omega arith) (subst (λ at. IsWritten state.map.atom at
      (place_of work.layout primary).count (text_of to primary) view after) (omega arith) call)
  beside_copy to first_written view after call = λ b live. record {
    current = call.current (place_in state.map b);
    candidates = λ atom has. inr (call.candidates (place_in state.map b) atom has);
  }
  beside_copy to first_kept view after call = beside_written (place_of work.layout secondary) 0
      (place_of work.layout secondary).count (text_of to secondary) view after
      (its_header secondary) (omega arith) (subst (λ at. IsWritten state.map.atom at
      (place_of work.layout secondary).count (text_of to secondary) view after) (omega arith) call)
  beside_copy to second_written view after call = λ b live. record {
    current = call.current (place_in state.map b);
    candidates = λ atom has. inr (call.candidates (place_in state.map b) atom has);
  }

  beside_failed_copy : (to : Header (List ℕ)) (stage : Stage) (view after : View)
      → CommitFails state.map.atom work.layout to stage view after → (b : ℕ) → IsLive state b
      → HasNoMore view after (place_in state.map b)
  beside_failed_copy to begun view after call = beside_tried (place_of work.layout primary) 0
      (place_of work.layout primary).count (text_of to primary) view after (its_header primary)
      (omega arith) (subst (λ at. IsTried state.map.atom at
      (place_of work.layout primary).count (text_of to primary) view after) (omega arith) call)
  beside_failed_copy to first_written view after call = λ b live. call (place_in state.map b)
  beside_failed_copy to first_kept view after call = beside_tried (place_of work.layout secondary) 0
      (place_of work.layout secondary).count (text_of to secondary) view after
      (its_header secondary) (omega arith) (subst (λ at. IsTried state.map.atom at
      (place_of work.layout secondary).count (text_of to secondary) view after) (omega arith) call)
  beside_failed_copy to second_written view after call = λ b live. call (place_in state.map b)

  -- after a sync
  pub synced_leaves : (view after : View) → IsSynced view after → (b : ℕ)
      → Leaves view after (place_in state.map b)
  synced_leaves view after synced b = record {
    current = synced.current (place_in state.map b);
    candidates = λ atom has. inr (synced.candidates (place_in state.map b) atom has);
  }

  pub unchanged_leaves : (view after : View) → IsUnchanged view after → (b : ℕ)
      → Leaves view after (place_in state.map b)
  unchanged_leaves view after same b = record {
    current = same.current (place_in state.map b);
    candidates = λ atom has. inl (same.candidates (place_in state.map b) atom has);
  }

  -- the zone goes on, or a step of it failed
  pub record Seen (texts : Texts) (phase next : Phase) (view after : View) : Type 0 where
    pub zone : ShowsZone state.map.atom work.layout work.zone texts phase false view
        → ShowsZone state.map.atom work.layout work.zone texts next false after
    pub beside : (b : ℕ) → IsLive state b → Leaves view after (place_in state.map b)

  pub record SeenFailed (texts : Texts) (phase next : Phase) (view after : View) : Type 0 where
    pub zone : ShowsZone state.map.atom work.layout work.zone texts phase false view
        → ShowsZone state.map.atom work.layout work.zone texts next true after
    pub beside : (b : ℕ) → IsLive state b → HasNoMore view after (place_in state.map b)

  module _ (texts : Texts) (saved_is : (i : ℕ) → texts.saved i
      ≡ saved_of work.zone.resilience state.map.atom work.zone.own.count texts.old i)
      (resealed_is : (i : ℕ) → i < work.zone.own.count
      → resealed seals (work.range.start + i) (texts.old i) ≡ texts.new i) where
    by_call : {phase next : Phase} {view after : View}
        → calls.ZoneCall state.map.atom work.layout work.zone texts view after phase next
        → ((b : ℕ) → IsLive state b → Leaves view after (place_in state.map b))
        → Seen texts phase next view after
    by_call {phase} {next} {view} {after} call beside = record {
      zone = λ shows. zone_goes state.map.atom work.layout work.zone texts phase next view after
          working.lies.apart shows call;
      beside = beside;
    }

    by_fault : {phase next : Phase} {view after : View}
        → calls.ZoneFault state.map.atom work.layout work.zone texts view after phase next
        → ((b : ℕ) → IsLive state b → HasNoMore view after (place_in state.map b))
        → SeenFailed texts phase next view after
    by_fault {phase} {next} {view} {after} call beside = record {
      zone = λ shows. zone_fails state.map.atom work.layout work.zone texts phase next view after
          working.lies.apart shows call;
      beside = beside;
    }

    -- the texts that are written
    new_is : (n count : ℕ) (text next : List ℕ)
        → IsPartOf state.map.atom n work.zone.own.count texts.old text
        → IsResealed seals state.map.atom (work.range.start + n) count text next
        → (k : ℕ) → k < count → block_at state.map.atom next k ≡ texts.new (n + k)
    new_is n count text next part is =
        new_known work texts (positive here) saved_is resealed_is n count text next part is

    pub step_seen : {new : Device} {phase next_phase : Phase} {part next_part : Part} → Q → state.broken ≡ false
        → KnowsPart state.map.atom texts work.zone part
        → ZoneStep seals state.map.atom work state.disk new phase part next_phase next_part
        → Moves P true state.map.atom here.bytes state.disk new (Seen texts phase next_phase)
    step_seen all was knows (reads phase first count text is counted any long call) = moves_as
        (λ view after same. record {
          zone = λ shows. zone_unchanged state.map.atom work.layout work.zone texts phase false
              view after same shows;
          beside = λ b live. unchanged_leaves view after same b;
        }) (moves_by_read call here.values)
    step_seen all was knows (saves first count text saved it any call) =
        let n = saved_before work.zone.resilience state.map.atom first in
        let more = saved_atoms work.zone.resilience state.map.atom count in
        moves_as (λ view after written. by_call (calls.saves n more
        (part_written work.zone.store texts.saved n more saved any it.within
        (saved_known work texts (positive here) saved_is resealed_is first count text saved knows it)
        written))
        (beside_written work.zone.store n more saved view after its_store it.within written))
        (write_moves here more all was (let fits = working.within.zone.store in
        let within = it.within in omega (arith, fits, within)) it.is.size call)
    step_seen all was knows (keeps part call) = moves_as (λ view after synced. by_call
        (calls.keeps synced) (λ b live. synced_leaves view after synced b))
        (moves_by_sync call here.values)
    step_seen all was knows (opens stage part goes call) = moves_as (λ view after called. by_call
        (calls.opens stage goes called) (beside_copy work.zone.opened stage view after called))
        (copy_moves here work.layout work.zone.opened stage all was working.within.copies call)
    step_seen all was knows (writes n count text next any is call) =
        let within = new_within work texts (positive here) saved_is resealed_is n count text next
        knows is in
        moves_as (λ view after written. by_call (calls.writes n count (part_written work.zone.own
        texts.new n count next any within (new_is n count text next knows is) written))
        (beside_written work.zone.own n count next view after its_own within written))
        (write_moves here count all was (let fits = working.within.zone.own in
        omega (arith, fits, within)) is.size call)
    step_seen all was knows (settles part call) = moves_as (λ view after synced. by_call
        (calls.settles synced) (λ b live. synced_leaves view after synced b))
        (moves_by_sync call here.values)
    step_seen all was knows (moves stage part goes call) = moves_as (λ view after called. by_call
        (calls.moves stage goes called) (beside_copy work.zone.moved stage view after called))
        (copy_moves here work.layout work.zone.moved stage all was working.within.copies call)
    step_seen all was knows (shifts n count text next any is within call) = moves_as
        (λ view after written. by_call (calls.shifts n count (part_written work.zone.target
        texts.new n count next any within (new_is n count text next knows is) written))
        (beside_written work.zone.target n count next view after its_target within written))
        (write_moves here count all was (let fits = working.within.zone.target in
        omega (arith, fits, within)) is.size call)
    step_seen all was knows (arrives part call) = moves_as (λ view after synced. by_call
        (calls.arrives synced) (λ b live. synced_leaves view after synced b))
        (moves_by_sync call here.values)
    step_seen all was knows (turns stage part goes call) = moves_as (λ view after called. by_call
        (calls.turns stage goes called) (beside_copy work.zone.moved stage view after called))
        (copy_moves here work.layout work.zone.moved stage all was working.within.copies call)

    pub fault_seen : {new : Device} {phase next_phase : Phase} {part : Part}
        → KnowsPart state.map.atom texts work.zone part
        → StepFails seals state.map.atom work state.disk new phase part next_phase
        → (fine : Bool) × Moves P fine state.map.atom here.bytes state.disk new
        (SeenFailed texts phase next_phase)
    fault_seen knows (read_fails phase first text behind call) = (
      true,
      moves_as
          (λ view after same. record {
            zone = λ shows. zone_kept state.map.atom work.layout work.zone texts phase false true
                view after (λ whole. absurd (cc)) same.candidates shows;
            beside = λ b live. same.candidates (place_in state.map b);
          }) (moves_by_read call here.values),
    )
    fault_seen knows (save_fails first count text saved it any call) =
        let n = saved_before work.zone.resilience state.map.atom first in
        let more = saved_atoms work.zone.resilience state.map.atom count in (
          false,
          moves_as (λ view after tried. by_fault (calls.save_fails n more
              (part_tried work.zone.store texts.saved n more saved any it.within
              (saved_known work texts (positive here) saved_is resealed_is first count text saved knows it)
              tried))
              (beside_tried work.zone.store n more saved view after its_store it.within tried))
              (tries_moves here more it.is.size call),
        )
    fault_seen knows (open_fails stage part call) =
        let (fine, moved) = copy_fails here work.layout work.zone.opened stage call in (
          fine,
          moves_as (λ view after failed. by_fault (calls.open_fails stage failed)
              (beside_failed_copy work.zone.opened stage view after failed)) moved,
        )
    fault_seen knows (write_fails n count text next any is call) =
        let within = new_within work texts (positive here) saved_is resealed_is n count text next
        knows is in (
          false,
          moves_as (λ view after tried. by_fault (calls.write_fails n count (part_tried
              work.zone.own texts.new n count next any within (new_is n count text next knows is) tried))
              (beside_tried work.zone.own n count next view after its_own within tried))
              (tries_moves here count is.size call),
        )
    fault_seen knows (move_fails stage part call) =
        let (fine, moved) = copy_fails here work.layout work.zone.moved stage call in (
          fine,
          moves_as (λ view after failed. by_fault (calls.move_fails stage failed)
              (beside_failed_copy work.zone.moved stage view after failed)) moved,
        )
    fault_seen knows (shift_fails n count text next any is within call) = (
      false,
      moves_as
          (λ view after tried. by_fault (calls.shift_fails n count (part_tried work.zone.target
          texts.new n count next any within (new_is n count text next knows is) tried))
          (beside_tried work.zone.target n count next view after its_target within tried))
          (tries_moves here count is.size call),
    )
    fault_seen knows (turn_fails stage part call) =
        let (fine, moved) = copy_fails here work.layout work.zone.moved stage call in (
          fine,
          moves_as (λ view after failed. by_fault (calls.turn_fails stage failed)
              (beside_failed_copy work.zone.moved stage view after failed)) moved,
        )
    fault_seen knows (sync_fails phase part next call) = (
      true,
      moves_as (λ view after thinned.
          by_fault (calls.sync_fails phase thinned) (λ b live. thinned (place_in state.map b)))
          (moves_by_failed_sync call here.values),
    )
