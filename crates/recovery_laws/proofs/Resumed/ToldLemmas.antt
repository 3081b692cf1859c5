-- Tables that a disk tells behind steps of a worker it told before them.
use Rattle.std.proofs.Common.{◌≡◌, ◌∷◌, ℕ, List, [], Some, inl, inr, subst, sym, ap, ◌∙◌}
use Rattle.crash_laws.specs.HeaderAreas.Commits.{Stage, begun, first_kept, first_written, second_written}
use Rattle.crash_laws.specs.HeaderAreas.Headers.{Header, Layout}
use Rattle.recovery_laws.proofs.Resumed.WorkerDeeds.{AreWorks, cons-not-nil, head-same, tail-same}
use Rattle.sector_disk.specs.Cells.{Cell}
use Rattle.sector_disk.specs.Devices.{Device, ReadCall, SyncCall, WriteCall, failed_call, succeeded}
use Rattle.sector_disk.specs.Steps.{Moves, MovesOrNot, Told}
use Rattle.volume_machine.specs.Deeds.{Act, AreDeeds, Deed, Does, state_after, worker}
use Rattle.volume_machine.specs.Readings.{Reading}
use Rattle.volume_machine.specs.Seals.{Seals}
use Rattle.volume_machine.specs.States.{State}
use Rattle.volume_machine.specs.WorkCalls.{PutsCopy, StepFails, ZoneStep, arrives, keeps}
use Rattle.volume_machine.specs.WorkCalls.{move_fails, moves, open_fails, opens, read_fails, reads}
use Rattle.volume_machine.specs.WorkCalls.{save_fails, saves, settles, shift_fails, shifts}
use Rattle.volume_machine.specs.WorkCalls.{sync_fails, turn_fails, turns, write_fails, writes}
use Rattle.volume_machine.specs.WorkSteps.{WorkStep, Worked, begins, concludes, ends, ends_zone, faults}
use Rattle.volume_machine.specs.WorkSteps.{is_hindered, is_unfinished, leaves_blocks, leaves_broken}
use Rattle.volume_machine.specs.WorkSteps.{misses_conclusion, misses_part, misses_wipe, opens_zone}
use Rattle.volume_machine.specs.WorkSteps.{queues, stays, steps, takes, wiped, wipes}
use Rattle.volume_machine.specs.Works.{Part, Work}
use Rattle.crash_laws.specs.HotZones.Zones.{Phase}

-- a disk tells its tables
abbrev pub IsTold : Device → Type 0
IsTold device = (told : Told) × (device.told ≡ Some told)

-- ---- calls
moved-back : (Step : List Cell → List Cell → Type 0) (old new : Device)
    → Moves Step old.told new.told → IsTold new → IsTold old
moved-back Step old new made (told, is) = let m = made told is in (m.0, m.1)

maybe-back : (Step : List Cell → List Cell → Type 0) (old new : Device)
    → MovesOrNot Step old.told new.told → IsTold new → IsTold old
maybe-back Step old new (inl same) (told, is) = (told, sym same ∙ is)
maybe-back Step old new (inr made) is = moved-back Step old new made is

same-back : (old new : Device) → new ≡ old → IsTold new → IsTold old
same-back old new same is = subst IsTold same is

read-back : (atom at : ℕ) (text : List ℕ) (old new : Device)
    → ReadCall atom at text old new succeeded → IsTold new → IsTold old
read-back atom at text old new call is = moved-back _ old new call.told is

read-fail-back : (atom at : ℕ) (text : List ℕ) (old new : Device)
    → ReadCall atom at text old new failed_call → IsTold new → IsTold old
read-fail-back atom at text old new call is = maybe-back _ old new call.told is

write-back : (atom at : ℕ) (text : List ℕ) (old new : Device)
    → WriteCall atom at text old new succeeded → IsTold new → IsTold old
write-back atom at text old new call is = moved-back _ old new call.told is

write-fail-back : (atom at : ℕ) (text : List ℕ) (old new : Device)
    → WriteCall atom at text old new failed_call → IsTold new → IsTold old
write-fail-back atom at text old new call is = maybe-back _ old new call.told is

sync-back : (old new : Device) → SyncCall old new succeeded → IsTold new → IsTold old
sync-back old new call is = moved-back _ old new call.told is

sync-fail-back : (old new : Device) → SyncCall old new failed_call → IsTold new → IsTold old
sync-fail-back old new call is = maybe-back _ old new call.told is

copy-back : (atom : ℕ) (layout : Layout) (to : Header (List ℕ)) (stage : Stage) (old new : Device)
    → PutsCopy atom layout to stage old new succeeded → IsTold new → IsTold old
copy-back atom layout to begun old new puts is = write-back atom _ _ old new puts.call is
copy-back atom layout to first_written old new call is = sync-back old new call is
copy-back atom layout to first_kept old new puts is = write-back atom _ _ old new puts.call is
copy-back atom layout to second_written old new call is = sync-back old new call is

copy-fail-back : (atom : ℕ) (layout : Layout) (to : Header (List ℕ)) (stage : Stage)
    (old new : Device) → PutsCopy atom layout to stage old new failed_call → IsTold new → IsTold old
copy-fail-back atom layout to begun old new puts is = write-fail-back atom _ _ old new puts.call is
copy-fail-back atom layout to first_written old new call is = sync-fail-back old new call is
copy-fail-back atom layout to first_kept old new puts is =
    write-fail-back atom _ _ old new puts.call is
copy-fail-back atom layout to second_written old new call is = sync-fail-back old new call is

-- ---- steps of a zone
zone-back : (seals : Seals) (atom : ℕ) (work : Work) (old new : Device) (phase next : Phase)
    (part after : Part) → ZoneStep seals atom work old new phase part next after → IsTold new
    → IsTold old
zone-back seals atom work old new phase next part after (reads p first count text n c some size call) is =
    read-back atom _ text old new call is
zone-back seals atom work old new phase next part after (saves first count text saved s some call) is =
    write-back atom _ saved old new call is
zone-back seals atom work old new phase next part after (keeps p call) is = sync-back old new call is
zone-back seals atom work old new phase next part after (opens stage p unlike call) is =
    copy-back atom work.layout work.zone.opened stage old new call is
zone-back seals atom work old new phase next part after (writes n count text anew some re call) is =
    write-back atom _ anew old new call is
zone-back seals atom work old new phase next part after (settles p call) is = sync-back old new call is
zone-back seals atom work old new phase next part after (moves stage p unlike call) is =
    copy-back atom work.layout work.zone.moved stage old new call is
zone-back seals atom work old new phase next part after (shifts n count text anew some re room call)
    is = write-back atom _ anew old new call is
zone-back seals atom work old new phase next part after (arrives p call) is = sync-back old new call is
zone-back seals atom work old new phase next part after (turns stage p unlike call) is =
    copy-back atom work.layout work.zone.moved stage old new call is

fails-back : (seals : Seals) (atom : ℕ) (work : Work) (old new : Device) (phase next : Phase)
    (part : Part) → StepFails seals atom work old new phase part next → IsTold new → IsTold old
fails-back seals atom work old new phase next part (read_fails p first text behind call) is =
    read-fail-back atom _ text old new call is
fails-back seals atom work old new phase next part (save_fails first count text saved s some call) is =
    write-fail-back atom _ saved old new call is
fails-back seals atom work old new phase next part (open_fails stage p call) is =
    copy-fail-back atom work.layout work.zone.opened stage old new call is
fails-back seals atom work old new phase next part (write_fails n count text anew some re call) is =
    write-fail-back atom _ anew old new call is
fails-back seals atom work old new phase next part (move_fails stage p call) is =
    copy-fail-back atom work.layout work.zone.moved stage old new call is
fails-back seals atom work old new phase next part
    (shift_fails n count text anew some re room call) is =
    write-fail-back atom _ anew old new call is
fails-back seals atom work old new phase next part (turn_fails stage p call) is =
    copy-fail-back atom work.layout work.zone.moved stage old new call is
fails-back seals atom work old new phase next part (sync_fails ph p to call) is =
    sync-fail-back old new call is

-- ---- steps of the worker
step-back : {K : Type 0} {reading : Reading} {seals : Seals} (old new : State K) (worked : Worked)
    → WorkStep reading seals old new worked → IsTold new.disk → IsTold old.disk
step-back old new worked (takes grant it) is = same-back old.disk new.disk it.admitted.rests is
step-back old new worked (queues lane it) is = same-back old.disk new.disk it.admitted.rests is
step-back {K} old new worked (stays lane it) is =
    same-back old.disk new.disk (ap (λ (s : State K). s.disk) it.same) is
step-back old new worked (begins it) is = sync-back old.disk new.disk it.call is
step-back {seals = seals} old new worked (steps it) is =
    zone-back seals old.map.atom _ old.disk new.disk it.work.phase it.phase it.work.part it.part it.step
    is
step-back old new worked (opens_zone it) is = sync-back old.disk new.disk it.call is
step-back old new worked (ends_zone it) is = sync-back old.disk new.disk it.call is
step-back old new worked (leaves_blocks it) is = same-back old.disk new.disk it.rests is
step-back old new worked (concludes it) is =
    copy-back old.map.atom it.layout it.next begun old.disk new.disk it.call is
step-back old new worked (wipes it) is =
    write-back old.map.atom _ _ old.disk new.disk it.call.call is
step-back old new worked (wiped it) is = sync-back old.disk new.disk it.call is
step-back {K} old new worked (ends it) is =
    same-back old.disk new.disk (ap (λ (s : State K). s.disk) it.same) is
step-back old new worked (misses_part it) is =
    read-fail-back old.map.atom _ it.text old.disk new.disk it.call is
step-back old new worked (is_hindered cause it) is = same-back old.disk new.disk it.rests is
step-back {K} old new worked (is_unfinished cause it) is =
    same-back old.disk new.disk (ap (λ (s : State K). s.disk) it.same) is
step-back {seals = seals} old new worked (faults it) is =
    fails-back seals old.map.atom it.work old.disk new.disk it.work.phase it.phase it.work.part it.fails
    is
step-back old new worked (misses_conclusion it) is =
    copy-fail-back old.map.atom it.layout it.next begun old.disk new.disk it.call is
step-back old new worked (misses_wipe it) is =
    write-fail-back old.map.atom _ _ old.disk new.disk it.call.call is
step-back old new worked (leaves_broken it) is = same-back old.disk new.disk it.rests is

-- ---- runs of them
pub told-back : {K : Type 0} (reading : Reading) (seals : Seals) (old : State K)
    (deeds : List (Deed K)) → AreDeeds reading seals old deeds → AreWorks deeds
    → IsTold (state_after old deeds).disk → IsTold old.disk
unfolding AreDeeds state_after
told-back reading seals old [] are works is = is
told-back reading seals old (one ∷ rest) are ([], same) is = absurd (cons-not-nil same)
told-back reading seals old (one ∷ rest) (does, are) (w ∷ works, same) is =
    let first : one.act ≡ worker w = head-same same in
    step-back old one.after w
    (subst (λ (act : Act). Does reading seals old act one.after) first does)
    (told-back reading seals one.after rest are (works, tail-same same) is)
