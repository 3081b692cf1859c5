-- The count of failed calls of a disk never falls while a volume is opened on it that is being converted.
use Rattle.std.proofs.Common.{◌≡◌, ◌≤◌, ℕ, Bool, false, true, List, Option, None, Some, Result, Ok, Err}
use Rattle.std.proofs.Common.{ap, arith}
use Rattle.base_terms.specs.declared.failed.Failed.{Failed}
use Rattle.resume_disk.specs.OpenedMidway.Openings.{IsOpenedOf}
use Rattle.resume_disk.specs.OpenedMidway.Runs.{LeadsTo, last_of, mends, rests}
use Rattle.base_terms.specs.declared.disk_sizes.Sizes.{Sizes}
use Rattle.sector_disk.specs.JoinedDisks.Joined.{Joint, joined_disk}
use Rattle.luks_store.specs.Copying.Steps.{CopyCall}
use Rattle.luks_store.specs.declared.header_copies.commit.Stage.{Stage}
use Rattle.luks_store.specs.declared.header_copies.commit.Stage.TheVariants.{Begun, Ended, FirstKept}
use Rattle.luks_store.specs.declared.header_copies.commit.Stage.TheVariants.{FirstWritten, SecondWritten}
use Rattle.luks_store.specs.Copying.Held.{primary_of, secondary_of, stage_in}
use Rattle.luks_store.specs.declared.header_copies.repair.Repair.{Repair}
use Rattle.luks_store.specs.declared.commit.Prepared.{Prepared}
use Rattle.luks_store.specs.declared.loaded.Stored.{Stored}
use Rattle.reenc_recovery.specs.Calls.{RepairRun}
use Rattle.reenc_recovery.specs.declared.keys.SideKeys.{SideKeys}
use Rattle.sector_disk.specs.Devices.{Device, succeeded}
use Rattle.volume_machine.specs.Seals.{Seals}
use Rattle.volume_machine.specs.States.{State}
use Rattle.volume_machine.specs.declared.keys.Keys.{Keys}
use Rattle.image_laws.specs.Led.Runs.{MendRun, none, one_more}
use Rattle.zone_mending.specs.Steps.{Fails, Goes, Steps, ends, find_fails, finds, lay_fails, lays}
use Rattle.zone_mending.specs.Steps.{move_fails, moves, read_fails, reads, settle_fails, settles}
use Rattle.zone_mending.specs.Steps.{write_fails, writes}
use Rattle.zone_mending.specs.declared.mender.Mender.{Mender}

-- two stages, one behind the other
later_twice : {a b c : ℕ} → a ≤ b → b ≤ c → a ≤ c
later_twice one two = omega (arith, one, two)

same_later : {a b : ℕ} → b ≡ a → a ≤ b
same_later same = omega (arith, same)

-- ---- a call of a commit
copy_later : (stage : Stage) (first second : List ℕ) (size : ℕ) (old new : Device)
    (result : Result (Unit {0}) Failed) → CopyCall stage first second size old new result
    → old.faults ≤ new.faults
copy_later Begun first second size old new result call = call.cause.later
copy_later FirstWritten first second size old new result call = call.cause.later
copy_later FirstKept first second size old new result call = call.cause.later
copy_later SecondWritten first second size old new result call = call.cause.later
copy_later Ended first second size old new result call = absurd call

commit_later : (commit : Prepared) (old new : Device) (result : Result (Unit {0}) Failed)
    → CopyCall (stage_in commit.copies) (primary_of commit.copies) (secondary_of commit.copies)
    commit.header.hdr_size old new result → old.faults ≤ new.faults
commit_later commit old new result call =
    copy_later (stage_in commit.copies) (primary_of commit.copies) (secondary_of commit.copies)
    commit.header.hdr_size old new result call

-- ---- a step by which a zone is written again
module _ {C : Type 0} (seals : Seals) (old new : Device) (before after : Mender C) where
  goes_later : {last : Bool} → Goes seals old new before after last → old.faults ≤ new.faults
  goes_later (reads done guard next call filled) = call.cause.later
  goes_later (lays done guard next call laid) = call.cause.later
  goes_later (finds done next call filled) = call.cause.later
  goes_later (writes done next call filled) = call.call.cause.later
  goes_later (settles next call is) = call.cause.later
  goes_later (moves commit next call committed more is) =
      commit_later before.moved.commit old new succeeded call
  goes_later (ends commit next call committed last is) =
      commit_later before.moved.commit old new succeeded call

  fails_later : Fails seals old new before after → old.faults ≤ new.faults
  fails_later (read_fails done guard next call is) = call.cause.later
  fails_later (lay_fails done guard next call is) = call.cause.later
  fails_later (find_fails done next call is) = call.cause.later
  fails_later (write_fails done next call is) = call.call.cause.later
  fails_later (settle_fails next call is) = call.cause.later
  fails_later (move_fails next call is) = commit_later before.moved.commit old new _ call

  step_later : (result : Result Bool Failed) → Steps seals old new before after result
      → old.faults ≤ new.faults
  step_later (Ok last) step = goes_later step
  step_later (Err failed) step = fails_later step

run_later : {C : Type 0} {sealed opened : C → ℕ → List ℕ → List ℕ} (first : Mender C)
    (old : Device) (after : Mender C) (new : Device) (result : Result Bool Failed)
    → MendRun sealed opened first old after new result → old.faults ≤ new.faults
run_later first old after new result none = omega arith
run_later first old after new result (one_more before last at end answer run step tells) =
    later_twice (run_later first old before at (Ok false) run)
    (step_later _ at end before last answer step)

-- ---- an opening
repair_later : (repair : Option Repair) (old new : Device) → RepairRun repair old new succeeded
    → old.faults ≤ new.faults
repair_later None old new same = same_later (ap (λ (d : Device). d.faults) same)
repair_later (Some repair) old new run =
    later_twice run.write.cause.later run.sync.cause.later

leads_later : {C : Type 0} {sector : C → ℕ} {sealed opened : C → ℕ → List ℕ → List ℕ}
    (header : Stored) (keys : Keys C) (old new : Device) (last : Stored)
    → LeadsTo sector sealed opened header keys old new last → old.faults ≤ new.faults
leads_later header keys old new last (rests may same is) =
    same_later (ap (λ (d : Device). d.faults) same)
leads_later header keys old new last (mends zone is) =
    run_later zone.before old zone.after new (Ok true) zone.run

pub opened_later : {C : Type 0} {sector : C → ℕ} {sealed opened : C → ℕ → List ℕ → List ℕ}
    (sizes : Sizes) (handed : SideKeys) (lanes : ℕ) (old : Joint) (volume : State (Keys C))
    → IsOpenedOf sector sealed opened sizes handed lanes old volume
    → (joined_disk old).faults ≤ volume.disk.faults
opened_later sizes handed lanes old volume is =
    let first = is.first.sync.cause.later in
    let read = is.first.unwritten.later in
    let repaired = repair_later is.found.repair (joined_disk is.read) is.led.mended is.led.repairs in
    let led = leads_later is.found.header is.found.keys is.led.mended volume.disk is.led.last
    is.led.leads in
    later_twice (later_twice first read) (later_twice repaired led)
