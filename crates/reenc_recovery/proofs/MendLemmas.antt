-- The calls of a repair, as an opening makes them.
use Rattle.std.proofs.Common.{◌≡◌, inl, inr, Option, Some, Result, sym, subst}
use Rattle.std.specs.Option.{IfSome}
use Rattle.base_terms.specs.declared.failed.Failed.{Failed}
use Rattle.luks_store.specs.Copying.Held.{copy_in, place_in, repair_stage_in}
use Rattle.luks_store.specs.Copying.Steps.{RepairCall, repair_next}
use Rattle.luks_store.specs.declared.header_copies.repair.Repair.{Repair}
use Rattle.luks_store.specs.declared.header_copies.repair.RepairStage.{RepairStage}
use Rattle.luks_store.specs.declared.header_copies.repair.RepairStage.TheVariants.{Broken}
use Rattle.reenc_recovery.specs.Calls.{RepairRun, SyncsRepair, TellsSized, WritesRepair}
use Rattle.sector_disk.specs.Devices.{Device, failed_call, succeeded}

abbrev pub IsBegun : Option Repair → Type 0
IsBegun repair = IfSome repair (λ r. repair_stage_in r ≡ Broken)

module _ (repair : Option Repair) (r : Repair) (old : Device) (is : repair ≡ Some r)
    (begun : IsBegun repair) where
  stage_is : repair_stage_in r ≡ Broken
  stage_is = subst (λ (o : Option Repair). IsBegun o) is begun

  write_is : (mid : Device) (done : Result (Unit {0}) Failed)
      → RepairCall (repair_stage_in r) (copy_in r) (place_in r) old mid done
      → WritesRepair r old mid done
  write_is mid done call =
      subst (λ (stage : RepairStage). RepairCall stage (copy_in r) (place_in r) old mid done)
      stage_is call

  pub write_failed : (new : Device)
      → RepairCall (repair_stage_in r) (copy_in r) (place_in r) old new failed_call
      → RepairRun repair old new failed_call
  write_failed new call =
      subst (λ (o : Option Repair). RepairRun o old new failed_call) (sym is)
      (inl (write_is new failed_call call))

  module _ (mid : Device) (next : Repair)
      (write : RepairCall (repair_stage_in r) (copy_in r) (place_in r) old mid succeeded)
      (next_is : next ≡ record r { stage = repair_next (repair_stage_in r) })
      (sized : TellsSized mid) where
    sync_is : (new : Device) (done : Result (Unit {0}) Failed)
        → RepairCall (repair_stage_in next) (copy_in next) (place_in next) mid new done
        → SyncsRepair r old new done
    sync_is new done call = record {
      written = mid;
      write = write_is mid succeeded write;
      sized = sized;
      sync = subst (λ (stage : RepairStage).
          RepairCall (repair_next stage) (copy_in r) (place_in r) mid new done) stage_is
          (subst (λ (n : Repair). RepairCall (repair_stage_in n) (copy_in n) (place_in n) mid new
          done) next_is call);
    }

    pub all_done : (new : Device)
        → RepairCall (repair_stage_in next) (copy_in next) (place_in next) mid new succeeded
        → RepairRun repair old new succeeded
    all_done new call =
        subst (λ (o : Option Repair). RepairRun o old new succeeded) (sym is)
        (sync_is new succeeded call)

    pub sync_failed : (new : Device)
        → RepairCall (repair_stage_in next) (copy_in next) (place_in next) mid new failed_call
        → RepairRun repair old new failed_call
    sync_failed new call =
        subst (λ (o : Option Repair). RepairRun o old new failed_call) (sym is)
        (inr (sync_is new failed_call call))
