-- What `status` did.
use Rattle.std.specs.Prelude.{ℕ, ◌≡◌, List, Option, Some, None, Result, Ok, Err, IfErr}
use Rattle.command_line.specs.Commands.{Showing}
use Rattle.header_report.specs.Examinations.{IsReadAlone, Tells}
use Rattle.luks_store.specs.Loads.{HasCause}
use Rattle.luks_store.specs.declared.fault.StoreFault.{StoreFault}
use Rattle.sector_disk.specs.Devices.{Device as DiskState}
use Rattle.reenc_tool.specs.declared.ended.Cause.TheVariants.{Fine}
use Rattle.reenc_tool.specs.Asking.{BayView, GivesLast, disk_to_read}
use Rattle.reenc_tool.specs.Outcomes.{EndsSilently, Outcome, ended_with}
use Rattle.reenc_tool.specs.Status.{cause_of_store}

-- what a command hands back that read a header, and what it says; of the disk so many calls failed
abbrev pub shown : {D L : Type 0} → D → ℕ → Result (List ℕ) StoreFault → Outcome D L
shown {D} {L} disk faults (Ok text) = ended_with Fine (Some disk) None
shown {D} {L} disk faults (Err fault) =
    record (ended_with {D = D} {L = L} (cause_of_store fault faults) (Some disk) None) {
      fault = Some fault;
    }

abbrev pub report_in : Result (List ℕ) StoreFault → Option (List ℕ)
report_in (Ok text) = Some text
report_in (Err fault) = None

-- The disk was read and nothing else, and is handed back. What its header says is the report, or
-- the cause says why there is none.
pub record IsShown {D L : Type 0} (device : D → DiskState) (disk : D) (outcome : Outcome D L)
    (report : Option (List ℕ)) : Type 0 where
  pub back : D
  pub told : Result (List ℕ) StoreFault
  pub tells : Tells (device disk) told
  pub read : IsReadAlone (device disk) (device back)
  pub cause : IfErr told (λ fault. HasCause (device disk) (device back) fault)
  pub outcome_is : outcome ≡ shown back (device back).faults told
  pub report_is : report ≡ report_in told

-- What `status` did: it asked for the disk, to be read alone, and for nothing else.
abbrev pub HasShown : {B D L : Type 0} → BayView B D L → Showing → B → B → Outcome D L
    → Option (List ℕ) → Type 0
HasShown bay show old new outcome report =
    GivesLast bay (disk_to_read bay show.disk show.atom) old new
    (λ disk. IsShown bay.device disk outcome report) (EndsSilently None None outcome report)
