use Rattle.std.proofs.Common.{Result, length}
use Rattle.base_terms.specs.declared.failed.Failed.{Failed}
use Rattle.luks_store.proofs.SlotCommits.CallLemmas.{AreSame}
use Rattle.luks_store.specs.SlotCommits.Calls.{MakesCalls, calls_from}
use Rattle.sector_disk.specs.JoinedDisks.Counts.{HasSizes}
use Rattle.luks_store.specs.Copying.Held.{stage_in}
use Rattle.sector_disk.specs.Devices.{Device}
use Rattle.luks_store.proofs.slot_commit.writing.write_copies.Given as goal

-- whatever the calls do that are left, those from the first on do
abbrev pub invariant-calls : goal.invariant-calls
invariant-calls g l =
    let device = g.D.Disk.device in
    let first = l.initial.slot in
    record {
      goes : (new : Device) (result : Result (Unit {0}) Failed)
          → MakesCalls first (calls_from (stage_in l.slot.commit.copies)) (device l.disk) new
          result
          → MakesCalls first (calls_from (stage_in first.commit.copies)) (device l.initial.disk)
          new result;
      sizes : HasSizes l.slot.commit.sizes (device l.disk);
      same : AreSame first.commit l.slot.commit;
    }

abbrev pub decreases-calls : goal.decreases-calls
decreases-calls g l = length (calls_from (stage_in l.slot.commit.copies))
