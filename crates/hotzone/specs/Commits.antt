-- One call of a commit, as a worker makes it beside other work.
use Rattle.std.specs.Prelude.{◌≡◌, Bool, Result, IfOk}
use Rattle.base_terms.specs.declared.failed.Failed.{Failed}
use Rattle.luks_store.specs.Copying.Held.{primary_of, secondary_of, stage_in}
use Rattle.luks_store.specs.Copying.Steps.{CopyCall, done_of, is_last, stage_after}
use Rattle.luks_store.specs.Commits.{committed}
use Rattle.luks_store.specs.declared.commit.Prepared.{Prepared}
use Rattle.sector_disk.specs.Devices.{Device}
use Rattle.sector_disk.specs.JoinedDisks.Counts.{HasSizes}

pub record StepsCommit (before after : Prepared) (old new : Device) (result : Result Bool Failed)
    : Type 0 where
  pub call : CopyCall (stage_in before.copies) (primary_of before.copies)
      (secondary_of before.copies) before.header.hdr_size old new (done_of result)
  pub sizes : HasSizes after.sizes new
  pub last : IfOk result (λ last. last ≡ is_last (stage_in before.copies))
  pub stage : stage_in after.copies ≡ stage_after (stage_in before.copies) result
  pub first : primary_of after.copies ≡ primary_of before.copies
  pub second : secondary_of after.copies ≡ secondary_of before.copies
  pub same : committed after ≡ committed before
