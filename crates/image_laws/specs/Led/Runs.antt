-- Runs of the steps by which an open zone is written again.
use Rattle.std.specs.Prelude.{ℕ, Bool, false, List, Result, Ok}
use Rattle.base_terms.specs.declared.failed.Failed.{Failed}
use Rattle.sector_disk.specs.Devices.{Device}
use Rattle.image_laws.specs.Led.Holding.{TellsLawfully}
use Rattle.zone_mending.specs.Promises.{seals_in}
use Rattle.zone_mending.specs.Steps.{Steps}
use Rattle.zone_mending.specs.declared.mender.Mender.{Mender}

-- No step yet; or one behind steps that were made, none of them the last. A run has the answer of
-- its last step: another is to come, all are made, or it failed.
pub data MendRun {C : Type 0} (seal unseal : C → ℕ → List ℕ → List ℕ) (first : Mender C)
    (old : Device) : Mender C → Device → Result Bool Failed → Type 0 where
  none : MendRun seal unseal first old first old (Ok false)
  one_more : (before after : Mender C) (at new : Device) (result : Result Bool Failed)
      → MendRun seal unseal first old before at (Ok false)
      → Steps (seals_in seal unseal before) at new before after result → TellsLawfully new
      → MendRun seal unseal first old after new result
