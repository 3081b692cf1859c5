-- The device calls of an opening behind the repair: the steps by which an open zone is written again.
use Rattle.std.specs.Prelude.{ℕ, ◌≡◌, Bool, true, List, Result, Ok, Err}
use Rattle.base_terms.specs.declared.failed.Failed.{Failed}
use Rattle.resume_disk.specs.declared.midway.checking.Course.{Course}
use Rattle.resume_disk.specs.declared.midway.checking.Course.TheVariants.{Closed, Open}
use Rattle.hotzone.specs.Workers.{HasKeys, MapsFit, MayGoOn}
use Rattle.luks_store.specs.declared.loaded.Stored.{Stored}
use Rattle.sector_disk.specs.Devices.{Device, succeeded}
use Rattle.volume_machine.specs.declared.keys.Keys.{Keys}
use Rattle.image_laws.specs.Led.Holding.{TellsLawfully}
use Rattle.image_laws.specs.Led.Runs.{MendRun}
use Rattle.zone_mending.specs.Menders.{IsMending, IsNew}
use Rattle.zone_mending.specs.OpenZones.{IsMoved}
use Rattle.zone_mending.specs.declared.mender.Mender.{Mender}

-- ---- behind the checks
-- the header that was found, where no zone is open by it; else what writes the open zone again
abbrev pub header_in : {C : Type 0} → Course (Mender C) → Stored
header_in (Closed header) = header
header_in (Open mender) = mender.loaded

abbrev pub BeginsBy : {C : Type 0} → Keys C → Course (Mender C) → Type 0
BeginsBy keys (Closed header) = MayGoOn header
BeginsBy keys (Open mender) = IsNew mender.loaded keys mender

-- what a volume that is being converted asks of its header and of its keys
pub record FitsVolume {C : Type 0} (sector : C → ℕ) (header : Stored) (keys : Keys C) : Type 0
  where
    pub maps : MapsFit header
    pub keys_are : HasKeys sector header keys

-- ---- behind the repair
-- what the last step answers: true where all were made
abbrev pub last_of : Result (Unit {0}) Failed → Result Bool Failed
last_of (Ok done) = Ok true
last_of (Err failed) = Err failed

-- The zone that is open by a header is written again, and the boundary is moved over it, by a run of
-- steps of which the last one was made, or failed.
pub record MendsZone {C : Type 0} (sector : C → ℕ) (sealed opened : C → ℕ → List ℕ → List ℕ)
    (header : Stored) (keys : Keys C) (old new : Device) (result : Result (Unit {0}) Failed) : Type
    0 where
  pub before : Mender C
  pub after : Mender C
  pub is : IsMending sector before
  pub begins : IsNew header keys before
  pub moves : IsMoved header after.moved
  pub tells : TellsLawfully old
  pub run : MendRun sealed opened before old after new (last_of result)

-- Where no zone is open nothing is done, and the conversion goes on by the header that was found;
-- else the open zone is written again, and it goes on by the header with the boundary moved.
pub data LeadsTo {C : Type 0} (sector : C → ℕ) (sealed opened : C → ℕ → List ℕ → List ℕ)
    (header : Stored) (keys : Keys C) (old new : Device) (last : Stored) : Type 0 where
  rests : MayGoOn header → new ≡ old → last ≡ header
      → LeadsTo sector sealed opened header keys old new last
  mends : (zone : MendsZone sector sealed opened header keys old new succeeded)
      → last ≡ zone.after.moved.loaded → LeadsTo sector sealed opened header keys old new last
