-- One call of a worker that has none at hand: what it needs, and what it comes to.
use Rattle.std.specs.Prelude.{ℕ, ◌≡◌, ◌<◌, ◌≤◌, ◌↔◌, length, IfOk, Result, Ok, Err, Some, None}
use Rattle.hotzone.specs.Endings.{AreWipable, MayFinishFrom}
use Rattle.hotzone.specs.Headings.{MayOpenFrom}
use Rattle.hotzone.specs.Sites.{IsPartStart, count_of}
use Rattle.hotzone.specs.Steps.{Goes, HasMoved, Steps, Stops}
use Rattle.hotzone.specs.Workers.{FitsDisk, IsDone, IsWorking, MayCommit, MayGoOn}
use Rattle.hotzone.specs.declared.site.Site.{Site}
use Rattle.hotzone.specs.declared.steps.Made.{Made}
use Rattle.hotzone.specs.declared.steps.Stop.{Stop}
use Rattle.hotzone.specs.declared.worker.NextCall.{NextCall}
use Rattle.hotzone.specs.declared.worker.NextCall.TheVariants.{SaveFirst, Read}
use Rattle.hotzone.specs.declared.worker.NextCall.TheVariants.{Save, Open, ReadAgain, Write}
use Rattle.hotzone.specs.declared.worker.NextCall.TheVariants.{Move, Finish, End, Wipe}
use Rattle.hotzone.specs.declared.worker.NextCall.TheVariants.{Over}
use Rattle.hotzone.specs.declared.worker.Headers.{Headers}
use Rattle.hotzone.specs.declared.worker.Stepped.{Stepped}
use Rattle.hotzone.specs.declared.worker.Stepped.TheVariants.{Went, ZoneDone, AllDone}
use Rattle.hotzone.specs.declared.worker.Worker.{Worker}
use Rattle.hotzone.specs.declared.worker.ZoneFault.{ZoneFault}
use Rattle.sector_disk.specs.JoinedDisks.Counts.{HasSizes}
use Rattle.reenc_meta.specs.Placements.{all_atoms}
use Rattle.sector_disk.specs.Devices.{Device}
use Rattle.sector_disk.specs.Geometry.{IsDisk}
use Rattle.volume_machine.specs.Seals.{Seals}

-- the call is a step of the worker with it at hand
abbrev pub MakesBy : {C : Type 0} → Seals → Device → Device → Worker C → Worker C
    → Result Stepped Stop → Type 0
MakesBy seals old new before after (Ok stepped) = Goes seals old new before after stepped
MakesBy seals old new before after (Err stop) =
    Stops seals old new before (record after { halted = Some stop.halt }) stop.fault

abbrev pub Makes : {C : Type 0} → Seals → Device → Device → Worker C → NextCall → Worker C → Made
    → Type 0
Makes seals old new before call after made =
    MakesBy seals old new (record before { next = call }) (record after { next = made.next })
    made.answer

-- ---- behind a call of the commit that moves the boundary: the last one, and another one
pub record IsZoneDone {C : Type 0} (before : Worker C) (headers : Headers) (after : Worker C)
    (made : Made) : Type 0 where
  pub moved : HasMoved before (record after { next = made.next }) headers.moved.loaded
  pub answer : made.answer ≡ Ok ZoneDone

pub record GoesOn {C : Type 0} (before : Worker C) (headers : Headers) (after : Worker C)
    (made : Made) : Type 0 where
  pub same : after ≡ before
  pub next : made.next ≡ Move headers
  pub answer : made.answer ≡ Ok Went

-- ---- what a call needs
abbrev pub Asks : {C : Type 0} → Worker C → Device → NextCall → Type 0
Asks worker disk SaveFirst = MayOpenFrom worker.loaded (count_of worker.site)
Asks worker disk (Read done headers) = done < count_of worker.site
Asks worker disk (Save done headers) =
    (done < count_of worker.site) × IsPartStart worker.site done
Asks worker disk (Open headers) = MayCommit headers.opened disk
Asks worker disk (ReadAgain done headers) = done < count_of worker.site
Asks worker disk (Write done headers) = done < count_of worker.site
Asks worker disk (Move headers) =
    MayCommit headers.moved.commit disk × MayGoOn headers.moved.loaded
    × IsDisk headers.moved.loaded.valid.sizes.atom (all_atoms headers.moved.loaded.valid.sizes)
Asks worker disk Finish = MayFinishFrom worker.loaded
Asks worker disk (End ending) = MayCommit ending.commit disk
Asks worker disk (Wipe done ending) =
    (done < length ending.wipes.areas) × AreWipable ending.wipes disk
Asks worker disk (Over ending) = ⊥
Asks worker disk _ = Unit {0}

pub record MayMake {C : Type 0} (sector : C → ℕ) (worker : Worker C) (disk : Device)
    (call : NextCall) : Type 0 where
  pub fits : FitsDisk sector worker disk
  pub known : IsDisk worker.loaded.valid.sizes.atom (all_atoms worker.loaded.valid.sizes)
  pub sizes : HasSizes worker.loaded.valid.sizes disk
  pub asks : Asks worker disk call

-- ---- what a call has come to is put into the worker
abbrev pub IsPut : {C : Type 0} → Worker C → NextCall → Worker C → Result Stepped Stop
    → Result Stepped ZoneFault → Type 0
IsPut before next after (Ok stepped) result =
    (after ≡ record before { next = next }) × (result ≡ Ok stepped)
IsPut before next after (Err stop) result =
    (after ≡ record before { next = next; halted = Some stop.halt }) × (result ≡ Err stop.fault)

-- a zone of no more blocks, which is guarded alike
pub record IsNoLonger (before after : Site) : Type 0 where
  pub atom : after.atom ≡ before.atom
  pub guard : after.guard ≡ before.guard
  pub fewer : count_of after ≤ count_of before

-- a step, and what holds behind it
pub record HasStepped {C : Type 0} (sector : C → ℕ) (seals : Seals) (old new : Device)
    (before after : Worker C) (result : Result Stepped ZoneFault) : Type 0 where
  pub working : IsWorking sector after
  pub steps : Steps seals old new before after result
  pub sizes : HasSizes after.loaded.valid.sizes new
  pub site : IsNoLonger before.site after.site
  pub went : IfOk result (λ stepped. after.halted ≡ None)
  pub over : IfOk result (λ stepped. (stepped ≡ AllDone) ↔ IsDone after.next)
