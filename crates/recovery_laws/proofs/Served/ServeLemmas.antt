-- A volume whose conversion was taken up stands for what its disk stood for, while clients use it.
use Rattle.std.proofs.Common.{◌≡◌, inl, inr, ℕ, List, ◌++◌, Some}
use Rattle.header_report.specs.Examinations.{sizes_alone}
use Rattle.luks_store.specs.Promises.{AreasBeginBehind, FrontsAreLoaded}
use Rattle.luks_store.specs.declared.loaded.Stored.{Stored}
use Rattle.resume_disk.specs.Resuming.{IsOpenedMidway}
use Rattle.recovery_laws.specs.Resumed.Openings.{IsKnownBehind, OpeningsKeepContent}
use Rattle.recovery_laws.specs.Resumed.Resuming.{IsTakenUp, TakenUpConversionsBegin}
use Rattle.recovery_laws.specs.Resumed.Starts.{BegunConversionsStart, layout_on}
use Rattle.sector_disk.specs.Devices.{Device}
use Rattle.sector_disk.specs.Steps.{Told}
use Rattle.recovery_laws.proofs.Served.StartLemmas.{lies-fresh, lies-sound, starts-for}
use Rattle.recovery_laws.proofs.Served.StopLemmas.{stands-along}
use Rattle.recovery_laws.specs.Served.Clients.{StoodFor, without_work}
use Rattle.recovery_laws.specs.Served.Serving.{KeepsFor, TakenVolumesKeepContent}
use Rattle.volume_laws.specs.Executing.{TellsRun}
use Rattle.volume_laws.specs.Promises.{GoesByEvents}
use Rattle.volume_laws.specs.Rest.{KeepsRest}
use Rattle.volume_machine.specs.Beginnings.{IsFresh}
use Rattle.volume_machine.specs.Runs.{Happening, IsRun, last_of}
use Rattle.volume_machine.specs.Sound.{IsSound}
use Rattle.volume_machine.specs.States.{State}
use Rattle.volume_machine.specs.Working.{KeepsApart}
use Rattle.volume_machine.specs.declared.keys.Keys.{Keys}
use Rattle.volume_opening.specs.Openings.{alone}
use Rattle.hotzone.specs.ZoneEvents.Heads.{header_on}

-- the laws that are cited
pub record ServingLaws {C : Type 0} (sector : C → ℕ) (sealed opened : C → ℕ → List ℕ → List ℕ)
    : Type 1 where
  pub keeps : OpeningsKeepContent sector sealed opened
  pub begins : TakenUpConversionsBegin sector sealed opened
  pub start : BegunConversionsStart sector sealed opened
  pub rest : (start : State (Keys C)) (run : List (Happening (Keys C))) (now : Told) → IsSound start
      → KeepsApart start → IsRun start run → (last_of start run).disk.told ≡ Some now
      → KeepsRest start now
  pub goes : (start : State (Keys C)) (earlier later : List (Happening (Keys C))) → IsFresh start
      → IsRun start (earlier ++ later) → GoesByEvents start earlier
  pub tables : (start : State (Keys C)) (run : List (Happening (Keys C))) (now : Told)
      → IsRun start run → (last_of start run).disk.told ≡ Some now → TellsRun start run now
  pub areas : AreasBeginBehind
  pub fronts : FrontsAreLoaded

module _ {C : Type 0} {sector : C → ℕ} {sealed opened : C → ℕ → List ℕ → List ℕ}
    (laws : ServingLaws sector sealed opened) (device : Device) (pass : List ℕ) (lanes : ℕ)
    (volume : State (Keys C))
    (taken : IsOpenedMidway sector sealed opened device pass lanes volume)
    (first old_key new_key : List ℕ) (content : List (List ℕ)) (run : List (Happening (Keys C)))
    (stood : StoodFor (sizes_alone device) taken.keys device first old_key new_key content)
    (is_run : IsRun (without_work volume) run) where
  abbrev up : IsTakenUp sector sealed opened (sizes_alone device) taken.keys lanes (alone taken.read)
      volume content
  up = record {
    first = first;
    old_key = old_key;
    new_key = new_key;
    opens = record {
      has = taken.begins.has;
      shows = taken.begins.shows;
      values = taken.begins.shown first stood.told;
      long = taken.begins.long first stood.told;
      handed_in = stood.handed_in;
      stands = stood.stands;
    };
    is = taken.calls;
    order = taken.order;
  }

  -- a disk that tells its tables behind the run told them before it
  behind : IsKnownBehind taken.calls.found.header (last_of (without_work volume) run).disk
      → IsKnownBehind taken.calls.found.header volume.disk
  behind (inl may) = inl may
  behind (inr (told, is)) =
      (let was = laws.tables (without_work volume) run told is_run is in inr (was.before, was.was))

  module _ (known : IsKnownBehind taken.calls.found.header (last_of (without_work volume) run).disk)
    where
      pub keeps-for : KeepsFor sector sealed opened device pass lanes volume taken old_key new_key
          content run
      keeps-for =
          let sizes = sizes_alone device in
          let here = laws.begins sizes taken.keys lanes (alone taken.read) volume content up
          (behind known) in
          let last : Stored = taken.calls.led.last in
          let starts = laws.start sizes last lanes old_key new_key here.0 volume content here.2 here.1
          in
          let fresh = lies-fresh sector sealed opened device pass lanes volume taken in
          let sound = lies-sound sector sealed opened device pass lanes volume taken in
          record {
            since = (laws.keeps sizes taken.keys lanes (alone taken.read) volume first old_key new_key
                content up.opens taken.calls).0;
            starts = starts-for sealed opened sizes old_key new_key content (layout_on sizes last)
                (header_on last) here.0 volume fresh sound starts.0 starts.1 here.1;
            along = stands-along sizes last lanes old_key new_key here.0 content volume here.2 here.1
                starts.0.lawful sound fresh
                (laws.rest (without_work volume)) (laws.goes (without_work volume)) laws.areas
                laws.fronts run is_run;
          }

pub taken-keep : {C : Type 0} {sector : C → ℕ} {sealed opened : C → ℕ → List ℕ → List ℕ}
    → ServingLaws sector sealed opened → TakenVolumesKeepContent sector sealed opened
taken-keep laws device pass lanes volume taken first old_key new_key content run stood is_run known =
    keeps-for laws device pass lanes volume taken first old_key new_key content run stood is_run known
