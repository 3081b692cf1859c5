-- What the disk holds once all calls of an opening were done.
use Rattle.std.proofs.Common.{◌≡◌, ℕ, List, Option, Some, sym, ◌∙◌, subst}
use Rattle.crash_laws.specs.HeaderAreas.Headers.{IsReader}
use Rattle.base_terms.specs.declared.disk_sizes.Sizes.{Sizes}
use Rattle.sector_disk.specs.JoinedDisks.Joined.{joined_disk}
use Rattle.luks_store.specs.Copying.Meanings.{header_reader}
use Rattle.luks_store.specs.Copying.Promises.{MeanTheSame}
use Rattle.luks_store.specs.declared.header_copies.repair.Repair.{Repair}
use Rattle.luks_store.specs.Devices.{IsCertain}
use Rattle.luks_store.specs.Promises.{BothAreGood, GivenIsUsed, LoadsByMeaning, UsedStands}
use Rattle.reenc_recovery.specs.Calls.{DiskOpeningRun}
use Rattle.reenc_recovery.specs.Headers.{AnyDiskOpeningsMend, AnyOpeningsMend}
use Rattle.reenc_recovery.specs.Mended.{DiskOpeningsMend, OpeningsMend}
use Rattle.reenc_recovery.specs.Promises.{ContentsStay, ContentsStayFor}
use Rattle.reenc_recovery.specs.Tables.{ShowsSizes}
use Rattle.reenc_recovery.proofs.FoundLemmas.{found_header, fronts_keep}
use Rattle.reenc_recovery.proofs.JointCallLemmas.{disk_run}
use Rattle.reenc_recovery.proofs.RepairTableLemmas.{certain_now}
use Rattle.reenc_recovery.proofs.VolumeLemmas.{holds_after, synced_after}
use Rattle.sector_disk.specs.Cells.{content}
use Rattle.sector_disk.specs.Devices.{Device, succeeded}
use Rattle.sector_disk.specs.Steps.{Told}

certain_after : (sizes : Sizes) (repair : Option Repair) (old new : Device)
    → ShowsSizes sizes new → DiskOpeningRun repair old new succeeded → (now : List ℕ)
    → new.values ≡ Some now → (told : Told) → new.told ≡ Some told → IsCertain sizes now told.now
certain_after sizes repair old new shows run now values told is =
    let last = synced_after repair old new run told is in
    let same : content told.now ≡ now =
    (let e : Some (content told.now) ≡ Some now = sym (shows.agrees told is) ∙ values in cc) in
    subst (λ (bytes : List ℕ). IsCertain sizes bytes told.now) same
    (certain_now sizes new told last.0 shows is last.1)

pub any_mended : IsReader header_reader → MeanTheSame → UsedStands → BothAreGood → GivenIsUsed
    → LoadsByMeaning → AnyDiskOpeningsMend
any_mended is_reader mean stands both given loads sizes header repair old new shows found fronts
    shows_new run first is =
    let has = holds_after is_reader mean stands both given loads sizes header repair old new
    found.stored found.sizes_are found.begin found.room shows found.asked run first is
    (found.held first is) in
    record {
      now = has.0;
      values = has.1;
      stands = record { holds = has.2.holds; keeps = fronts first is has.0 has.2.holds };
      good = has.2.good;
      means = has.2.means;
      certain = certain_after sizes repair old new shows_new run has.0 has.1;
    }

-- of a header by which nothing is being converted
pub disk_mended : ContentsStay → ContentsStayFor → AnyDiskOpeningsMend → DiskOpeningsMend
disk_mended stay stay_for mend sizes header p repair old new shows found shows_new run first is =
    mend sizes header repair old new shows (found_header sizes header p repair old found)
    (fronts_keep stay stay_for sizes header p repair old found) shows_new run first is

-- and what joined disks hold
pub any_joined_mended : AnyDiskOpeningsMend → AnyOpeningsMend
any_joined_mended mend sizes header repair old new shows found fronts shows_new run first is =
    mend sizes header repair (joined_disk old) new shows found fronts shows_new
    (disk_run repair old new succeeded run) first is

pub mended : DiskOpeningsMend → OpeningsMend
mended mend sizes header p repair old new shows found shows_new run first is =
    mend sizes header p repair (joined_disk old) new shows found shows_new
    (disk_run repair old new succeeded run) first is
