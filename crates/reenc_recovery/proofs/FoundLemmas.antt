-- The laws of openings of a header by which nothing is being converted are those of any header; and
-- those of joined disks are those of one.
use Rattle.std.proofs.Common.{Option}
use Rattle.base_terms.specs.declared.disk_sizes.Sizes.{Sizes}
use Rattle.sector_disk.specs.JoinedDisks.Joined.{joined_disk}
use Rattle.luks_store.specs.declared.header_copies.repair.Repair.{Repair}
use Rattle.luks_store.specs.declared.loaded.Stored.{Stored}
use Rattle.reenc_meta.specs.declared.placement.Placement.{Placement}
use Rattle.reenc_recovery.specs.Headers.{DiskOpeningsKeepHeaders, FrontsKeep, IsFoundHeader}
use Rattle.reenc_recovery.specs.Headers.{OpeningsKeepHeaders}
use Rattle.reenc_recovery.specs.Promises.{ContentsStay, ContentsStayFor}
use Rattle.reenc_recovery.specs.Tables.{DiskOpeningsKeepContents, IsFoundOn, OpeningsKeepContents}
use Rattle.reenc_recovery.proofs.JointCallLemmas.{disk_run}
use Rattle.reenc_recovery.proofs.KeepLemmas.{stands_as}
use Rattle.sector_disk.specs.Devices.{Device}

-- and of joined disks
pub openings_keep : DiskOpeningsKeepHeaders → OpeningsKeepHeaders
openings_keep keep sizes header repair old new result shows found fronts run =
    keep sizes header repair (joined_disk old) new result shows found fronts
    (disk_run repair old new result run)

-- ---- of a header by which nothing is being converted
pub found_header : (sizes : Sizes) (header : Stored) (p : Placement) (repair : Option Repair)
    (device : Device) → IsFoundOn sizes header p repair device
    → IsFoundHeader sizes header repair device
found_header sizes header p repair device found = record {
  stored = found.stored;
  sizes_are = found.sizes_are;
  begin = found.begin;
  room = found.room;
  asked = found.asked;
  held = found.held;
}

pub fronts_keep : ContentsStay → ContentsStayFor → (sizes : Sizes) (header : Stored) (p : Placement)
    (repair : Option Repair) (device : Device) → IsFoundOn sizes header p repair device
    → FrontsKeep sizes header device
fronts_keep stay stay_for sizes header p repair device found first is now holds =
    (stands_as stay stay_for sizes header p first now found.placed found.right found.sound
    holds).keeps

pub disk_contents_keep : ContentsStay → ContentsStayFor → DiskOpeningsKeepHeaders
    → DiskOpeningsKeepContents
disk_contents_keep stay stay_for keep sizes header p repair old new result shows found run =
    keep sizes header repair old new result shows (found_header sizes header p repair old found)
    (fronts_keep stay stay_for sizes header p repair old found) run

pub contents_keep : DiskOpeningsKeepContents → OpeningsKeepContents
contents_keep keep sizes header p repair old new result shows found run =
    keep sizes header p repair (joined_disk old) new result shows found
    (disk_run repair old new result run)
