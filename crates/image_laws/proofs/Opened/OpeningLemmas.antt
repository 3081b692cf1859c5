-- What the calls of an opening leave, whatever the header says of a conversion.
use Rattle.std.proofs.Common.{ℕ, List, Option}
use Rattle.std.proofs.lemmas.List.Elements.{All-weaker}
use Rattle.base_terms.specs.Blocks.{joined}
use Rattle.base_terms.specs.declared.disk_sizes.Sizes.{Sizes}
use Rattle.sector_disk.specs.JoinedDisks.Joined.{joined_disk}
use Rattle.luks_store.specs.declared.loaded.Stored.{Stored}
use Rattle.image_laws.specs.Opened.Openings.{IsMendedImage, KeepsSince, KeepsStill}
use Rattle.image_laws.specs.Opened.Promises.{DiskOpeningsKeepImages, DiskOpeningsMendImages}
use Rattle.image_laws.specs.Opened.Promises.{DiskReadsKeepImages, FrontsKeepImages, OpeningsKeepImages}
use Rattle.image_laws.specs.Opened.Promises.{OpeningsMendImages, ReadsKeepImages}
use Rattle.reenc_recovery.specs.Headers.{AnyDiskOpeningsMend, AnyOpeningsMend}
use Rattle.reenc_recovery.specs.Headers.{DiskOpeningsKeepHeaders, FrontsKeep, OpeningsKeepHeaders}
use Rattle.reenc_recovery.specs.Mended.{IsMended}
use Rattle.reenc_recovery.specs.Tables.{DiskReadsKeepContents, ReadsKeepContents, StandsSince}
use Rattle.reenc_recovery.specs.Tables.{StandsStill}
use Rattle.sector_disk.specs.Cells.{Cell, content}
use Rattle.sector_disk.specs.Devices.{Device}
use Rattle.sector_disk.specs.Geometry.{IsAtom}
use Rattle.sector_disk.specs.Steps.{Told}
use Rattle.image_laws.specs.Started.Gaps.{FrontsKeepContents}

-- ---- at each call
still : FrontsKeepImages → (sizes : Sizes) (first : List ℕ) (cells : List Cell)
    → IsAtom sizes.atom → StandsStill sizes first cells → KeepsStill sizes first cells
still fronts sizes first cells known stands stored held image spared =
    let on = (stands stored held image spared).holds in
    record { holds = on; keeps = fronts sizes stored first (joined image) known on }

pub since : FrontsKeepImages → (sizes : Sizes) (before now : Told) → IsAtom sizes.atom
    → StandsSince sizes before now → KeepsSince sizes before now
since fronts sizes before now known stands = record {
  more = stands.more;
  past = stands.past;
  each = All-weaker (λ (table : Option ℕ × List Cell).
      StandsStill sizes (content before.now) table.1)
      (λ (table : Option ℕ × List Cell). KeepsStill sizes (content before.now) table.1)
      (λ table is. still fronts sizes (content before.now) table.1 known is) stands.more stands.each;
  last = still fronts sizes (content before.now) now.now known stands.last;
}

pub disk-reads-keep : FrontsKeepImages → DiskReadsKeepContents → DiskReadsKeepImages
disk-reads-keep fronts reads sizes old read known run now is =
    let has = reads sizes old read run now is in
    (has.0, has.1, since fronts sizes has.0 now known has.2)

pub reads-keep : FrontsKeepImages → ReadsKeepContents → ReadsKeepImages
reads-keep fronts reads sizes old read known run now is =
    let has = reads sizes old read run now is in
    (has.0, has.1, since fronts sizes has.0 now known has.2)

-- ---- and at each call of the repair
fronts-keep : FrontsKeepContents → (sizes : Sizes) (header : Stored) (device : Device)
    → IsAtom sizes.atom → FrontsKeep sizes header device
fronts-keep contents sizes header device known first is now holds =
    contents sizes header first now known holds

pub disk-keep : FrontsKeepContents → FrontsKeepImages → DiskOpeningsKeepHeaders
    → DiskOpeningsKeepImages
disk-keep contents fronts keep sizes header repair old new result shows found run sized now is =
    let has = keep sizes header repair old new result shows found
    (fronts-keep contents sizes header old shows.known) run sized now is in
    (has.0, has.1, since fronts sizes has.0 now shows.known has.2)

pub joined-keep : FrontsKeepContents → FrontsKeepImages → OpeningsKeepHeaders → OpeningsKeepImages
joined-keep contents fronts keep sizes header repair old new result shows found run sized now is =
    let has = keep sizes header repair old new result shows found
    (fronts-keep contents sizes header (joined_disk old) shows.known) run sized now is in
    (has.0, has.1, since fronts sizes has.0 now shows.known has.2)

-- ---- once all were done
mended-image : FrontsKeepImages → (sizes : Sizes) (header : Stored) (first : List ℕ)
    (device : Device) → IsAtom sizes.atom → IsMended sizes header first device
    → IsMendedImage sizes header first device
mended-image fronts sizes header first device known is = record {
  now = is.now;
  values = is.values;
  holds = is.stands.holds;
  keeps = fronts sizes header first is.now known is.stands.holds;
  good = is.good;
  means = is.means;
  certain = is.certain;
}

pub disk-mended : FrontsKeepContents → FrontsKeepImages → AnyDiskOpeningsMend
    → DiskOpeningsMendImages
disk-mended contents fronts mend sizes header repair old new shows found shows_new run first is =
    mended-image fronts sizes header first new shows.known
    (mend sizes header repair old new shows found
    (fronts-keep contents sizes header old shows.known) shows_new run first is)

pub joined-mended : FrontsKeepContents → FrontsKeepImages → AnyOpeningsMend → OpeningsMendImages
joined-mended contents fronts mend sizes header repair old new shows found shows_new run first is =
    mended-image fronts sizes header first new shows.known
    (mend sizes header repair old new shows found
    (fronts-keep contents sizes header (joined_disk old) shows.known) shows_new run first is)
