-- What is promised of images of volumes, whether a zone of a conversion is open or not.
use Rattle.std.specs.Prelude.{ℕ, ◌≡◌, ◌+◌, ◌<◌, ◌≤◌, List, Option, Some, Result}
use Rattle.base_terms.specs.declared.failed.Failed.{Failed}
use Rattle.base_terms.specs.declared.disk_sizes.Sizes.{Sizes}
use Rattle.sector_disk.specs.JoinedDisks.Joined.{Joint, joined_disk}
use Rattle.luks_store.specs.declared.header_copies.repair.Repair.{Repair}
use Rattle.luks_rules.specs.declared.shape.Progress.{Progress}
use Rattle.luks_store.specs.declared.loaded.Stored.{Stored}
use Rattle.image_laws.specs.Opened.Images.{ImageStandsFor, ImageStandsUnder, KeepsImage, OpenStandsUnder}
use Rattle.image_laws.specs.Opened.Openings.{IsMendedImage, TellsKept}
use Rattle.reenc_meta.specs.ConversionMaps.{IsMapAt}
use Rattle.reenc_recovery.specs.Calls.{DiskOpeningRun, DiskSyncsAndReads, OpeningRun}
use Rattle.reenc_recovery.specs.Calls.{SyncsAndReads, TellsSized}
use Rattle.reenc_recovery.specs.Headers.{IsFoundHeader}
use Rattle.reenc_recovery.specs.Images.{HoldsOn, StandsUnder}
use Rattle.reenc_recovery.specs.Tables.{ShowsSizes}
use Rattle.sector_disk.specs.Devices.{Device, succeeded}
use Rattle.sector_disk.specs.Geometry.{IsAtom}
use Rattle.segment_map.specs.declared.Side.TheVariants.{Zone}
use Rattle.segment_map.specs.declared.map.Map.{Map}
use Rattle.volume_machine.specs.Pieces.{side_in}

-- ---- one image
-- It stands for one content at most, under the keys of its sides and under a passphrase.
abbrev pub OneUnder : Type 0
OneUnder = (sizes : Sizes) (old new image : List ℕ) (one other : List (List ℕ))
    → ImageStandsUnder sizes old new image one → ImageStandsUnder sizes old new image other
    → one ≡ other

abbrev pub OneFor : Type 0
OneFor = (sizes : Sizes) (pass image : List ℕ) (one other : List (List ℕ))
    → ImageStandsFor sizes pass image one → ImageStandsFor sizes pass image other → one ≡ other

-- whether a zone is open is said by its header, so it never stands in both ways
abbrev pub OneWay : Type 0
OneWay = (sizes : Sizes) (old new other_old other_new image : List ℕ)
    (one other : List (List ℕ)) → StandsUnder sizes old new image one
    → OpenStandsUnder sizes other_old other_new image other → ⊥

-- the blocks of the open zone are those behind the first so many
abbrev pub ZoneIsRun : Type 0
ZoneIsRun = (sizes : Sizes) (c : Progress) (map : Map) (b : ℕ) → IsMapAt sizes c map
    → side_in map b ≡ Zone → (c.plan.first ≤ b) × (b < c.plan.first + c.plan.zone)

-- ---- What is written in front of the keyslots' areas leaves what an image stands for, as long as
-- its header says the same.
abbrev pub FrontsKeepImages : Type 0
FrontsKeepImages = (sizes : Sizes) (header : Stored) (first now : List ℕ) → IsAtom sizes.atom
    → HoldsOn sizes header first now → KeepsImage sizes first now

-- ---- openings
-- After the sync and the reads, and so after each call of the repair, done or failed, each image of
-- each table stands for what the bytes stood for when the opening began.
abbrev pub ReadsKeepImages : Type 0
ReadsKeepImages = (sizes : Sizes) (old read : Joint) → IsAtom sizes.atom → SyncsAndReads old read
    → TellsKept sizes (joined_disk old) (joined_disk read)

abbrev pub DiskReadsKeepImages : Type 0
DiskReadsKeepImages = (sizes : Sizes) (old read : Device) → IsAtom sizes.atom
    → DiskSyncsAndReads old read → TellsKept sizes old read

abbrev pub OpeningsKeepImages : Type 0
OpeningsKeepImages =
    (sizes : Sizes) (header : Stored) (repair : Option Repair) (old : Joint) (new : Device)
    (result : Result (Unit {0}) Failed) → ShowsSizes sizes (joined_disk old)
    → IsFoundHeader sizes header repair (joined_disk old) → OpeningRun repair old new result
    → TellsSized new → TellsKept sizes (joined_disk old) new

abbrev pub DiskOpeningsKeepImages : Type 0
DiskOpeningsKeepImages =
    (sizes : Sizes) (header : Stored) (repair : Option Repair) (old new : Device)
    (result : Result (Unit {0}) Failed) → ShowsSizes sizes old
    → IsFoundHeader sizes header repair old → DiskOpeningRun repair old new result → TellsSized new
    → TellsKept sizes old new

-- Once all calls of an opening were done the disk holds its header for certain, and stands for what
-- it stood for: joined disks, and any one disk.
abbrev pub OpeningsMendImages : Type 0
OpeningsMendImages =
    (sizes : Sizes) (header : Stored) (repair : Option Repair) (old : Joint) (new : Device)
    → ShowsSizes sizes (joined_disk old) → IsFoundHeader sizes header repair (joined_disk old)
    → ShowsSizes sizes new → OpeningRun repair old new succeeded → (first : List ℕ)
    → (joined_disk old).values ≡ Some first → IsMendedImage sizes header first new

abbrev pub DiskOpeningsMendImages : Type 0
DiskOpeningsMendImages =
    (sizes : Sizes) (header : Stored) (repair : Option Repair) (old new : Device)
    → ShowsSizes sizes old → IsFoundHeader sizes header repair old → ShowsSizes sizes new
    → DiskOpeningRun repair old new succeeded → (first : List ℕ) → old.values ≡ Some first
    → IsMendedImage sizes header first new
