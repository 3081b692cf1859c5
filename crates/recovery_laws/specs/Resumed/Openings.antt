-- What is promised of the content of a volume whose conversion is taken up again, while it is opened.
use Rattle.std.specs.Prelude.{ℕ, ◌≡◌, ◌*◌, ◌⊎◌, List, length, Option, Some, Ok}
use Rattle.resume_disk.specs.OpenedMidway.Openings.{IsNotLedOn, IsOpenedOf, IsUnopened, not_led_on}
use Rattle.resume_disk.specs.OpenedMidway.Openings.{only_read, unarmed, uncalled, unmended}
use Rattle.resume_disk.specs.OpenedMidway.Openings.{unrepaired}
use Rattle.resume_disk.specs.OpenedMidway.Openings.{unsynced}
use Rattle.resume_disk.specs.declared.midway.fault.ConversionCause.{ConversionCause}
use Rattle.base_terms.specs.declared.disk_sizes.Sizes.{Sizes}
use Rattle.hotzone.specs.Workers.{MayGoOn}
use Rattle.sector_disk.specs.JoinedDisks.Counts.{HasSizes}
use Rattle.sector_disk.specs.JoinedDisks.Joined.{Joint, joined_disk}
use Rattle.luks_store.specs.declared.header_copies.repair.Repair.{Repair}
use Rattle.luks_store.specs.Devices.{front_of}
use Rattle.luks_store.specs.Loads.{stored_in}
use Rattle.luks_store.specs.declared.loaded.Stored.{Stored}
use Rattle.image_laws.specs.Opened.Images.{ImageStandsUnder}
use Rattle.reenc_recovery.specs.Tables.{ShowsSizes}
use Rattle.reenc_recovery.specs.declared.keys.SideKeys.{SideKeys}
use Rattle.recovery_laws.specs.Resumed.Keeping.{AreHandedIn, KeepsAtRepair, KeepsContent, StandsArmed}
use Rattle.sector_disk.specs.Devices.{Device}
use Rattle.sector_disk.specs.Steps.{Told}
use Rattle.volume_machine.specs.States.{State}
use Rattle.volume_machine.specs.declared.keys.Keys.{Keys}
use Rattle.image_laws.specs.Led.Holding.{TellsLawfully}

-- ---- the premises
-- Disks of these sizes tell these bytes, all that they have, which stand for a content under the keys
-- that were handed in for the sides.
pub record OpensOn (sizes : Sizes) (handed : SideKeys) (old : Joint)
    (first old_key new_key : List ℕ) (content : List (List ℕ)) : Type 0 where
  pub has : HasSizes sizes (joined_disk old)
  pub shows : ShowsSizes sizes (joined_disk old)
  pub values : (joined_disk old).values ≡ Some first
  pub long : length first ≡ (joined_disk old).atoms * sizes.atom
  pub handed_in : AreHandedIn sizes handed first old_key new_key
  pub stands : ImageStandsUnder sizes old_key new_key first content

-- ---- a volume that was opened
-- no zone was open, or the disk tells its tables
abbrev pub IsKnownBehind : Stored → Device → Type 0
IsKnownBehind header device = MayGoOn header ⊎ ((told : Told) × (device.told ≡ Some told))

-- Each image of each table that the disk tells since the first sync of an opening stands for the
-- content that the bytes stood for when it began; and the disk holds for certain the header by which
-- the volume is armed, and stands for that content by it.
abbrev pub OpeningsKeepContent : {C : Type 0} → (C → ℕ) → (C → ℕ → List ℕ → List ℕ)
    → (C → ℕ → List ℕ → List ℕ) → Type 0
OpeningsKeepContent {C} sector sealed opened =
    (sizes : Sizes) (handed : SideKeys) (lanes : ℕ) (old : Joint) (volume : State (Keys C))
    (first old_key new_key : List ℕ) (content : List (List ℕ))
    → OpensOn sizes handed old first old_key new_key content
    → (is : IsOpenedOf sector sealed opened sizes handed lanes old volume)
    → KeepsContent sizes is.found.header is.led.last old_key new_key content (joined_disk old)
    is.led.mended volume.disk
    × (IsKnownBehind is.found.header volume.disk
    → StandsArmed sizes is.led.last old_key new_key content volume.disk)

-- ---- an opening that made none
-- By the calls that were made behind the reads: of a repair that failed, each table stands as at the
-- repair; behind one that was done, as where the volume is led on.
abbrev pub KeepsUnled : {C : Type 0} {sector : C → ℕ} {sealed opened : C → ℕ → List ℕ → List ℕ}
    {header : Stored} {keys : Keys C} {repair : Option Repair} {read new : Device}
    {cause : ConversionCause} → Sizes → List ℕ → List ℕ → List (List ℕ) → Device
    → IsNotLedOn sector sealed opened header keys repair read new cause → Type 0
KeepsUnled {C} {sector} {sealed} {opened} {header} {keys} {repair} {read} {new} {cause} sizes old_key
    new_key content old (unrepaired run is) =
    KeepsAtRepair sizes header old_key new_key content old new
KeepsUnled {C} {sector} {sealed} {opened} {header} {keys} {repair} {read} {new} {cause} sizes old_key
    new_key content old (unmended mended run zone is) =
    KeepsContent sizes header zone.after.moved.loaded old_key new_key content old mended new
KeepsUnled {C} {sector} {sealed} {opened} {header} {keys} {repair} {read} {new} {cause} sizes old_key
    new_key content old (unarmed mended run last leads is) =
    KeepsContent sizes header last old_key new_key content old mended new

-- By all calls: where the first sync wasn't made, nothing is said; where disks were only read each
-- table stands as at the repair.
abbrev pub KeepsUnopened : {C : Type 0} {sector : C → ℕ}
    {sealed opened : C → ℕ → List ℕ → List ℕ} {sizes later : Sizes} {handed : SideKeys}
    {old new : Joint} {cause : ConversionCause} → Stored → List ℕ → List ℕ → List (List ℕ)
    → IsUnopened sector sealed opened sizes later handed old new cause → Type 0
KeepsUnopened header old_key new_key content (uncalled same_sizes same is) = Unit {0}
KeepsUnopened header old_key new_key content (unsynced same_sizes call is) = Unit {0}
KeepsUnopened {C} {sector} {sealed} {opened} {sizes} {later} {handed} {old} {new} {cause} header
    old_key new_key content (only_read same_sizes run) =
    KeepsAtRepair sizes header old_key new_key content (joined_disk old) (joined_disk new)
KeepsUnopened {C} {sector} {sealed} {opened} {sizes} {later} {handed} {old} {new} {cause} header
    old_key new_key content (not_led_on found read first left) =
    KeepsUnled sizes old_key new_key content (joined_disk old) left

-- Behind its first sync each image of each table stands for the content, whichever call failed, or
-- why else no volume was opened. The disks that are handed back tell their tables and their bytes
-- alike, as each does.
abbrev pub UnopenedKeepContent : {C : Type 0} → (C → ℕ) → (C → ℕ → List ℕ → List ℕ)
    → (C → ℕ → List ℕ → List ℕ) → Type 0
UnopenedKeepContent {C} sector sealed opened =
    (sizes later : Sizes) (handed : SideKeys) (old new : Joint) (cause : ConversionCause)
    (first old_key new_key : List ℕ) (content : List (List ℕ)) (header : Stored)
    → OpensOn sizes handed old first old_key new_key content → TellsLawfully (joined_disk new)
    → stored_in sizes (front_of sizes first) ≡ Ok header
    → (is : IsUnopened sector sealed opened sizes later handed old new cause)
    → KeepsUnopened header old_key new_key content is
