-- What the images of a disk stand for while a volume is opened that is being converted, and what the
-- disk holds behind that.
use Rattle.std.specs.Prelude.{ℕ, ◌≡◌, ◌*◌, ◌++◌, ◌∷◌, false, List, length, map, Option, Some, Ok}
use Rattle.std.specs.List.{All}
use Rattle.base_terms.specs.Blocks.{joined}
use Rattle.crash_laws.specs.HeaderAreas.Commits.{ShowsCommit, begun}
use Rattle.base_terms.specs.declared.disk_sizes.Sizes.{Sizes}
use Rattle.sector_disk.specs.DiskViews.Views.{view_of_bytes}
use Rattle.hotzone.specs.Workers.{MayGoOn}
use Rattle.hotzone.specs.declared.worker.NextHeader.{NextHeader}
use Rattle.luks_rules.specs.Shapes.{progress_of}
use Rattle.luks_rules.specs.declared.shape.Progress.{Progress}
use Rattle.luks_store.specs.Devices.{front_of}
use Rattle.luks_store.specs.Loads.{stored_in}
use Rattle.luks_store.specs.declared.loaded.Stored.{Stored}
use Rattle.image_laws.specs.Opened.Images.{ImageStandsUnder}
use Rattle.reenc_recovery.specs.Images.{StandsUnder}
use Rattle.reenc_recovery.specs.Keys.{used_by}
use Rattle.reenc_recovery.specs.Tables.{IsSpared}
use Rattle.reenc_recovery.specs.declared.keys.SideKeys.{SideKeys}
use Rattle.sector_disk.specs.Cells.{Cell, synced}
use Rattle.sector_disk.specs.Devices.{Device}
use Rattle.sector_disk.specs.Steps.{Told}
use Rattle.hotzone.specs.ZoneEvents.Heads.{header_on}
use Rattle.hotzone.specs.ZoneEvents.Works.{layout_for}
use Rattle.image_laws.specs.Led.Holding.{HoldsHeader, TellsOn}
use Rattle.image_laws.specs.Led.Spared.{IsSparedTurn}
use Rattle.image_laws.specs.Led.Turned.{StandsBy}
use Rattle.zone_mending.specs.OpenZones.{IsMoved}

-- ---- the keys
-- Where these bytes have a header by which a conversion is under way, the keys are those that were
-- handed in for the whole segments of its sides.
abbrev pub AreHandedIn : Sizes → SideKeys → List ℕ → List ℕ → List ℕ → Type 0
AreHandedIn sizes handed bytes old new =
    (stored : Stored) → stored_in sizes (front_of sizes bytes) ≡ Ok stored → (now : Progress)
    → progress_of stored.valid.meta sizes ≡ Some now
    → (old ≡ used_by now.old.encryption handed.old) × (new ≡ used_by now.new.encryption handed.new)

-- ---- tables
-- The tables since an opening began: that of its first sync, by which each atom is certain; then some
-- behind its reads and the calls of the repair, of each of which this holds; and of the one at hand.
pub record OpenedSince (Holds : List Cell → Type 0) (before now : Told) : Type 0 where
  pub more : List (Option ℕ × List Cell)
  pub past : now.past ≡ before.past ++ (before.mark, map synced before.now) ∷ more
  pub each : All (λ table. Holds table.1) more
  pub last : Holds now.now

-- where a disk tells its tables, it told them when the opening began
abbrev pub TellsOpened : (List Cell → Type 0) → Device → Device → Type 0
TellsOpened Holds old new = (now : Told) → new.told ≡ Some now
    → (before : Told) × (old.told ≡ Some before) × OpenedSince Holds before now

-- ---- under the keys of the sides
-- the header that bytes have says what this one says
abbrev pub IsBy : Sizes → Stored → List ℕ → Type 0
IsBy sizes header bytes = (stored : Stored) → stored_in sizes (front_of sizes bytes) ≡ Ok stored
    → stored.valid ≡ header.valid

-- each image of a table in which no torn copy of the header is valid has this header, and stands for
-- the content
abbrev pub StandsAtRepair : Sizes → Stored → List ℕ → List ℕ → List (List ℕ) → List Cell → Type 0
StandsAtRepair sizes header old new content cells =
    (image : List (List ℕ)) → IsSpared sizes header cells image
    → ImageStandsUnder sizes old new (joined image) content × IsBy sizes header (joined image)

-- each in which no torn copy of it or of the next one is valid does, by the one that it has itself
abbrev pub StandsAtMending : Sizes → Stored → Stored → List ℕ → List ℕ → List (List ℕ) → List Cell
    → Type 0
StandsAtMending sizes header next old new content cells =
    (image : List (List ℕ)) → IsSparedTurn sizes header next cells image
    → StandsBy sizes header next old new (joined image) content

-- Up to the end of the repair each table since the first sync stands by the header that was found
-- alone: nothing of another one was handed to the disk yet.
abbrev pub KeepsAtRepair : Sizes → Stored → List ℕ → List ℕ → List (List ℕ) → Device → Device
    → Type 0
KeepsAtRepair sizes header old_key new_key content old mended =
    TellsOpened (StandsAtRepair sizes header old_key new_key content) old mended

-- Behind the repair nothing is done where no zone is open by the header; else each table from there on
-- stands by this header, or by the one with the boundary moved over the zone.
pub record KeepsContent (sizes : Sizes) (header next : Stored) (old_key new_key : List ℕ)
    (content : List (List ℕ)) (old mended new : Device) : Type 0 where
  pub at_repair : KeepsAtRepair sizes header old_key new_key content old mended
  pub closed : MayGoOn header → (new ≡ mended) × (next ≡ header)
  pub moves : (MayGoOn header → ⊥)
      → (moved : NextHeader) × IsMoved header moved × (next ≡ moved.loaded)
  pub at_mending : (MayGoOn header → ⊥)
      → TellsOn (StandsAtMending sizes header next old_key new_key content) mended new

-- ---- behind an opening
-- The disk holds these bytes for certain, and in them both copies of this header, each under the salt
-- that the header has for its place.
pub record HoldsBoth (sizes : Sizes) (header : Stored) (bytes : List ℕ) (device : Device) : Type 0
  where
    pub holds : HoldsHeader sizes header bytes device
    pub copies : ShowsCommit sizes.atom
        (layout_for sizes.atom header.copies.used.header.hdr_size) (header_on header)
        (header_on header) begun false (view_of_bytes sizes.atom bytes)

-- It does so, and tells all its bytes; and no zone is open by that header, by which it stands for the
-- content under the keys of the sides.
pub record StandsArmed (sizes : Sizes) (header : Stored) (old new : List ℕ)
    (content : List (List ℕ)) (device : Device) : Type 0 where
  pub now : List ℕ
  pub holds : HoldsBoth sizes header now device
  pub long : length now ≡ device.atoms * sizes.atom
  pub stands : StandsUnder sizes old new now content
