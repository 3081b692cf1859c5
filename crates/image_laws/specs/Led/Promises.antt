-- What is promised of images while an open zone is written again by its steps.
use Rattle.std.specs.Prelude.{ℕ, ◌≡◌, ◌*◌, ◌≤◌, Bool, true, List, Some, Ok, Result}
use Rattle.base_terms.specs.Blocks.{joined}
use Rattle.base_terms.specs.declared.failed.Failed.{Failed}
use Rattle.base_terms.specs.declared.disk_sizes.Sizes.{Sizes}
use Rattle.hotzone.specs.declared.site.Guard.TheVariants as guards
use Rattle.sector_disk.specs.JoinedDisks.Counts.{HasSizes}
use Rattle.luks_rules.specs.Areas.{header_bytes}
use Rattle.luks_rules.specs.Shapes.{progress_of}
use Rattle.luks_rules.specs.declared.shape.Progress.{Progress}
use Rattle.luks_store.specs.declared.loaded.Stored.{Stored}
use Rattle.image_laws.specs.Opened.Images.{OpenStandsFor, OpenStandsUnder}
use Rattle.reenc_recovery.specs.Images.{StandsFor, StandsUnder}
use Rattle.sector_disk.specs.Cells.{Cell}
use Rattle.sector_disk.specs.Devices.{Device}
use Rattle.sector_disk.specs.Steps.{Told}
use Rattle.image_laws.specs.Led.Holding.{HoldsHeader, TellsLawfully, TellsOn}
use Rattle.image_laws.specs.Led.Keys.{AreCiphersOf}
use Rattle.image_laws.specs.Led.Runs.{MendRun}
use Rattle.image_laws.specs.Led.Spared.{IsSparedTurn}
use Rattle.image_laws.specs.Led.Turned.{StandsBy, StandsForBy}
use Rattle.zone_mending.specs.Menders.{IsMending}
use Rattle.zone_mending.specs.declared.mender.MendCall.TheVariants.{ReadSaved}
use Rattle.zone_mending.specs.declared.mender.Mender.{Mender}

-- ---- the beginning
-- A zone is about to be written again, under keys that are these ones' ciphers, behind the header by
-- which it is open; the disk holds its bytes for certain, and in them both copies of this header. By
-- checksum they stand for something, by which it is known of each atom what it is.
pub record MendsFrom {C : Type 0} (sector : C → ℕ) (sealed opened : C → ℕ → List ℕ → List ℕ)
    (sizes : Sizes) (header : Stored) (old_key new_key bytes : List ℕ) (mender : Mender C)
    (device : Device) : Type 0 where
  pub mends : IsMending sector mender
  pub stands : mender.site.guard ≡ guards.Checksum
      → (content : List (List ℕ)) × OpenStandsUnder sizes old_key new_key bytes content
  pub loaded : mender.loaded ≡ header
  pub first : mender.next ≡ ReadSaved 0
  pub sizes_are : header.valid.sizes ≡ sizes
  pub room : 2 * header.copies.used.header.hdr_size ≤ header_bytes sizes
  pub now : Progress
  pub known : progress_of header.valid.meta sizes ≡ Some now
  pub keys : AreCiphersOf sector sealed opened now old_key new_key mender.keys
  pub disk : HasSizes sizes device
  pub tells : TellsLawfully device
  pub holds : HoldsHeader sizes header bytes device

-- ---- under the keys of the sides
-- each image of a table in which no torn copy is valid stands for what these bytes stand for, by
-- the header that it has itself: the one by which the zone is open, or the next one
abbrev pub StandsOn : Sizes → Stored → Stored → List ℕ → List ℕ → List ℕ → List Cell → Type 0
StandsOn sizes header next old new bytes cells =
    (image : List (List ℕ)) → IsSparedTurn sizes header next cells image
    → (content : List (List ℕ)) → OpenStandsUnder sizes old new bytes content
    → StandsBy sizes header next old new (joined image) content

-- The disk holds other bytes for certain, and in them both copies of a header by which no zone is
-- open; they stand for what the first ones stand for.
pub record StandsTurned (sizes : Sizes) (next : Stored) (old new bytes : List ℕ) (device : Device)
    : Type 0 where
  pub now : List ℕ
  pub holds : HoldsHeader sizes next now device
  pub stands : (content : List (List ℕ)) → OpenStandsUnder sizes old new bytes content
      → StandsUnder sizes old new now content

-- While an open zone is written again, step by step, done or failed at the last, each image of each
-- table since stands for what the bytes stood for from which this began; and once all steps were made
-- the disk, where it tells its tables, holds for certain the header with the boundary moved, and
-- stands for the same by it.
abbrev pub MendingsStand : {C : Type 0} → (C → ℕ) → (C → ℕ → List ℕ → List ℕ)
    → (C → ℕ → List ℕ → List ℕ) → Type 0
MendingsStand {C} sector sealed opened =
    (sizes : Sizes) (header : Stored) (old_key new_key bytes : List ℕ) (mender after : Mender C)
    (old new : Device) (result : Result Bool Failed)
    → MendsFrom sector sealed opened sizes header old_key new_key bytes mender old
    → MendRun sealed opened mender old after new result
    → TellsOn (StandsOn sizes header mender.moved.loaded old_key new_key bytes) old new
    × (result ≡ Ok true → (told : Told) → new.told ≡ Some told
    → StandsTurned sizes mender.moved.loaded old_key new_key bytes new)

-- ---- under a passphrase
-- So it is under each passphrase to which the keyslots in these bytes give those keys.
abbrev pub StandsOnFor : Sizes → Stored → Stored → List ℕ → List ℕ → List ℕ → List Cell → Type 0
StandsOnFor sizes header next old new bytes cells =
    (image : List (List ℕ)) → IsSparedTurn sizes header next cells image
    → (pass : List ℕ) (content : List (List ℕ)) (stands : OpenStandsFor sizes pass bytes content)
    → stands.old ≡ old → stands.new ≡ new
    → StandsForBy sizes header next pass (joined image) content

pub record StandsTurnedFor (sizes : Sizes) (next : Stored) (old new bytes : List ℕ)
    (device : Device) : Type 0 where
  pub now : List ℕ
  pub holds : HoldsHeader sizes next now device
  pub stands : (pass : List ℕ) (content : List (List ℕ))
      → (stands : OpenStandsFor sizes pass bytes content) → stands.old ≡ old → stands.new ≡ new
      → StandsFor sizes pass now content

abbrev pub MendingsStandFor : {C : Type 0} → (C → ℕ) → (C → ℕ → List ℕ → List ℕ)
    → (C → ℕ → List ℕ → List ℕ) → Type 0
MendingsStandFor {C} sector sealed opened =
    (sizes : Sizes) (header : Stored) (old_key new_key bytes : List ℕ) (mender after : Mender C)
    (old new : Device) (result : Result Bool Failed)
    → MendsFrom sector sealed opened sizes header old_key new_key bytes mender old
    → MendRun sealed opened mender old after new result
    → TellsOn (StandsOnFor sizes header mender.moved.loaded old_key new_key bytes) old new
    × (result ≡ Ok true → (told : Told) → new.told ≡ Some told
    → StandsTurnedFor sizes mender.moved.loaded old_key new_key bytes new)
