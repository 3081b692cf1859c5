-- What a stop leaves of a volume in the middle of its conversion that clients use: images that stand by
-- themselves.
use Rattle.std.specs.Prelude.{ℕ, ◌≡◌, ◌<◌, ◌++◌, List, Some, Ok}
use Rattle.base_terms.specs.Blocks.{joined}
use Rattle.base_terms.specs.declared.disk_sizes.Sizes.{Sizes}
use Rattle.sector_disk.specs.DiskViews.Parts.{value_in}
use Rattle.luks_store.specs.Devices.{front_of}
use Rattle.luks_store.specs.Loads.{stored_in}
use Rattle.luks_store.specs.declared.loaded.Stored.{Stored}
use Rattle.plain_disk.specs.Plain.{Block}
use Rattle.reenc_recovery.specs.Images.{StandsUnder}
use Rattle.sector_disk.specs.Cells.{Cell, IsImage}
use Rattle.sector_disk.specs.Steps.{Told}
use Rattle.volume_laws.specs.Contents.{IsAllowedAt, StopsAllowed}
use Rattle.volume_machine.specs.Edges.{InPlain}
use Rattle.volume_machine.specs.Runs.{Happening, last_of}
use Rattle.volume_machine.specs.Seals.{Seals}
use Rattle.volume_machine.specs.States.{State}

-- an image has a header of the same metadata as this one
pub record HasStill (sizes : Sizes) (header : Stored) (image : List ℕ) : Type 0 where
  pub stored : Stored
  pub held : stored_in sizes (front_of sizes image) ≡ Ok stored
  pub same : stored.valid ≡ header.valid

-- Each image of a table stands under the keys of the sides, by the header that it has itself, for a
-- content in which each block has a value that is allowed; and that header's metadata are still these.
abbrev pub StandsAllowed : {K : Type 0} → Sizes → Stored → List ℕ → List ℕ → State K
    → (ℕ → InPlain) → List Block → List Cell → Type 0
StandsAllowed sizes header old_key new_key state plain blocks cells =
    (image : List (List ℕ)) → IsImage cells image →
    (content : List (List ℕ)) × StandsUnder sizes old_key new_key (joined image) content
    × HasStill sizes header (joined image)
    × ((b : ℕ) → b < state.map.blocks → IsAllowedAt state plain blocks b (value_in content b))

-- So it is wherever a run stops: what is allowed of the blocks of an image, one by one, is allowed of
-- the content for which the image stands by itself.
abbrev pub StandsAlong : {K : Type 0} → Sizes → Stored → List ℕ → List ℕ → State K → Seals
    → List (Happening K) → Type 0
StandsAlong {K} sizes header old_key new_key start seals run = (earlier later : List (Happening K)) →
    run ≡ earlier ++ later → (told : Told) → (last_of start earlier).disk.told ≡ Some told →
    (plain : ℕ → InPlain) (blocks : List Block) →
    StopsAllowed (last_of start earlier) seals plain blocks told.now →
    StandsAllowed sizes header old_key new_key (last_of start earlier) plain blocks told.now
