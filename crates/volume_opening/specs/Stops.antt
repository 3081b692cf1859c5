-- What a stop leaves of a volume that a passphrase opened: images that stand by themselves.
use Rattle.std.specs.Prelude.{ℕ, ◌≡◌, ◌<◌, ◌++◌, List, Some}
use Rattle.base_terms.specs.Blocks.{joined}
use Rattle.base_terms.specs.declared.disk_sizes.Sizes.{Sizes}
use Rattle.sector_disk.specs.DiskViews.Parts.{value_in}
use Rattle.plain_disk.specs.Plain.{Block}
use Rattle.reenc_recovery.specs.Images.{StandsFor}
use Rattle.reenc_recovery.specs.Placings.{RestsIn}
use Rattle.sector_disk.specs.Cells.{Cell, IsImage}
use Rattle.sector_disk.specs.Steps.{Told}
use Rattle.volume_laws.specs.Contents.{IsAllowedAt, StopsAllowed}
use Rattle.volume_machine.specs.Edges.{InPlain}
use Rattle.volume_machine.specs.Runs.{Happening, last_of}
use Rattle.volume_machine.specs.Seals.{Seals}
use Rattle.volume_machine.specs.States.{State}

-- Each image of a table stands under the passphrase, by the header and the keyslots that it has
-- itself, for a content in which each block has a value that is allowed; and by that header nothing
-- is being converted.
abbrev pub StandsAllowed : {K : Type 0} → Sizes → List ℕ → State K → (ℕ → InPlain) → List Block
    → List Cell → Type 0
StandsAllowed sizes pass state plain blocks cells = (image : List (List ℕ)) → IsImage cells image →
    (content : List (List ℕ)) × StandsFor sizes pass (joined image) content
    × RestsIn sizes (joined image)
    × ((b : ℕ) → b < state.map.blocks → IsAllowedAt state plain blocks b (value_in content b))

-- So it is wherever a run stops: what is allowed of the blocks of an image, one by one, is allowed
-- of the content for which the image stands by itself.
abbrev pub StandsAlong : {K : Type 0} → Sizes → List ℕ → State K → Seals → List (Happening K)
    → Type 0
StandsAlong {K} sizes pass start seals run = (earlier later : List (Happening K)) →
    run ≡ earlier ++ later → (told : Told) → (last_of start earlier).disk.told ≡ Some told →
    (plain : ℕ → InPlain) (blocks : List Block) →
    StopsAllowed (last_of start earlier) seals plain blocks told.now →
    StandsAllowed sizes pass (last_of start earlier) plain blocks told.now
