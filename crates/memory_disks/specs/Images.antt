-- Images of a disk: what a restart after a stop may find.
use Rattle.std.specs.Prelude.{ℕ, ◌+◌, ◌-◌, ◌%◌, ◌<◌, Bool, true, false, List, [], ◌∷◌, length}
use Rattle.std.specs.Prelude.{slice_index, slice_index_or}
use Rattle.sector_disk.specs.Cells.{Cell, wrote, tried}
use Rattle.memory_disks.specs.declared.images.Choice.{Choice}
use Rattle.memory_disks.specs.declared.images.Choice.TheVariants.{Newest, Oldest, Pick}

-- a pick has a number
abbrev pub IsChoice : Choice → Type 0
IsChoice Newest = Unit {0}
IsChoice Oldest = Unit {0}
IsChoice (Pick numbers) = 0 < length numbers.items

-- which of so many candidates, the oldest being 0, the choice takes of an atom
abbrev pub place_of : Choice → ℕ → ℕ → ℕ
place_of Newest atom count = count - 1
place_of Oldest atom count = 0
place_of (Pick numbers) atom count = slice_index numbers.items (atom % length numbers.items) % count

-- the candidate that the choice takes of an atom
abbrev pub chosen : Choice → ℕ → Cell → List ℕ
chosen choice atom cell =
    slice_index_or cell.candidates (place_of choice atom (length cell.candidates)) []

-- the image that the choice takes of the atoms from number `atom` on
unfoldable pub image_from : Choice → ℕ → List Cell → List (List ℕ)
image_from choice atom [] = []
image_from choice atom (cell ∷ cells) = chosen choice atom cell ∷ image_from choice (atom + 1) cells

-- the image that the choice takes
abbrev pub image_of : Choice → List Cell → List (List ℕ)
image_of choice cells = image_from choice 0 cells

-- a value added to an atom's candidates, and made current or not
abbrev pub added : Bool → Cell → List ℕ → Cell
added true = wrote
added false = tried
