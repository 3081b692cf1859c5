-- What is promised of headers, commits and repairs.
use Rattle.std.specs.Prelude.{length, replicate, ℕ, ◌≡◌, Bool, true, false, List}
use Rattle.crash_laws.specs.HeaderAreas.Areas.{AreApart, Image, IsWhole, Takes, content_of}
use Rattle.crash_laws.specs.HeaderAreas.Commits.{Stage, begun, ShowsCommit, MayBe, CommitCall, CommitFails}
use Rattle.crash_laws.specs.HeaderAreas.Commits.{next_stage, failed_stage, first_of, second_of, handed_by}
use Rattle.crash_laws.specs.HeaderAreas.Commits.{Follows, IsDated, ShowsRepair, HasPast, handed_by_repair}
use Rattle.crash_laws.specs.HeaderAreas.Commits.{WritesCopy, TriesCopy}
use Rattle.crash_laws.specs.HeaderAreas.Headers.{Copy, Reader, IsReader, Layout, place_of, IsLaidOut, Header}
use Rattle.crash_laws.specs.HeaderAreas.Headers.{IsHeader, Gives, Handed, handed_at, IsGenuine}
use Rattle.base_terms.specs.Blocks.{joined, lengths}
use Rattle.sector_disk.specs.DiskViews.Parts.{value_in}
use Rattle.sector_disk.specs.DiskViews.Views.{View, view_of_cells, IsSynced, IsThinned}
use Rattle.sector_disk.specs.Cells.{Cell, IsImage}

-- a disk's bytes have at most one header
abbrev pub HeaderIsOne : Type 0
HeaderIsOne = (reader : Reader (List ℕ)) → IsReader reader → (bytes one two : List ℕ)
    → Gives reader bytes one → Gives reader bytes two → one ≡ two

-- an image of a disk on which copies of a header lie
pub record IsImageOf (atom atoms size : ℕ) (layout : Layout) (view : View) (image : Image) : Type 0
  where
    pub laid : IsLaidOut atom atoms size layout
    pub whole : IsWhole atom atoms image
    pub takes : (copy : Copy) → Takes view image (place_of layout copy)

-- An image of a table of so many atoms, each with an atom's bytes, is an image of that disk; and
-- what the copies are read from are its bytes.
abbrev pub ImageTaken : Type 0
ImageTaken =
    (atom size : ℕ) (layout : Layout) (cells : List Cell) (image : List (List ℕ))
    → IsImage cells image
    → lengths image ≡ replicate (length cells) atom → IsLaidOut atom (length cells) size layout
    → IsImageOf atom (length cells) size layout (view_of_cells cells) (value_in image)
    × (content_of (length cells) (value_in image) ≡ joined image)

-- Each image during a commit has the header from before or the next one, and after the first sync
-- the next.
abbrev pub CommitGives : Type 0
CommitGives =
    (atom atoms : ℕ) (reader : Reader (List ℕ)) (layout : Layout) (from to : Header (List ℕ))
    (stage : Stage)
    (handed : Handed) (image : Image) (broken : Bool) (view : View) → IsReader reader
    → IsHeader reader from → IsHeader reader to → IsDated reader from to stage handed
    → IsImageOf atom atoms (reader.size from.means) layout view image
    → IsGenuine reader (reader.size from.means) handed (content_of atoms image)
    → ShowsCommit atom layout from to stage broken view
    → (m : List ℕ) × MayBe stage from.means to.means m × Gives reader (content_of atoms image) m

-- Its calls lead on from what is known to what is known; one that fails leaves what a stop may
-- leave.
abbrev pub CommitGoes : Type 0
CommitGoes =
    (atom : ℕ) (layout : Layout) (from to after : Header (List ℕ)) (stage : Stage) (old new : View)
    → AreApart layout.first layout.second → ShowsCommit atom layout from to stage false old
    → (CommitCall atom layout to stage old new
    → ShowsCommit atom layout (first_of stage from to) (second_of stage to after) (next_stage stage)
    false new)
    × (CommitFails atom layout to stage old new
    → ShowsCommit atom layout from to (failed_stage stage) true new)

-- What was handed to the copies' places stays dated, at the opening and by each call.
abbrev pub OpeningDated : Type 0
OpeningDated =
    (reader : Reader (List ℕ)) (bytes : List ℕ) (header to : Header (List ℕ)) → IsReader reader
    → Gives reader bytes header.means
    → IsDated reader header to begun (handed_at reader bytes (reader.size header.means))

abbrev pub CommitDated : Type 0
CommitDated =
    (reader : Reader (List ℕ)) (from to after : Header (List ℕ)) (stage : Stage) (handed : Handed)
    → IsHeader reader to
    → Follows reader from.means to.means → IsDated reader from to stage handed
    → IsDated reader (first_of stage from to) (second_of stage to after) (next_stage stage)
    (handed_by stage to handed)
    × IsDated reader from to (failed_stage stage) (handed_by stage to handed)

-- Each image during a repair has the header.
abbrev pub RepairGives : Type 0
RepairGives =
    (atom atoms : ℕ) (reader : Reader (List ℕ)) (layout : Layout) (header : Header (List ℕ))
    (bad : Copy)
    (handed : Handed) (image : Image) (written broken : Bool) (view : View) → IsReader reader
    → IsHeader reader header → HasPast reader header handed
    → IsImageOf atom atoms (reader.size header.means) layout view image
    → IsGenuine reader (reader.size header.means) handed (content_of atoms image)
    → ShowsRepair atom layout header bad written broken view
    → Gives reader (content_of atoms image) header.means

-- Its two calls lead to both copies as they are at the beginning of a commit; one that fails leaves
-- what a stop may leave.
abbrev pub RepairGoes : Type 0
RepairGoes =
    (atom : ℕ) (layout : Layout) (header to : Header (List ℕ)) (bad : Copy) (old new : View)
    → AreApart layout.first layout.second
    → (ShowsRepair atom layout header bad false false old
    → (WritesCopy atom layout header bad old new
    → ShowsRepair atom layout header bad true false new)
    × (TriesCopy atom layout header bad old new
    → ShowsRepair atom layout header bad false true new))
    × (ShowsRepair atom layout header bad true false old
    → (IsSynced old new → ShowsCommit atom layout header to begun false new)
    × (IsThinned old new → ShowsRepair atom layout header bad true true new))

-- What was handed to the copies' places is the header or an older one, at the opening and after the
-- repair's write, done or failed; so a commit that begins after it finds it dated.
pub record PastKept (reader : Reader (List ℕ)) (header to : Header (List ℕ)) : Type 0 where
  pub opened : (bytes : List ℕ) → Gives reader bytes header.means
      → HasPast reader header (handed_at reader bytes (reader.size header.means))
  pub written : (bad : Copy) (handed : Handed) → IsHeader reader header
      → HasPast reader header handed
      → HasPast reader header (handed_by_repair bad header handed)
  pub dated : (handed : Handed) → HasPast reader header handed
      → IsDated reader header to begun handed

abbrev pub RepairDated : Type 0
RepairDated =
    (reader : Reader (List ℕ)) (header to : Header (List ℕ)) → IsReader reader
    → PastKept reader header to
