-- Copies that would be found in front of the secondary: how none comes to be there, however writes
-- are torn. A copy is told by its front, so it is asked of each atom of the primary's area that no
-- copy begins with it, whatever stands behind it.
use Rattle.std.specs.Prelude.{ℕ, ◌≡◌, ◌*◌, ◌%◌, ◌<◌, Bool, true, false, List, ◌++◌, Some, None}
use Rattle.crash_laws.specs.HeaderAreas.Areas.{Area, AreApart, Image, IsOf, Shows, content_of}
use Rattle.crash_laws.specs.HeaderAreas.Commits.{Stage, begun, ShowsCommit, CommitCall, CommitFails}
use Rattle.crash_laws.specs.HeaderAreas.Commits.{WritesCopy, TriesCopy, ShowsRepair}
use Rattle.crash_laws.specs.HeaderAreas.Headers.{Copy, primary, secondary, Reader, HasNoneBelow, Layout, Header}
use Rattle.crash_laws.specs.HeaderAreas.Headers.{text_of}
use Rattle.crash_laws.specs.HeaderAreas.Promises.{IsImageOf}
use Rattle.sector_disk.specs.DiskViews.Parts.{block_at}
use Rattle.sector_disk.specs.DiskViews.Views.{View, IsUnchanged, IsWritten, IsTried, IsSynced, IsThinned}

-- no copy begins with this atom of a disk, but at its front
abbrev pub BeginsNone : {M : Type 0} → Reader M → ℕ → ℕ → List ℕ → Type 0
BeginsNone {M} reader atom place value =
    0 < place → (rest : List ℕ) → reader.decode (place * atom) (value ++ rest) ≡ None

-- no copy begins with an atom of this text for the primary's area, but with the first
abbrev pub HidesNone : {M : Type 0} → Reader M → ℕ → Area → List ℕ → Type 0
HidesNone {M} reader atom area text =
    (i : ℕ) → i < area.count → BeginsNone reader atom i (block_at atom text i)

-- neither now nor after a stop does a copy begin with one of its atoms
abbrev pub ShowsNone : {M : Type 0} → Reader M → ℕ → Layout → Bool → View → Type 0
ShowsNone reader atom layout broken view =
    Shows layout.first (BeginsNone reader atom) (BeginsNone reader atom) broken view

-- ---- what is promised
-- The calls of a commit, and the write of a repair, keep it so where what they write to the primary
-- hides none, also where they fail.
pub record FrontsKept (reader : Reader (List ℕ)) (atom : ℕ) (layout : Layout)
    (to : Header (List ℕ)) (old new : View) : Type 0 where
  pub commit : (stage : Stage)
      → (CommitCall atom layout to stage old new → ShowsNone reader atom layout false new)
      × (CommitFails atom layout to stage old new → ShowsNone reader atom layout true new)
  pub repair : (bad : Copy)
      → (WritesCopy atom layout to bad old new → ShowsNone reader atom layout false new)
      × (TriesCopy atom layout to bad old new → ShowsNone reader atom layout true new)

abbrev pub FrontsStay : Type 0
FrontsStay =
    (reader : Reader (List ℕ)) (atom : ℕ) (layout : Layout) (to : Header (List ℕ)) (old new : View)
    → AreApart layout.first layout.second
    → HidesNone reader atom layout.first (text_of to primary)
    → ShowsNone reader atom layout false old
    → FrontsKept reader atom layout to old new

-- A device call of anybody's that leaves the primary's area alone, and whether it failed.
pub data CallElsewhere (atom : ℕ) (layout : Layout) (old new : View) : Bool → Type 0 where
  -- a read leaves all as it was, also one that failed
  reads : IsUnchanged old new → CallElsewhere atom layout old new false
  syncs : IsSynced old new → CallElsewhere atom layout old new false
  writes_elsewhere : (area : Area) (text : List ℕ) → AreApart layout.first area
      → IsWritten atom area.start area.count text old new
      → CallElsewhere atom layout old new false
  sync_fails : IsThinned old new → CallElsewhere atom layout old new true
  write_fails_elsewhere : (area : Area) (text : List ℕ) → AreApart layout.first area
      → IsTried atom area.start area.count text old new → CallElsewhere atom layout old new true

-- It keeps it so as well, whatever was being committed or repaired.
abbrev pub FrontsStayBeside : Type 0
FrontsStayBeside =
    (reader : Reader (List ℕ)) (atom : ℕ) (layout : Layout) (failed : Bool) (old new : View)
    → CallElsewhere atom layout old new failed → ShowsNone reader atom layout false old
    → ShowsNone reader atom layout failed new

-- They begin so, where both copies hold a header whose primary hides none.
abbrev pub FrontsBegin : Type 0
FrontsBegin =
    (reader : Reader (List ℕ)) (atom : ℕ) (layout : Layout) (from to : Header (List ℕ))
    (broken : Bool) (view : View)
    → HidesNone reader atom layout.first (text_of from primary)
    → ShowsCommit atom layout from to begun broken view
    → ShowsNone reader atom layout broken view

-- So does a repair of the secondary, beside a primary that hides none.
abbrev pub FrontsBeginRepair : Type 0
FrontsBeginRepair =
    (reader : Reader (List ℕ)) (atom : ℕ) (layout : Layout) (header : Header (List ℕ))
    (written broken : Bool) (view : View)
    → HidesNone reader atom layout.first (text_of header primary)
    → ShowsRepair atom layout header secondary written broken view
    → ShowsNone reader atom layout broken view

-- So does whatever is done beside a text that stands in the primary's area for certain, and hides
-- none: one that is older, or no copy.
abbrev pub FrontsBeginAnyhow : Type 0
FrontsBeginAnyhow =
    (reader : Reader (List ℕ)) (atom : ℕ) (layout : Layout) (text : List ℕ) (broken : Bool)
    (view : View)
    → HidesNone reader atom layout.first text
    → Shows layout.first (IsOf atom text) (IsOf atom text) broken view
    → ShowsNone reader atom layout broken view

-- And then no image has a copy in front of the secondary but the primary: copies stand at whole
-- atoms.
abbrev pub FrontsGive : Type 0
FrontsGive =
    (atom atoms size : ℕ) (reader : Reader (List ℕ)) (layout : Layout) (view : View) (image : Image)
    (broken : Bool)
    → 0 < atom
    → ((place : ℕ) (bytes m : List ℕ) → reader.decode place bytes ≡ Some m → place % atom ≡ 0)
    → IsImageOf atom atoms size layout view image → ShowsNone reader atom layout broken view
    → HasNoneBelow reader (content_of atoms image) size
