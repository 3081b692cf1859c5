-- The first header of a volume: the four calls of a commit, on a disk of which nothing is known.
use Rattle.std.specs.Prelude.{ℕ, false, List}
use Rattle.crash_laws.specs.HeaderAreas.Areas.{AreApart, Shows, IsOf, IsAny}
use Rattle.crash_laws.specs.HeaderAreas.Commits.{Stage, begun, first_written, second_written}
use Rattle.crash_laws.specs.HeaderAreas.Commits.{ShowsCommit, CommitCall, next_stage}
use Rattle.crash_laws.specs.HeaderAreas.Headers.{Copy, primary, secondary, Layout, place_of, Header, text_of}
use Rattle.sector_disk.specs.DiskViews.Views.{View}

-- what a copy's place holds: anything, until it is written
abbrev pub FirstNow : ℕ → Copy → Stage → List ℕ → ℕ → List ℕ → Type 0
FirstNow atom primary begun text = IsAny
FirstNow atom primary _ text = IsOf atom text
FirstNow atom secondary second_written text = IsOf atom text
FirstNow atom secondary _ text = IsAny

-- what a stop may leave there: anything, until it is certain to be kept
abbrev pub FirstLeft : ℕ → Copy → Stage → List ℕ → ℕ → List ℕ → Type 0
FirstLeft atom primary begun text = IsAny
FirstLeft atom primary first_written text = IsAny
FirstLeft atom primary _ text = IsOf atom text
FirstLeft atom secondary _ text = IsAny

abbrev pub ShowsFirstCopy : {M : Type 0} → ℕ → Layout → Header M → Stage → View → Copy → Type 0
ShowsFirstCopy atom layout to stage view copy =
    Shows (place_of layout copy) (FirstNow atom copy stage (text_of to copy))
    (FirstLeft atom copy stage (text_of to copy)) false view

pub record ShowsFirst {M : Type 0} (atom : ℕ) (layout : Layout) (to : Header M) (stage : Stage)
    (view : View) : Type 0 where
  pub first : ShowsFirstCopy atom layout to stage view primary
  pub second : ShowsFirstCopy atom layout to stage view secondary

-- after a call; after the last one both copies hold the header for certain, and the next commit
-- begins
abbrev pub ShowsThen : {M : Type 0} → ℕ → Layout → Header M → Header M → Stage → View → Type 0
ShowsThen atom layout to after second_written view =
    ShowsCommit atom layout to after begun false view
ShowsThen atom layout to after stage view = ShowsFirst atom layout to (next_stage stage) view

-- ---- what is promised
-- Every disk shows the beginning, and each of the calls leads on, the last one to both copies as
-- they are at the beginning of the next commit.
pub record FirstGoes (atom : ℕ) (layout : Layout) (to after : Header (List ℕ)) : Type 0 where
  pub any : (view : View) → ShowsFirst atom layout to begun view
  pub step : (stage : Stage) (old new : View) → AreApart layout.first layout.second
      → ShowsFirst atom layout to stage old → CommitCall atom layout to stage old new
      → ShowsThen atom layout to after stage new
