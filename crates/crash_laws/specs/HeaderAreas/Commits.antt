-- A commit: four device calls that lead both copies from one header to the next. A repair: two that
-- write one copy anew.
use Rattle.std.specs.Prelude.{ℕ, ◌≡◌, ◌<◌, ◌⊎◌, Bool, true, List, ◌∷◌, [], ◌++◌, Contains, Some}
use Rattle.crash_laws.specs.HeaderAreas.Areas.{Shows, IsOf, IsAny}
use Rattle.crash_laws.specs.HeaderAreas.Headers.{Copy, primary, secondary, Reader, Layout, place_of, byte_of}
use Rattle.crash_laws.specs.HeaderAreas.Headers.{Header, text_of, Handed}
use Rattle.sector_disk.specs.DiskViews.Views.{View, IsWritten, IsTried, IsSynced, IsThinned}

-- which of its calls are done: none; the primary was written; it is certain to be kept; the
-- secondary was written
pub data Stage : Type 0 where
  begun : Stage
  first_written : Stage
  first_kept : Stage
  second_written : Stage

-- the header whose text a copy's place holds
abbrev pub written_of : {M : Type 0} → Copy → Stage → Header M → Header M → Header M
written_of primary begun from to = from
written_of primary _ from to = to
written_of secondary second_written from to = to
written_of secondary _ from to = from

-- a text was written that isn't certain to be kept
abbrev pub CopyLeft : ℕ → Copy → Stage → List ℕ → ℕ → List ℕ → Type 0
CopyLeft atom primary first_written text = IsAny
CopyLeft atom secondary second_written text = IsAny
CopyLeft atom _ _ text = IsOf atom text

abbrev pub ShowsCopy : {M : Type 0} → ℕ → Layout → Header M → Header M → Stage → Bool → View → Copy
    → Type 0
ShowsCopy atom layout from to stage broken view copy =
    Shows (place_of layout copy) (IsOf atom (text_of (written_of copy stage from to) copy))
    (CopyLeft atom copy stage (text_of (written_of copy stage from to) copy)) broken view

-- what the disk shows of both copies
pub record ShowsCommit {M : Type 0} (atom : ℕ) (layout : Layout) (from to : Header M)
    (stage : Stage) (broken : Bool) (view : View) : Type 0 where
  pub first : ShowsCopy atom layout from to stage broken view primary
  pub second : ShowsCopy atom layout from to stage broken view secondary

-- which of the two headers an image may have
abbrev pub MayBe : {M : Type 0} → Stage → M → M → M → Type 0
MayBe begun from to m = m ≡ from
MayBe first_written from to m = (m ≡ from) ⊎ (m ≡ to)
MayBe _ from to m = m ≡ to

-- the device call that comes next, as it moves what the disk shows
abbrev pub WritesCopy : {M : Type 0} → ℕ → Layout → Header M → Copy → View → View → Type 0
WritesCopy atom layout to copy old new =
    IsWritten atom (place_of layout copy).start (place_of layout copy).count (text_of to copy) old
    new

abbrev pub TriesCopy : {M : Type 0} → ℕ → Layout → Header M → Copy → View → View → Type 0
TriesCopy atom layout to copy old new =
    IsTried atom (place_of layout copy).start (place_of layout copy).count (text_of to copy) old new

abbrev pub CommitCall : {M : Type 0} → ℕ → Layout → Header M → Stage → View → View → Type 0
CommitCall atom layout to begun = WritesCopy atom layout to primary
CommitCall atom layout to first_written = IsSynced
CommitCall atom layout to first_kept = WritesCopy atom layout to secondary
CommitCall atom layout to second_written = IsSynced

-- after its last call the next commit begins
abbrev pub next_stage : Stage → Stage
next_stage begun = first_written
next_stage first_written = first_kept
next_stage first_kept = second_written
next_stage second_written = begun

-- it failed: a write leaves what it may leave when it is done, a sync what was before
abbrev pub CommitFails : {M : Type 0} → ℕ → Layout → Header M → Stage → View → View → Type 0
CommitFails atom layout to begun = TriesCopy atom layout to primary
CommitFails atom layout to first_written = IsThinned
CommitFails atom layout to first_kept = TriesCopy atom layout to secondary
CommitFails atom layout to second_written = IsThinned

abbrev pub failed_stage : Stage → Stage
failed_stage begun = first_written
failed_stage first_written = first_written
failed_stage first_kept = second_written
failed_stage second_written = second_written

-- the headers of the commit at hand: after the last call the next one begins
abbrev pub first_of : {M : Type 0} → Stage → Header M → Header M → Header M
first_of second_written from to = to
first_of _ from to = from

abbrev pub second_of : {M : Type 0} → Stage → Header M → Header M → Header M
second_of second_written to after = after
second_of _ to after = to

-- the texts handed when this call was made, whether it failed or not
abbrev pub handed_by : {M : Type 0} → Stage → Header M → Handed → Handed
handed_by begun to handed primary = handed primary ++ text_of to primary ∷ []
handed_by first_kept to handed secondary = handed secondary ++ text_of to secondary ∷ []
handed_by _ to handed copy = handed copy

-- the next header's text was handed to this place
abbrev pub WasHanded : Copy → Stage → Type 0
WasHanded primary begun = ⊥
WasHanded primary _ = Unit {0}
WasHanded secondary second_written = Unit {0}
WasHanded secondary _ = ⊥

-- the next header has the higher number and the same size, once something of it was written
abbrev pub Follows : {M : Type 0} → Reader M → M → M → Type 0
Follows reader from to = (reader.seq from < reader.seq to) × (reader.size to ≡ reader.size from)

abbrev pub IsLater : {M : Type 0} → Reader M → Stage → M → M → Type 0
IsLater reader begun from to = Unit {0}
IsLater reader _ from to = Follows reader from to

-- an older header of the same size
abbrev pub IsOlder : {M : Type 0} → Reader M → M → M → Type 0
IsOlder reader from m = (reader.seq m < reader.seq from) × (reader.size m ≡ reader.size from)

-- the texts handed so far, as far as they are copies, mean the header, an older one, or the next
-- one where it was handed to that place
pub record IsDated {M : Type 0} (reader : Reader M) (from to : Header M) (stage : Stage)
    (handed : Handed) : Type 0 where
  pub later : IsLater reader stage from.means to.means
  pub each : (copy : Copy) (text : List ℕ) (m : M) → Contains (handed copy) text
      → reader.decode (byte_of (reader.size from.means) copy) text ≡ Some m
      → (m ≡ from.means) ⊎ (IsOlder reader from.means m ⊎ (WasHanded copy stage × (m ≡ to.means)))

-- ---- a repair: one copy is certain, and what a stop leaves of the other is older, the same or no
-- copy
abbrev pub other : Copy → Copy
other primary = secondary
other secondary = primary

pub record ShowsRepair {M : Type 0} (atom : ℕ) (layout : Layout) (header : Header M) (bad : Copy)
    (written broken : Bool) (view : View) : Type 0 where
  pub good : Shows (place_of layout (other bad)) (IsOf atom (text_of header (other bad)))
      (IsOf atom (text_of header (other bad))) broken view
  pub now : written ≡ true
      → Shows (place_of layout bad) (IsOf atom (text_of header bad)) IsAny broken view

-- the texts handed mean the header or an older one
abbrev pub HasPast : {M : Type 0} → Reader M → Header M → Handed → Type 0
HasPast {M} reader header handed =
    (copy : Copy) (text : List ℕ) (m : M) → Contains (handed copy) text
    → reader.decode (byte_of (reader.size header.means) copy) text ≡ Some m
    → (m ≡ header.means) ⊎ IsOlder reader header.means m

-- the texts handed when the repair's write was made, whether it failed or not
abbrev pub handed_by_repair : {M : Type 0} → Copy → Header M → Handed → Handed
handed_by_repair primary header handed primary = handed primary ++ text_of header primary ∷ []
handed_by_repair primary header handed secondary = handed secondary
handed_by_repair secondary header handed primary = handed primary
handed_by_repair secondary header handed secondary =
    handed secondary ++ text_of header secondary ∷ []
