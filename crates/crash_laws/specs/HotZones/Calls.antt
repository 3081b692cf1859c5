-- The device calls of a zone, those that others make beside it, and how it begins and ends.
use Rattle.std.specs.Prelude.{ℕ, ◌≡◌, ◌≢◌, ◌+◌, ◌-◌, ◌<◌, ◌≤◌, Bool, false, true, List}
use Rattle.std.specs.Prelude.{Contains}
use Rattle.crash_laws.specs.HeaderAreas.Areas.{Area}
use Rattle.crash_laws.specs.HeaderAreas.Commits.{Stage, begun, first_written, first_kept, second_written}
use Rattle.crash_laws.specs.HeaderAreas.Commits.{ShowsCommit, CommitCall, CommitFails, next_stage}
use Rattle.crash_laws.specs.HeaderAreas.Commits.{failed_stage}
use Rattle.crash_laws.specs.HeaderAreas.Headers.{Layout, Header}
use Rattle.sector_disk.specs.DiskViews.Parts.{block_at}
use Rattle.sector_disk.specs.DiskViews.Views.{View, IsOutside, IsUnchanged, IsTried, IsWritten, IsSynced}
use Rattle.sector_disk.specs.DiskViews.Views.{IsThinned}
use Rattle.crash_laws.specs.HotZones.Zones.{Hotzone, Texts, Phase, saving, opening, writing, mending, moving}
use Rattle.crash_laws.specs.HotZones.Zones.{shifting, turning, as_new, all, ShowsAtoms, Reaches}

-- by one device call the next part of an area's atoms is written, the `more` from the `n`-th on,
-- each as it is to be
pub record WritesPart (atom : ℕ) (area : Area) (values : ℕ → List ℕ) (n more : ℕ)
    (old new : View) : Type 0 where
  pub some : 0 < more
  pub within : n + more ≤ area.count
  pub text : List ℕ
  pub each : (k : ℕ) → k < more → block_at atom text k ≡ values (n + k)
  pub call : IsWritten atom (area.start + n) more text old new

-- such a write that failed
pub record TriesPart (atom : ℕ) (area : Area) (values : ℕ → List ℕ) (n more : ℕ)
    (old new : View) : Type 0 where
  pub some : 0 < more
  pub within : n + more ≤ area.count
  pub text : List ℕ
  pub each : (k : ℕ) → k < more → block_at atom text k ≡ values (n + k)
  pub call : IsTried atom (area.start + n) more text old new

-- A call that is done leads from one phase to the next. What was saved, and what was written, is
-- certain after a sync; with the last call of the commit 'zone open' the zone's atoms may be
-- written; the last call of the commit 'boundary moved' ends the zone.
pub data ZoneCall {M : Type 0} (atom : ℕ) (layout : Layout) (zone : Hotzone M) (texts : Texts)
    (old new : View) : Phase → Phase → Type 0 where
  saves : (n more : ℕ) → WritesPart atom zone.store texts.saved n more old new
      → ZoneCall atom layout zone texts old new (saving n) (saving (n + more))
  keeps : IsSynced old new
      → ZoneCall atom layout zone texts old new (saving zone.store.count) (opening begun)
  opens : (stage : Stage) → stage ≢ second_written
      → CommitCall atom layout zone.opened stage old new
      → ZoneCall atom layout zone texts old new (opening stage) (opening (next_stage stage))
  opened : CommitCall atom layout zone.opened second_written old new
      → ZoneCall atom layout zone texts old new (opening second_written) (writing 0)
  writes : (n more : ℕ) → WritesPart atom zone.own texts.new n more old new
      → ZoneCall atom layout zone texts old new (writing n) (writing (n + more))
  settles : IsSynced old new
      → ZoneCall atom layout zone texts old new (writing zone.own.count) (moving begun)
  mends : (n more : ℕ) → WritesPart atom zone.own texts.new n more old new
      → ZoneCall atom layout zone texts old new (mending n) (mending (n + more))
  recovers : IsSynced old new
      → ZoneCall atom layout zone texts old new (mending zone.own.count) (moving begun)
  moves : (stage : Stage) → stage ≢ second_written → CommitCall atom layout zone.moved stage old new
      → ZoneCall atom layout zone texts old new (moving stage) (moving (next_stage stage))
  shifts : (n more : ℕ) → WritesPart atom zone.target texts.new n more old new
      → ZoneCall atom layout zone texts old new (shifting n) (shifting (n + more))
  arrives : IsSynced old new
      → ZoneCall atom layout zone texts old new (shifting zone.target.count) (turning begun)
  turns : (stage : Stage) → stage ≢ second_written → CommitCall atom layout zone.moved stage old new
      → ZoneCall atom layout zone texts old new (turning stage) (turning (next_stage stage))

-- A call that failed: a write leaves what it may leave when it is done, a sync what was before.
pub data ZoneFault {M : Type 0} (atom : ℕ) (layout : Layout) (zone : Hotzone M) (texts : Texts)
    (old new : View) : Phase → Phase → Type 0 where
  save_fails : (n more : ℕ) → TriesPart atom zone.store texts.saved n more old new
      → ZoneFault atom layout zone texts old new (saving n) (saving n)
  open_fails : (stage : Stage) → CommitFails atom layout zone.opened stage old new
      → ZoneFault atom layout zone texts old new (opening stage) (opening (failed_stage stage))
  write_fails : (n more : ℕ) → TriesPart atom zone.own texts.new n more old new
      → ZoneFault atom layout zone texts old new (writing n) (writing n)
  mend_fails : (n more : ℕ) → TriesPart atom zone.own texts.new n more old new
      → ZoneFault atom layout zone texts old new (mending n) (mending n)
  move_fails : (stage : Stage) → CommitFails atom layout zone.moved stage old new
      → ZoneFault atom layout zone texts old new (moving stage) (moving (failed_stage stage))
  shift_fails : (n more : ℕ) → TriesPart atom zone.target texts.new n more old new
      → ZoneFault atom layout zone texts old new (shifting n) (shifting n)
  turn_fails : (stage : Stage) → CommitFails atom layout zone.moved stage old new
      → ZoneFault atom layout zone texts old new (turning stage) (turning (failed_stage stage))
  sync_fails : (phase : Phase) → IsThinned old new
      → ZoneFault atom layout zone texts old new phase phase

-- ---- what others do: reads, syncs, and writes that touch none of the zone's areas
abbrev pub LiesBeside : {M : Type 0} → Layout → Hotzone M → ℕ → ℕ → Type 0
LiesBeside layout zone at n =
    (area : Area) → Reaches layout zone area → (i : ℕ) → i < area.count
    → IsOutside at n (area.start + i)

pub data CallBeside {M : Type 0} (layout : Layout) (zone : Hotzone M)
    (old new : View) : (broken : Bool) → Type 0 where
  -- a read leaves all as it was, also one that failed
  reads : IsUnchanged old new → CallBeside layout zone old new false
  syncs : IsSynced old new → CallBeside layout zone old new false
  writes_beside : (atom at n : ℕ) (text : List ℕ) → LiesBeside layout zone at n
      → IsWritten atom at n text old new → CallBeside layout zone old new false
  sync_fails_beside : IsThinned old new → CallBeside layout zone old new true
  write_fails_beside : (atom at n : ℕ) (text : List ℕ) → LiesBeside layout zone at n
      → IsTried atom at n text old new → CallBeside layout zone old new true

-- ---- how many calls a zone has still to make at most, before the last one of its last commit
abbrev pub stage_left : Stage → ℕ
stage_left begun = 3
stage_left first_written = 2
stage_left first_kept = 1
stage_left second_written = 0

unfoldable pub calls_left : {M : Type 0} → Hotzone M → Phase → ℕ
calls_left zone (saving n) = zone.store.count - n + (zone.own.count + 9)
calls_left zone (opening stage) = stage_left stage + (zone.own.count + 5)
calls_left zone (writing n) = zone.own.count - n + 4
calls_left zone (mending n) = zone.own.count - n + 4
calls_left zone (moving stage) = stage_left stage
calls_left zone (shifting n) = zone.target.count - n + 4
calls_left zone (turning stage) = stage_left stage

-- ---- the phase that a zone begins with, and what stands when it ended
abbrev pub IsFirst : Phase → Type 0
IsFirst (saving n) = n ≡ 0
IsFirst (shifting n) = n ≡ 0
IsFirst _ = ⊥

abbrev pub IsLast : Phase → Type 0
IsLast (moving stage) = stage ≡ second_written
IsLast (turning stage) = stage ≡ second_written
IsLast _ = ⊥

-- where the new atoms are
abbrev pub new_area : {M : Type 0} → Hotzone M → Phase → Area
new_area zone (turning stage) = zone.target
new_area zone _ = zone.own

-- the new atoms are certain, and both copies are the header after the zone, whichever comes next
pub record ShowsMoved {M : Type 0} (atom : ℕ) (layout : Layout) (zone : Hotzone M) (texts : Texts)
    (area : Area) (view : View) : Type 0 where
  pub new : ShowsAtoms area (all as_new) as_new texts false view
  pub header : (after : Header M) → ShowsCommit atom layout zone.moved after begun false view

-- each atom of the area holds its current value for certain
abbrev pub IsSettled : View → Area → Type 0
IsSettled view area =
    (i : ℕ) → i < area.count → (value : List ℕ) → Contains (view.candidates (area.start + i)) value
    → value ≡ view.current (area.start + i)
