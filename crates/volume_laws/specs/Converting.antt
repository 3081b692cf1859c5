-- A volume that is converted while clients use it: how its runs start, and what is promised of them.
use Rattle.std.specs.Prelude.{ℕ, ◌≡◌, ◌*◌, false, List, None, Some, length}
use Rattle.crash_laws.specs.HeaderAreas.Commits.{begun, ShowsCommit}
use Rattle.crash_laws.specs.HeaderAreas.Headers.{Layout, Header}
use Rattle.sector_disk.specs.DiskViews.Views.{view_of_bytes, view_of_cells}
use Rattle.plain_disk.specs.Plain.{Block, Exchange, AreSure, Legal}
use Rattle.sector_disk.specs.Steps.{Told}
use Rattle.volume_laws.specs.Contents.{AreBlocksOf, StandsFor, StandsNow, StopsAllowed}
use Rattle.volume_laws.specs.Promises.{StartsCovered, TellsWhole}
use Rattle.volume_machine.specs.Answers.{AreExchanges}
use Rattle.volume_machine.specs.Courses.{Courses}
use Rattle.volume_machine.specs.Deeds.{AreDeeds, Deed, answered_over, plain_over, state_after}
use Rattle.volume_machine.specs.Pieces.{place_in, side_in}
use Rattle.volume_machine.specs.Readings.{Reading}
use Rattle.volume_machine.specs.Runs.{no_plain}
use Rattle.volume_machine.specs.Seals.{Seals, AreLawful}
use Rattle.volume_machine.specs.Sound.{IsSound, AreApart}
use Rattle.volume_machine.specs.States.{State, open_at}
use Rattle.volume_machine.specs.Working.{Works}
use Rattle.volume_machine.specs.Works.{Progress, resting}

-- what holds of a volume with a header between two deeds
pub record IsInOrder {K : Type 0} (reading : Reading) (state : State K) : Type 0 where
  pub sound : IsSound state
  pub works : Works state
  pub courses : Courses reading state
  pub apart : AreApart state.map

-- A volume with a header from which runs start: no operation is under way, no zone is at hand, its
-- map is that of the header, both copies of which its disk holds, and its disk stands for these
-- blocks. A disk that tells its bytes or its tables tells all of them.
pub record StartsUnder {K : Type 0} (reading : Reading) (layout : Layout)
    (header : Header (List ℕ)) (progress : Progress) (start : State K) (seals : Seals)
    (blocks : List Block) (bytes : List ℕ) : Type 0 where
  pub sound : IsSound start
  pub lanes : (lane : ℕ) → open_at start.lanes lane ≡ None
  pub unbroken : start.broken ≡ false
  pub at_rest : start.work ≡ Some (resting layout header progress)
  pub works : Works start
  pub courses : Courses reading start
  pub apart : AreApart start.map
  pub lawful : AreLawful start.map.atom seals
  pub are : AreBlocksOf start.map blocks
  pub sure : AreSure blocks
  pub values : start.disk.values ≡ Some bytes
  pub stands : StandsFor start.map seals blocks bytes
  pub whole : TellsWhole start
  pub copies : ShowsCommit start.map.atom layout header header begun false
      (view_of_bytes start.map.atom bytes)

-- where the disk tells its tables, each image of it stands for values of these blocks, and has both
-- copies
pub record StartsCertain {K : Type 0} (layout : Layout) (header : Header (List ℕ))
    (start : State K) (seals : Seals) (blocks : List Block) : Type 0 where
  pub covered : StartsCovered start seals blocks
  pub copies : (told : Told) → start.disk.told ≡ Some told
      → ShowsCommit start.map.atom layout header header begun false (view_of_cells told.now)

-- The operations of a run of deeds are those of one plain disk, whatever the worker did between
-- them: their history is legal; while nothing has failed each live block holds its newest value,
-- with those of unfinished writes over it; and a stop leaves of it what is allowed.
pub record IsServedBeside {K : Type 0} (certain : Type 0) (start : State K) (seals : Seals)
    (blocks : List Block) (deeds : List (Deed K)) (exchanges : List Exchange) : Type 0 where
  pub left : List Block
  pub legal : Legal start.map.atom blocks exchanges left
  pub now : List ℕ
  pub values : (state_after start deeds).disk.values ≡ Some now
  pub stands : (state_after start deeds).broken ≡ false → StandsNow (state_after start deeds) seals
      (plain_over seals start no_plain deeds) left now
  pub size : (state_after start deeds).broken ≡ false → length now
      ≡ (state_after start deeds).disk.atoms * (state_after start deeds).map.atom
  pub cells : certain → (told : Told) → (state_after start deeds).disk.told ≡ Some told
      → length told.now ≡ (state_after start deeds).disk.atoms
  pub stops : certain → (told : Told) → (state_after start deeds).disk.told ≡ Some told
      → StopsAllowed (state_after start deeds) seals (plain_over seals start no_plain deeds) left
      told.now

abbrev pub ServesBeside : {K : Type 0} → Reading → State K → Seals → Type 0
ServesBeside {K} reading start seals =
    (layout : Layout) (header : Header (List ℕ)) (progress : Progress) (blocks : List Block)
    (bytes : List ℕ) (deeds : List (Deed K)) (exchanges : List Exchange)
    → StartsUnder reading layout header progress start seals blocks bytes
    → AreDeeds reading seals start deeds
    → AreExchanges (answered_over seals start no_plain deeds) exchanges
    → IsServedBeside (StartsCertain layout header start seals blocks) start seals blocks deeds
    exchanges

-- a block is on the side, at the place and under the keys that it had
pub record KeepsBlock {K : Type 0} (old new : State K) (b : ℕ) : Type 0 where
  pub side : side_in new.map b ≡ side_in old.map b
  pub place : place_in new.map b ≡ place_in old.map b
  pub keys : new.keys ≡ old.keys
