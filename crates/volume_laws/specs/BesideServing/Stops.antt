-- What a stop leaves wherever deeds stop.
use Rattle.std.specs.Prelude.{ℕ, ◌≡◌, ◌++◌, List, Some}
use Rattle.crash_laws.specs.HeaderAreas.Headers.{Handed, Header, IsReader, Layout}
use Rattle.plain_disk.specs.Plain.{Block, Exchange, Legal}
use Rattle.sector_disk.specs.Steps.{Told}
use Rattle.volume_laws.specs.Converting.{StartsCertain, StartsUnder}
use Rattle.volume_laws.specs.Handing.{handed_over}
use Rattle.volume_laws.specs.Imaging.{AreDated, StandsTaken}
use Rattle.volume_machine.specs.Answers.{AreExchanges}
use Rattle.volume_machine.specs.Deeds.{AreDeeds, Deed, answered_over, plain_over, state_after}
use Rattle.volume_machine.specs.Readings.{Reading}
use Rattle.volume_machine.specs.Runs.{no_plain}
use Rattle.volume_machine.specs.Saved.{saved_hash}
use Rattle.volume_machine.specs.Seals.{Seals}
use Rattle.volume_machine.specs.States.{State}
use Rattle.volume_machine.specs.Works.{Progress, Work}

-- Behind some of the deeds the operations answered by then are a front of the history, which is legal;
-- and where the disk tells its tables each image that is taken of it stands for a content that these
-- operations allow, by a header that the commit at hand may have left.
pub record StopsAfter {K : Type 0} (reading : Reading) (start : State K) (seals : Seals)
    (blocks : List Block) (handed : Handed) (exchanges : List Exchange) (earlier : List (Deed K)) :
    Type 0 where
  pub first : List Exchange
  pub rest : List Exchange
  pub parts : exchanges ≡ first ++ rest
  pub answered : AreExchanges (answered_over seals start no_plain earlier) first
  pub left : List Block
  pub legal : Legal start.map.atom blocks first left
  pub work : (work : Work) × ((state_after start earlier).work ≡ Some work)
  pub allowed : (told : Told) → (state_after start earlier).disk.told ≡ Some told
      → StandsTaken reading (state_after start earlier) seals (plain_over seals start no_plain earlier)
      left (handed_over start handed earlier) told.now

-- so it is behind each front of the deeds, where they begin with a certain disk
abbrev pub DeedsStopAnywhere : {K : Type 0} → Reading → State K → Seals → Type 0
DeedsStopAnywhere {K} reading start seals =
    (layout : Layout) (header : Header (List ℕ)) (progress : Progress) (blocks : List Block)
    (bytes : List ℕ) (deeds : List (Deed K)) (exchanges : List Exchange) (handed : Handed)
    → IsReader reading.reader → reading.hash ≡ saved_hash
    → StartsUnder reading layout header progress start seals blocks bytes
    → StartsCertain layout header start seals blocks → AreDated reading start handed
    → AreDeeds reading seals start deeds
    → AreExchanges (answered_over seals start no_plain deeds) exchanges
    → (earlier later : List (Deed K)) → deeds ≡ earlier ++ later
    → StopsAfter reading start seals blocks handed exchanges earlier
