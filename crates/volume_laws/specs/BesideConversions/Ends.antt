-- A conversion that is led beside clients: how it begins, and what its end leaves.
use Rattle.std.specs.Prelude.{ℕ, ◌≡◌, false, List, Some}
use Rattle.crash_laws.specs.HeaderAreas.Headers.{Header, IsHeader, Layout}
use Rattle.segment_map.specs.declared.Side.TheVariants.{New}
use Rattle.volume_laws.specs.Converting.{IsInOrder}
use Rattle.volume_machine.specs.Readings.{Reading}
use Rattle.volume_machine.specs.States.{State}
use Rattle.volume_machine.specs.WorkSteps.{AreAllOn}
use Rattle.volume_machine.specs.Works.{complete, converting, resting}

-- by this header the volume is being converted, and no zone is at hand
pub record MayConvertBeside {K : Type 0} (reading : Reading) (layout : Layout)
    (header : Header (List ℕ)) (state : State K) : Type 0 where
  pub order : IsInOrder reading state
  pub at_rest : state.work ≡ Some (resting layout header converting)

-- Every block is new, and by the header, whose copies lie where they did, nothing is converted; no
-- step is left. It says of the new side how that is sealed as the first header did.
pub record IsConvertedBeside {K : Type 0} (reading : Reading) (layout : Layout)
    (first : Header (List ℕ)) (old now : State K) : Type 0 where
  pub header : Header (List ℕ)
  pub is : IsHeader reading.reader header
  pub at_end : now.work ≡ Some (resting layout header complete)
  pub map : now.map ≡ reading.map_of header.means
  pub blocks : now.map.blocks ≡ old.map.blocks
  pub converted : AreAllOn now.map New
  pub rests : reading.converts header.means ≡ false
  pub sealing : reading.sealing header.means New ≡ reading.sealing first.means New
  pub order : IsInOrder reading now
