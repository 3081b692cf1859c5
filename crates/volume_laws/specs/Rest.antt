-- What a run leaves of a disk besides the places of the blocks that it may write.
use Rattle.std.specs.Prelude.{ℕ, ◌≡◌, ◌≢◌, ◌⊎◌, List, Some, Contains}
use Rattle.sector_disk.specs.DiskViews.Parts.{cell_in, value_in}
use Rattle.sector_disk.specs.Cells.{Cell, AreSettled, IsImage}
use Rattle.sector_disk.specs.Steps.{Told}
use Rattle.volume_machine.specs.Pieces.{place_in}
use Rattle.volume_machine.specs.States.{State, IsLive}

-- no live block has this place
abbrev pub IsBeside : {K : Type 0} → State K → ℕ → Type 0
IsBeside state place = (b : ℕ) → IsLive state b → place_in state.map b ≢ place

-- an atom holds what it held, and a stop may leave only that or what it might have left before
pub record KeepsCell (old new : Cell) : Type 0 where
  pub current : new.current ≡ old.current
  pub candidates : (value : List ℕ) → Contains new.candidates value →
      Contains old.candidates value ⊎ (value ≡ old.current)

-- A disk that tells this table told one at the start. Each atom that is no live block's is kept
-- since, and where all were certain then, each image has there what the atom held.
pub record KeepsRest {K : Type 0} (start : State K) (now : Told) : Type 0 where
  pub before : Told
  pub was : start.disk.told ≡ Some before
  pub cells : (place : ℕ) → IsBeside start place
      → KeepsCell (cell_in before.now place) (cell_in now.now place)
  pub images : AreSettled before.now → (image : List (List ℕ)) → IsImage now.now image →
      (place : ℕ) → IsBeside start place →
      value_in image place ≡ (cell_in before.now place).current
