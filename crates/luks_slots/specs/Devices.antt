-- What reads leave of the disk that a header's areas lie on.
use Rattle.std.specs.Prelude.{ℕ, ◌≡◌, ◌≤◌, List, ◌++◌, Option, Some}
use Rattle.std.specs.List.{All}
use Rattle.sector_disk.specs.Cells.{Cell}
use Rattle.sector_disk.specs.Devices.{Device}
use Rattle.sector_disk.specs.Steps.{Told}

-- the tables after some more calls, none of which changed what the atoms hold
pub record IsRead (before now : Told) : Type 0 where
  pub cells : now.now ≡ before.now
  pub mark : now.mark ≡ before.mark
  pub more : List (Option ℕ × List Cell)
  pub past : now.past ≡ before.past ++ more
  pub same : All (λ table. table.1 ≡ before.now) more

-- Nothing was written: what the disk holds is as before, and so is each table that it tells since.
pub record IsUnwritten (old new : Device) : Type 0 where
  pub size : new.size ≡ old.size
  pub atoms : new.atoms ≡ old.atoms
  pub tail : new.tail ≡ old.tail
  pub values : new.values ≡ old.values
  pub told : (now : Told) → new.told ≡ Some now
      → (before : Told) × (old.told ≡ Some before) × IsRead before now
  pub later : old.faults ≤ new.faults
