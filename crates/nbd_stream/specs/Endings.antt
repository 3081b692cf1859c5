-- Endings by what brought them.
use Rattle.std.specs.Prelude.{ℕ, ◌≡◌, ◌<◌, ◌≤◌}
use Rattle.nbd_stream.specs.declared.ending.Ending.{Ending}
use Rattle.nbd_stream.specs.declared.ending.Ending.TheVariants.{TooMany, PortSpent, ReadFault}
use Rattle.nbd_stream.specs.declared.ending.Ending.TheVariants.{WriteFault, Memory}

-- an ending that the input brings, and no fault, no want of memory and no port
abbrev pub IsByInput : Ending → Type 0
IsByInput PortSpent = ⊥
IsByInput ReadFault = ⊥
IsByInput WriteFault = ⊥
IsByInput Memory = ⊥
IsByInput _ = Unit {0}

-- How many options or requests were answered, by the ending: the most that one session may have
-- only where that ended it, or where the answer to the last of so many didn't go out.
abbrev pub IsCount : ℕ → Ending → ℕ → Type 0
IsCount most (TooMany m) n = (m ≡ n) × (n ≡ most)
IsCount most WriteFault n = (0 < n) × (n ≤ most)
IsCount most _ n = n < most
