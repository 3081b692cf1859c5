-- What seeds tell whose calls never fail.
use Rattle.io_edge.specs.Memory.{Seedlings, supply_of}
use Rattle.io_edge.specs.Supply.{Supply}

-- the bytes ahead, as those of seeds in memory, and no fault
abbrev pub sure_supply : Seedlings → Supply
sure_supply seeds = record { ahead = (supply_of seeds).ahead; faults = 0 }
