-- How much of a file is used as a disk, and what such a disk tells.
use Rattle.std.specs.Prelude.{ℕ, ◌*◌, ◌/◌, ◌-◌, ◌^◌, ◌<◌, min, IsTrue, None}
use Rattle.sector_disk.specs.Devices.{Device}
use Rattle.sector_disk.specs.Geometry.{is_atom, is_atom-true, IsDisk}

-- how many whole atoms there are in a file of so many bytes, of which those below `2 ^ 63` are used
abbrev pub whole_atoms : ℕ → ℕ → ℕ
whole_atoms atom len = min len (2 ^ 63 - 1) / atom

-- how many bytes of such a file lie behind them
abbrev pub tail_behind : ℕ → ℕ → ℕ
tail_behind atom len = len - whole_atoms atom len * atom

-- a disk that tells nothing of content
abbrev pub untold_disk : ℕ → ℕ → ℕ → ℕ → Device
untold_disk atom atoms tail faults =
    record { size = atom; atoms = atoms; tail = tail; values = None; told = None; faults = faults }

-- an atom that passed its test, and the bound of a disk
pub tested_disk : (atom atoms : ℕ) → IsTrue (is_atom atom) → atoms * atom < 2 ^ 63 →
    IsDisk atom atoms
tested_disk atom atoms known fits = record { known = is_atom-true atom known; fits = fits }
