-- The bay of the demonstration: its disk, its key file and its clients, all under one name.
use Rattle.std.specs.Prelude.{ℕ, ◌≡◌, ◌==◌, ◌&&◌, Bool, false, if◌then◌else◌, List, codes}
use Rattle.std.specs.Prelude.{Option, Some, None, Result, IsErr, IsErrOf}
use Rattle.std.specs.Option.{option_map_or}
use Rattle.std.specs.Str.{bytes_eq}
use Rattle.bays.specs.Bays.{Holdings}
use Rattle.bays.specs.Memory.{Line, Stock, holdings_of}
use Rattle.bays.specs.declared.bay.BayFault.{BayFault}
use Rattle.bays.specs.declared.bay.BayFault.TheVariants.{Failed}
use Rattle.bays.specs.declared.bay.Manner.{Manner}
use Rattle.memory_disks.specs.declared.ram_disk.RamDisk.{RamDisk}
use Rattle.sector_disk.specs.Devices.{Device}

-- the name of the disk, of the key file and of the clients' address; and the passphrase
abbrev pub demo_name : List ℕ
demo_name = codes "demo"

abbrev pub demo_passphrase : List ℕ
demo_passphrase = codes "demo"

-- the disk, where it wasn't given or was put back; and all else
pub record Supplies : Type 0 where
  pub disk : Option RamDisk
  pub rest : Stock

-- what the disk tells: its bytes
abbrev pub ram_device : RamDisk → Device
ram_device disk = record {
  size = disk.atom;
  atoms = disk.atoms;
  tail = 0;
  values = Some disk.bytes.items;
  told = None;
  faults = 0;
}

abbrev pub demo_holdings : Supplies → Holdings RamDisk
demo_holdings supplies = record {
  shelf = λ name. if bytes_eq name demo_name then supplies.disk else None;
  keyring = (holdings_of supplies.rest).keyring;
  inputs = (holdings_of supplies.rest).inputs;
  faults = supplies.rest.plan.faults;
}

-- ---- what each call answers
-- whether the disk is there, with atoms of so many bytes
abbrev pub has_atom : ℕ → Option RamDisk → Bool
has_atom atom disk = option_map_or (λ d. d.atom == atom) disk false

-- the disk isn't given only where it isn't there, or another name or atom is asked for
abbrev pub asks_demo_disk : Supplies → List ℕ → ℕ → Result RamDisk BayFault → Supplies → Type 0
asks_demo_disk old name atom result new =
    IsErr result → (bytes_eq name demo_name && has_atom atom old.disk) ≡ false

-- the passphrase and links fail only under another name
abbrev pub asks_demo_key : Supplies → List ℕ → Result (List ℕ) BayFault → Supplies → Type 0
asks_demo_key old name result new = IsErrOf result Failed → bytes_eq name demo_name ≡ false

abbrev pub asks_demo_links : Supplies → List ℕ → ℕ → ℕ → Manner → Result (List Line) BayFault
    → Supplies → Type 0
asks_demo_links old address workers sessions manner result new =
    IsErrOf result Failed → bytes_eq address demo_name ≡ false
