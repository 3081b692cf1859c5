-- What reading the header of a disk tells, and what it leaves of the disk.
use Rattle.std.specs.Prelude.{ℕ, ◌≡◌, ◌≤◌, false, List, Some, Result, Ok, Err}
use Rattle.std.specs.Prelude.{string_bytes}
use Rattle.base_terms.specs.declared.disk_sizes.Sizes.{Sizes}
use Rattle.sector_disk.specs.Devices.{Device}
use Rattle.std.specs.declared.string.String.{String}
use Rattle.luks_store.specs.Devices.{KeepsBytes}
use Rattle.luks_store.specs.Loads.{Says, stored_in}
use Rattle.luks_store.specs.declared.fault.StoreFault.{StoreFault}
use Rattle.luks_store.specs.declared.fault.StoreFault.TheVariants.{Memory}
use Rattle.luks_store.specs.declared.loaded.Stored.{Stored}
use Rattle.header_report.specs.Reports.{report_of}

-- the sizes of a disk that has both a header and the volume behind it
abbrev pub sizes_alone : Device → Sizes
sizes_alone device = record {
  atom = device.size;
  header_atoms = device.atoms;
  main_atoms = device.atoms;
  detached = false;
}

-- a text, or why there is none
abbrev pub seen : {Z : Type 0} → Result (String Z) StoreFault → Result (List ℕ) StoreFault
seen (Ok text) = Ok (string_bytes text)
seen (Err fault) = Err fault

-- Of a header that was loaded all lines are told, and nothing else; where the disk tells its bytes,
-- it is the one that they hold.
pub record TellsAll (device : Device) (text : List ℕ) : Type 0 where
  pub stored : Stored
  pub sizes : stored.valid.sizes ≡ sizes_alone device
  pub text_is : text ≡ report_of stored
  pub held : (bytes : List ℕ) → device.values ≡ Some bytes →
      stored_in (sizes_alone device) bytes ≡ Ok stored

-- Why none is told: so the bytes have it, where the disk tells them; but want of memory and a read
-- that failed say nothing of them.
abbrev pub TellsFault : Device → StoreFault → Type 0
TellsFault device fault = (bytes : List ℕ) → device.values ≡ Some bytes →
    Says fault (stored_in (sizes_alone device) bytes)

abbrev pub Tells : Device → Result (List ℕ) StoreFault → Type 0
Tells device (Ok text) = TellsAll device text
Tells device (Err fault) = TellsFault device fault

-- A disk that was read alone holds what it held, and tells tables of reads alone since.
pub record IsReadAlone (old new : Device) : Type 0 where
  pub holds : KeepsBytes old new
  pub later : old.faults ≤ new.faults

-- what is told of a header that was loaded, or of none: all lines, or why; memory may be wanted for
-- it
abbrev pub Explains : Result Stored StoreFault → Result (List ℕ) StoreFault → Type 0
Explains (Ok stored) (Ok text) = text ≡ report_of stored
Explains (Ok stored) (Err fault) = fault ≡ Memory
Explains (Err fault) told = told ≡ Err fault
