-- The device calls that write a new volume: those of its keyslot, and of the header that names it.
use Rattle.std.specs.Prelude.{Result}
use Rattle.base_terms.specs.declared.failed.Failed.{Failed}
use Rattle.luks_format.specs.declared.format_disk.volume.NewVolume.{NewVolume}
use Rattle.sector_disk.specs.Devices.{Device}
use Rattle.luks_store.specs.SlotCommits.Calls.{FitsSlot, WritesSlot}

abbrev pub WritesVolume : NewVolume → Device → Device → Result (Unit {0}) Failed → Type 0
WritesVolume v old new result = WritesSlot v.slot old new result

-- none of it is written yet, and all of it lies on the disk
abbrev pub FitsNew : NewVolume → Device → Type 0
FitsNew v device = FitsSlot v.slot device
