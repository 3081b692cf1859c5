-- What a volume is that was opened while it is being converted, and what an opening leaves that made
-- none.
use Rattle.std.specs.Prelude.{◌≡◌, ◌*◌, ◌≤◌, ℕ, List, Option, Some, Ok}
use Rattle.resume_disk.specs.OpenedMidway.Causes.{device_failed, no_memory}
use Rattle.resume_disk.specs.OpenedMidway.Runs.{LeadsTo, MendsZone}
use Rattle.resume_disk.specs.OpenedMidway.Sides.{IsConversion}
use Rattle.resume_disk.specs.declared.midway.fault.ConversionCause.{ConversionCause}
use Rattle.base_terms.specs.declared.disk_sizes.Sizes.{Sizes}
use Rattle.sector_disk.specs.JoinedDisks.Joined.{Joint, joined_disk}
use Rattle.luks_store.specs.declared.header_copies.repair.Repair.{Repair}
use Rattle.luks_rules.specs.Areas.{areas_begin, header_bytes}
use Rattle.luks_rules.specs.States.{IsSound}
use Rattle.luks_store.specs.Devices.{front_of}
use Rattle.luks_store.specs.Loads.{IsStored, stored_in}
use Rattle.luks_store.specs.declared.loaded.Stored.{Stored}
use Rattle.reenc_meta.specs.ConversionMaps.{IsMapOf}
use Rattle.reenc_recovery.specs.Calls.{IsRepairFor, RepairRun, SyncsAndReads}
use Rattle.reenc_recovery.specs.declared.keys.SideKeys.{SideKeys}
use Rattle.sector_disk.specs.Devices.{Device, SyncCall, failed_call, succeeded}
use Rattle.volume_machine.specs.Beginnings.{new_volume}
use Rattle.volume_machine.specs.States.{State}
use Rattle.volume_machine.specs.Works.{converting, resting}
use Rattle.volume_machine.specs.declared.keys.Keys.{Keys}
use Rattle.hotzone.specs.ZoneEvents.Heads.{header_on}
use Rattle.hotzone.specs.ZoneEvents.Works.{layout_for}
use Rattle.image_laws.specs.Led.Holding.{TellsLawfully}

-- ---- a header that passed all checks
-- It breaks no rule for disks of these sizes, on which both its copies have room in front of its
-- areas; and by it a conversion is under way that is led on under these keys.
pub record HasPassed {C : Type 0} (sector : C → ℕ) (sealed opened : C → ℕ → List ℕ → List ℕ)
    (sizes : Sizes) (handed : SideKeys) (header : Stored) (keys : Keys C) : Type 0 where
  pub stored : IsStored header
  pub sizes_are : header.valid.sizes ≡ sizes
  pub sound : IsSound header.valid.meta sizes
  pub begin : areas_begin header.valid.meta.config ≡ 2 * header.copies.used.header.hdr_size
  pub room : 2 * header.copies.used.header.hdr_size ≤ header_bytes sizes
  pub conversion : IsConversion sector sealed opened header.valid.meta sizes handed keys

-- It is the one that disks held, where they tell what they hold, and asks for this repair.
pub record IsFound {C : Type 0} (sector : C → ℕ) (sealed opened : C → ℕ → List ℕ → List ℕ)
    (sizes : Sizes) (handed : SideKeys) (old : Joint) : Type 0 where
  pub header : Stored
  pub keys : Keys C
  pub passed : HasPassed sector sealed opened sizes handed header keys
  pub held : (first : List ℕ) → (joined_disk old).values ≡ Some first
      → stored_in sizes (front_of sizes first) ≡ Ok header
  pub repair : Option Repair
  pub asked : IsRepairFor header.copies repair

-- ---- a volume that was opened
-- a volume of so many lanes that has what its conversion takes, behind this header
abbrev pub armed_volume : {C : Type 0} → Stored → ℕ → State (Keys C) → State (Keys C)
armed_volume header lanes volume =
    record (new_volume volume.map volume.keys lanes volume.disk) {
      work = Some (resting
          (layout_for header.valid.sizes.atom header.copies.used.header.hdr_size)
          (header_on header) converting);
    }

-- All checks passed of a header, on a disk on which then the copy that lacked or was older was written
-- anew, and synced, and the zone that was open, where there was one, was written again. The volume
-- lies where the last header says, under these keys, and its conversion goes on by that header; its
-- disk tells its table and its bytes alike.
pub record IsLedOn {C : Type 0} (sector : C → ℕ) (sealed opened : C → ℕ → List ℕ → List ℕ) (sizes : Sizes)
    (header : Stored) (keys : Keys C) (repair : Option Repair) (lanes : ℕ) (old : Device)
    (volume : State (Keys C)) : Type 0 where
  pub mended : Device
  pub repairs : RepairRun repair old mended succeeded
  pub last : Stored
  pub leads : LeadsTo sector sealed opened header keys mended volume.disk last
  pub sizes_are : last.valid.sizes ≡ sizes
  pub keys_are : volume.keys ≡ keys
  pub map : IsMapOf last.valid.meta sizes volume.map
  pub armed : volume ≡ armed_volume last lanes volume
  pub tells : TellsLawfully volume.disk

-- A volume was opened of disks: they were synced, and then read; and it is led on by the header that
-- was found, under the keys of its sides.
pub record IsOpenedOf {C : Type 0} (sector : C → ℕ) (sealed opened : C → ℕ → List ℕ → List ℕ)
    (sizes : Sizes) (handed : SideKeys) (lanes : ℕ) (old : Joint) (volume : State (Keys C))
    : Type 0 where
  pub found : IsFound sector sealed opened sizes handed old
  pub read : Joint
  pub first : SyncsAndReads old read
  pub led : IsLedOn sector sealed opened sizes found.header found.keys found.repair lanes
      (joined_disk read) volume

-- ---- an opening that made none
-- All checks passed of a header, and a call of its repair failed; or one by which the open zone was
-- written again; or all were done, and memory was wanted for the buffer of the conversion.
pub data IsNotLedOn {C : Type 0} (sector : C → ℕ) (sealed opened : C → ℕ → List ℕ → List ℕ) (header : Stored)
    (keys : Keys C) (repair : Option Repair) (old new : Device) (cause : ConversionCause) : Type 0
  where
    unrepaired : RepairRun repair old new failed_call → cause ≡ device_failed
        → IsNotLedOn sector sealed opened header keys repair old new cause
    unmended : (mended : Device) → RepairRun repair old mended succeeded
        → MendsZone sector sealed opened header keys mended new failed_call → cause ≡ device_failed
        → IsNotLedOn sector sealed opened header keys repair old new cause
    unarmed : (mended : Device) → RepairRun repair old mended succeeded → (last : Stored)
        → LeadsTo sector sealed opened header keys mended new last → cause ≡ no_memory
        → IsNotLedOn sector sealed opened header keys repair old new cause

-- What is left of disks that had the first of these sizes and have the second: where nothing was
-- written they are the same. Memory for the lanes was wanted before any call; or the first sync
-- failed; or the disks were synced, and then only read; or all checks passed, and then something
-- failed.
pub data IsUnopened {C : Type 0} (sector : C → ℕ) (sealed opened : C → ℕ → List ℕ → List ℕ)
    (sizes later : Sizes) (handed : SideKeys) (old new : Joint) (cause : ConversionCause) : Type 0
  where
    uncalled : later ≡ sizes → new ≡ old → cause ≡ no_memory
        → IsUnopened sector sealed opened sizes later handed old new cause
    unsynced : later ≡ sizes → SyncCall (joined_disk old) (joined_disk new) failed_call
        → cause ≡ device_failed → IsUnopened sector sealed opened sizes later handed old new cause
    only_read : later ≡ sizes → SyncsAndReads old new
        → IsUnopened sector sealed opened sizes later handed old new cause
    not_led_on : (found : IsFound sector sealed opened sizes handed old) (read : Joint)
        → SyncsAndReads old read
        → IsNotLedOn sector sealed opened found.header found.keys found.repair (joined_disk read)
        (joined_disk new) cause
        → IsUnopened sector sealed opened sizes later handed old new cause
