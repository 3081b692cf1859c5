-- What is answered to the one who has a conversion begun on a disk by a passphrase.
use Rattle.std.specs.Prelude.{ℕ, ◌≡◌, List, Option, Some, None, Result}
use Rattle.base_terms.specs.declared.failed.Failed.{Failed}
use Rattle.header_report.specs.Examinations.{sizes_alone}
use Rattle.luks_init.specs.DiskInit.Calls.{IsBegunOf, IsUnopenedOf, IsUnreadyOf}
use Rattle.luks_init.specs.DiskInit.Tables.{TellsThroughout}
use Rattle.luks_init.specs.DiskInit.Unlocking.{IsLinearOn, IsNotLinear, IsUnlockedOn}
use Rattle.luks_init.specs.declared.init_disk.refusal.Refusal.{Refusal}
use Rattle.luks_init.specs.declared.init_disk.refusal.Refusal.TheVariants as refusals
use Rattle.luks_init.specs.declared.wish.Wish.{Wish}
use Rattle.reenc_recovery.specs.declared.fault.OpenCause.{OpenCause}
use Rattle.sector_disk.specs.Devices.{Device, failed_call, succeeded}
use Rattle.volume_opening.specs.Refusals.{IsUnopenedBy}
use Rattle.volume_opening.specs.Shorts.{IsShort}
use Rattle.volume_opening.specs.declared.refusal.Refusal.TheVariants as openings

-- The header and the key were found on a disk, which was only read. Then the conversion was begun
-- under them; or all was made, and a call by which it is written failed. By the header with which it
-- began nothing is lost: at most one keyslot holds the volume's key, unless they may go, and no bytes
-- that may be sectors of the volume lie behind the last whole atom. Of a disk that told its bytes, each image of each table that it tells since the first
-- sync stands for what they stood for.
pub record IsBegunUnder (device : Device) (w : Wish) (pass seed : List ℕ) (back : Device)
    (result : Result (Unit {0}) Failed) : Type 0 where
  pub key : Option (List ℕ)
  pub read : Device
  pub unlocked : IsUnlockedOn device pass key read
  pub begun : IsBegunOf (sizes_alone device) key w pass seed read back result
  pub tables : (first : List ℕ) → device.values ≡ Some first
      → TellsThroughout (sizes_alone device) pass first begun.header begun.slot device back

-- A conversion was begun on a disk, which is handed back.
abbrev pub IsStartedBy : {D : Type 0} → (D → Device) → D → Wish → List ℕ → List ℕ → D → Type 0
IsStartedBy device disk w pass seed back =
    IsBegunUnder (device disk) w pass seed (device back) succeeded

-- ---- where none is
-- The header and the key that were found opened no volume. A disk that told its bytes has this
-- header, and the key is one of its segment's digest, so there memory was wanted, or a device call
-- failed.
pub record IsUnopenedUnder (device : Device) (w : Wish) (pass seed : List ℕ) (cause : OpenCause)
    (back : Device) : Type 0 where
  pub key : Option (List ℕ)
  pub read : Device
  pub unlocked : IsUnlockedOn device pass key read
  pub unopened : IsUnopenedOf (sizes_alone device) key w pass seed read back cause
  pub short : (bytes : List ℕ) → device.values ≡ Some bytes → IsShort cause

-- it was synced and read under header and key, and something would be lost, or what is to be written
-- can't be made
pub record IsUnreadyUnder (device : Device) (w : Wish) (pass seed : List ℕ) (back : Device)
    (refusal : Refusal) : Type 0 where
  pub key : Option (List ℕ)
  pub read : Device
  pub unlocked : IsUnlockedOn device pass key read
  pub unready : IsUnreadyOf (sizes_alone device) key w pass seed read back refusal

-- Why no conversion was begun on a disk, and what that leaves of it.
abbrev pub IsUnstartedBy : {D : Type 0} → (D → Device) → D → Wish → List ℕ → List ℕ → Refusal → D
    → Type 0
IsUnstartedBy device disk w pass seed (refusals.Unopened (openings.Opening cause)) back =
    IsUnopenedUnder (device disk) w pass seed cause (device back)
    × IsNotLinear (device disk) (openings.Opening cause)
IsUnstartedBy device disk w pass seed (refusals.Unopened refusal) back =
    IsUnopenedBy device disk pass refusal None back × IsNotLinear (device disk) refusal
IsUnstartedBy device disk w pass seed refusals.Linear back =
    IsLinearOn (device disk) (device back)
IsUnstartedBy device disk w pass seed refusals.Memory back =
    IsUnreadyUnder (device disk) w pass seed (device back) refusals.Memory
IsUnstartedBy device disk w pass seed (refusals.Keyslots list) back =
    IsUnreadyUnder (device disk) w pass seed (device back) (refusals.Keyslots list)
IsUnstartedBy device disk w pass seed (refusals.Tail bytes) back =
    IsUnreadyUnder (device disk) w pass seed (device back) (refusals.Tail bytes)
IsUnstartedBy device disk w pass seed (refusals.Unmade fault) back =
    IsUnreadyUnder (device disk) w pass seed (device back) (refusals.Unmade fault)
IsUnstartedBy device disk w pass seed refusals.Writing back =
    IsBegunUnder (device disk) w pass seed (device back) failed_call
