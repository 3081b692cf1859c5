-- The volume on a disk under a passphrase, whether it is being converted or not.
use Rattle.std.specs.Prelude.{ℕ, ◌≡◌, ◌≢◌, ◌⊎◌, Bool, true, false, List, None, Some, IsSome}
use Rattle.bays.specs.Stories.{LinkState}
use Rattle.base_terms.specs.declared.disk_sizes.Sizes.{Sizes}
use Rattle.reenc_tool.specs.Beside.{HasServedConverting, IsServedAlone}
use Rattle.reenc_tool.specs.Encrypted.{HandsBack}
use Rattle.reenc_tool.specs.Outcomes.{Coming, Outcome}
use Rattle.reenc_tool.specs.Runs.{VolumeKeys}
use Rattle.reenc_tool.specs.declared.opening.NoVolume.{NoVolume}
use Rattle.reenc_tool.specs.declared.opening.NoVolume.TheVariants as reasons
use Rattle.resume_disk.specs.Refusals.{IsRefusedBy}
use Rattle.resume_disk.specs.Resuming.{IsOpenedMidway}
use Rattle.resume_disk.specs.declared.refusal.Refusal.TheVariants.{Idle}
use Rattle.sector_disk.specs.Devices.{Device}
use Rattle.volume_core.specs.Zones.{IsReadBy}
use Rattle.volume_laws.specs.Converting.{IsInOrder}
use Rattle.volume_machine.specs.Seals.{Seals}
use Rattle.volume_machine.specs.States.{State}
use Rattle.volume_machine.specs.declared.keys.Keys.{Keys}
use Rattle.volume_opening.specs.Openings.{IsOpenedBy}
use Rattle.volume_opening.specs.Refusals.{IsUnopenedBy}
use Rattle.volume_opening.specs.declared.refusal.Refusal.TheVariants.{InProgress}
use Rattle.hotzone.specs.ZoneEvents.Readings.{reading_of}

-- it was opened, with so many lanes, or its conversion was taken up
abbrev pub IsAnyVolume : {C : Type 0} → (C → ℕ) → (C → ℕ → List ℕ → List ℕ)
    → (C → ℕ → List ℕ → List ℕ) → Device → List ℕ → ℕ → State (Keys C) → Type 0
IsAnyVolume sector sealed opened device pass lanes volume =
    IsOpenedBy sector sealed opened device pass lanes volume
    ⊎ IsOpenedMidway sector sealed opened device pass lanes volume

-- It wasn't, and not since a conversion is under way; or its conversion wasn't, and, of a disk that told
-- its bytes, not since none is.
abbrev pub IsNoVolume : {C D : Type 0} → (C → ℕ) → (C → ℕ → List ℕ → List ℕ)
    → (C → ℕ → List ℕ → List ℕ) → (D → Device) → D → List ℕ → NoVolume D → Type 0
IsNoVolume sector sealed opened device disk pass (reasons.Idle u) =
    (u.refusal ≢ InProgress) × IsUnopenedBy device disk pass u.refusal u.header u.disk
IsNoVolume sector sealed opened device disk pass (reasons.Midway r) =
    ((first : List ℕ) → (device disk).values ≡ Some first → r.refusal ≢ Idle)
    × IsRefusedBy sector sealed opened device disk pass r.refusal r.header r.disk

-- ---- sessions over either
-- nothing is converted: none is wanted, or the volume has no conversion
abbrev pub IsLeftAlone : Bool → State VolumeKeys → Type 0
IsLeftAlone converts volume = (converts ≡ false) ⊎ (volume.work ≡ None)

-- what its conversion takes stands apart then; else the conversion is led on, by each sizes by which the
-- header of the volume is read, and by that it is in order
abbrev pub IsServedAs : {L : Type 0} → (L → LinkState) → Bool → State VolumeKeys → Seals → Device
    → List L → Coming L → Type 0
IsServedAs state converts volume seals left begun came =
    (IsLeftAlone converts volume × IsServedAlone state volume seals left begun came)
    ⊎ ((converts ≡ true) × IsSome volume.work
    × ((sizes : Sizes) → IsReadBy sizes volume → IsInOrder (reading_of sizes) volume
    → HasServedConverting state sizes volume seals left begun came))

-- the same with the disks that are handed back
pub record RanAs {D L : Type 0} (device : D → Device) (state : L → LinkState) (converts : Bool)
    (volume : State VolumeKeys) (seals : Seals) (begun : List L) (outcome : Outcome D L) : Type 0
  where
    pub left : Device
    pub came : Coming L
    pub served : IsServedAs state converts volume seals left begun came
    pub back : HandsBack device left came outcome
