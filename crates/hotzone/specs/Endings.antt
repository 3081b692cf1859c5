-- The end of a conversion: the finished header, and the areas that go with it.
use Rattle.std.specs.Prelude.{ℕ, ◌≡◌, ◌+◌, ◌*◌, ◌/◌, ◌%◌, ◌≤◌, ◌==◌, ◌&&◌, nat_lt, not, Bool}
use Rattle.std.specs.Prelude.{List, [], ◌∷◌, ◌++◌, length, replicate, Some, IsSomeAnd, Result, slice_index_or}
use Rattle.std.specs.Prelude.{if◌then◌else◌}
use Rattle.std.specs.List.{All, filter, list_any}
use Rattle.base_terms.specs.declared.failed.Failed.{Failed}
use Rattle.hotzone.specs.declared.worker.Ending.{Ending}
use Rattle.hotzone.specs.declared.worker.NextCall.{NextCall}
use Rattle.hotzone.specs.declared.worker.NextCall.TheVariants.{Wipe, Rest}
use Rattle.hotzone.specs.declared.worker.Wipes.{Wipes}
use Rattle.luks_store.specs.Copying.Held.{stage_in}
use Rattle.luks_store.specs.declared.header_copies.commit.Stage.TheVariants.{Begun}
use Rattle.luks_meta.specs.declared.keyslot.Keyslot.{Keyslot}
use Rattle.luks_meta.specs.declared.meta.Parts.{Parts}
use Rattle.luks_rules.specs.Areas.{areas_of}
use Rattle.luks_rules.specs.Shapes.{progress_of}
use Rattle.luks_rules.specs.declared.areas.Area.{Area}
use Rattle.luks_rules.specs.declared.shape.Progress.{Progress}
use Rattle.luks_store.specs.Commits.{IsNext}
use Rattle.luks_store.specs.declared.loaded.Stored.{Stored}
use Rattle.reenc_meta.specs.Finishes.{IsFinished, MayFinish}
use Rattle.sector_disk.specs.Devices.{Device, WriteCall}

-- ---- which areas are filled with zeros
abbrev pub is_left : List Area → Area → Bool
is_left left area = list_any (λ a. a.offset == area.offset && a.size == area.size) left

-- those of keyslots that are there before and not after, but for the one that guarded zones
abbrev pub wiped : Area → List (ℕ × Keyslot) → List (ℕ × Keyslot) → List Area
wiped guard before after =
    filter (λ a. not (is_left (areas_of after ++ (guard ∷ [])) a)) (areas_of before)

-- ---- what is made
abbrev pub MayFinishFrom : Stored → Type 0
MayFinishFrom before = IsSomeAnd (progress_of before.valid.meta before.valid.sizes) MayFinish

-- the finished metadata
abbrev pub IsFinishing : Stored → Parts → Type 0
IsFinishing before meta =
    (now : Progress) × (progress_of before.valid.meta before.valid.sizes ≡ Some now)
    × IsFinished before.valid.meta before.valid.sizes now meta

-- there are zeros for each area
pub record HasZeros (wipes : Wipes) : Type 0 where
  pub most : ℕ
  pub zeros : wipes.zeros ≡ replicate most 0
  pub enough : All (λ a. a.size ≤ most) wipes.areas

-- the commit of the finished metadata, of which nothing is written, and the areas of the keyslots
-- that aren't in them
pub record IsEnding (before : Stored) (ending : Ending) : Type 0 where
  pub now : Progress
  pub known : progress_of before.valid.meta before.valid.sizes ≡ Some now
  pub meta : Parts
  pub finished : IsFinished before.valid.meta before.valid.sizes now meta
  pub commit : IsNext before meta ending.commit
  pub begun : stage_in ending.commit.copies ≡ Begun
  pub areas : ending.wipes.areas
      ≡ wiped now.conversion.area before.valid.meta.keyslots meta.keyslots
  pub zeros : HasZeros ending.wipes

-- ---- device calls
abbrev pub area_at : Wipes → ℕ → Area
area_at wipes done = slice_index_or wipes.areas done (record { offset = 0; size = 0 })

-- zeros are written to an area
abbrev pub WipesArea : ℕ → Wipes → Device → Device → Result (Unit {0}) Failed → Type 0
WipesArea done wipes old new result =
    WriteCall old.size ((area_at wipes done).offset / old.size)
    (replicate (area_at wipes done).size 0) old new result

-- each area lies on a disk in whole atoms
pub record IsWipable (disk : Device) (area : Area) : Type 0 where
  pub offset : area.offset % disk.size ≡ 0
  pub size : area.size % disk.size ≡ 0
  pub within : area.offset + area.size ≤ disk.atoms * disk.size

pub record AreWipable (wipes : Wipes) (disk : Device) : Type 0 where
  pub areas : All (IsWipable disk) wipes.areas
  pub zeros : HasZeros wipes

-- behind so many areas: the next one, or the last sync
abbrev pub after_wipe : ℕ → Ending → NextCall
after_wipe done ending =
    if nat_lt done (length ending.wipes.areas) then Wipe done ending else Rest ending
