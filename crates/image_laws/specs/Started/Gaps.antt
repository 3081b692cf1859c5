-- Bytes that are written into a gap of a header's keyslots area.
use Rattle.std.specs.Prelude.{ℕ, ◌≡◌, ◌+◌, ◌-◌, ◌*◌, ◌%◌, ◌<◌, ◌≤◌, ◌⊎◌, List, [], ◌∷◌, length}
use Rattle.std.specs.Prelude.{take, drop, Option, Some, None, Ok}
use Rattle.std.specs.List.{All, filter_map}
use Rattle.base_terms.specs.declared.disk_sizes.Sizes.{Sizes}
use Rattle.sector_disk.specs.DiskViews.Parts.{block_at}
use Rattle.luks_meta.specs.declared.keyslot.Keyslot.{Keyslot}
use Rattle.luks_meta.specs.declared.keyslot.Keyslot.TheVariants as keyslots
use Rattle.luks_meta.specs.declared.meta.Parts.{Parts}
use Rattle.luks_rules.specs.Areas.{areas_begin, areas_end, end_of}
use Rattle.luks_rules.specs.Conversions.{conversions_of}
use Rattle.luks_rules.specs.States.{IsSound}
use Rattle.luks_rules.specs.declared.areas.Area.{Area}
use Rattle.luks_rules.specs.declared.conversions.Conversion.{Conversion}
use Rattle.luks_slots.specs.Gaps.{IsApart, IsFree}
use Rattle.luks_store.specs.Devices.{front_of}
use Rattle.luks_store.specs.Loads.{stored_in}
use Rattle.luks_store.specs.declared.loaded.Stored.{Stored}
use Rattle.reenc_recovery.specs.Images.{HoldsOn, KeepsContents}
use Rattle.sector_disk.specs.Geometry.{IsAtom}

-- From a byte on two images are the same, but for a run of so many bytes behind it.
pub record AgreeBut (begin offset size : ℕ) (first now : List ℕ) : Type 0 where
  pub before : take (offset - begin) (drop begin now) ≡ take (offset - begin) (drop begin first)
  pub behind : drop (offset + size) now ≡ drop (offset + size) first

-- Two images of so many atoms have the same ones from a byte on, but for those of a run of whole
-- atoms behind it.
pub record HaveAtomsBut (atom atoms begin offset size : ℕ) (first now : List ℕ) : Type 0 where
  pub first_size : length first ≡ atoms * atom
  pub now_size : length now ≡ atoms * atom
  pub begin_whole : begin % atom ≡ 0
  pub offset_whole : offset % atom ≡ 0
  pub size_whole : size % atom ≡ 0
  pub behind : begin ≤ offset + size
  pub within : offset + size ≤ atoms * atom
  pub same : (k : ℕ) → k < atoms → begin ≤ k * atom
      → (k * atom < offset) ⊎ (offset + size ≤ k * atom)
      → block_at atom now k ≡ block_at atom first k

-- So they are the same but for its bytes.
abbrev pub AtomsAgree : Type 0
AtomsAgree = (atom atoms begin offset size : ℕ) (first now : List ℕ) → 0 < atom
    → HaveAtomsBut atom atoms begin offset size first now
    → AgreeBut begin offset size first now

-- What is written in front of the byte leaves it so.
abbrev pub FrontsLeaveAgreed : Type 0
FrontsLeaveAgreed = (begin offset size : ℕ) (first between now : List ℕ) → begin ≤ offset + size
    → AgreeBut begin offset size first between → drop begin now ≡ drop begin between
    → AgreeBut begin offset size first now

-- ---- runs in the keyslots area
-- the area of a keyslot that has a key
abbrev pub key_area : Keyslot → Option Area
key_area (keyslots.Luks2 s) = Some (record { offset = s.area.offset; size = s.area.size })
key_area (keyslots.Reencrypt s) = None
key_area (keyslots.Unknown s) = None

abbrev pub key_areas : List (ℕ × Keyslot) → List Area
key_areas slots = filter_map (λ slot. key_area slot.1) slots

-- A run ends within the keyslots area, in front of all data, and is in no area that has a key.
pub record SparesKeys (m : Parts) (offset size : ℕ) : Type 0 where
  pub before : offset + size ≤ areas_end m.config
  pub apart : All (IsApart offset size) (key_areas m.keyslots)

-- So it is with a run that is free.
abbrev pub GapsSpareKeys : Type 0
GapsSpareKeys = (m : Parts) (besides : List Area) (atom offset size : ℕ)
    → IsFree m besides atom size offset → SparesKeys m offset size

-- A run of some bytes is one of the area that guards a conversion's zones.
pub record IsInGuard (m : Parts) (offset size : ℕ) : Type 0 where
  pub conversion : Conversion
  pub only : conversions_of m.keyslots ≡ conversion ∷ []
  pub some : 0 < size
  pub from : conversion.area.offset ≤ offset
  pub to : offset + size ≤ end_of conversion.area

-- And with that, where the header breaks no rule.
abbrev pub GuardsSpareKeys : Type 0
GuardsSpareKeys = (m : Parts) (sizes : Sizes) (offset size : ℕ) → IsSound m sizes
    → IsInGuard m offset size → SparesKeys m offset size

-- ---- headers
-- The first holds this header. The other holds one of the same metadata, and behind both copies
-- what the first has there, but for a run of bytes.
pub record HoldsBut (sizes : Sizes) (header : Stored) (offset size : ℕ) (first now : List ℕ)
    : Type 0 where
  pub was : stored_in sizes (front_of sizes first) ≡ Ok header
  pub stored : Stored
  pub held : stored_in sizes (front_of sizes now) ≡ Ok stored
  pub same : stored.valid ≡ header.valid
  pub agree : AgreeBut (areas_begin header.valid.meta.config) offset size first now

-- Where the run spares the keys the other stands for what the first stands for, and for nothing
-- else, whether the volume is being converted or not.
abbrev pub RunsKeepContents : Type 0
RunsKeepContents =
    (sizes : Sizes) (header : Stored) (offset size : ℕ) (first now : List ℕ) → IsAtom sizes.atom
    → SparesKeys header.valid.meta offset size → HoldsBut sizes header offset size first now
    → KeepsContents sizes first now

-- So it does where they differ in front of the keyslots area alone.
abbrev pub FrontsKeepContents : Type 0
FrontsKeepContents = (sizes : Sizes) (header : Stored) (first now : List ℕ) → IsAtom sizes.atom
    → HoldsOn sizes header first now → KeepsContents sizes first now
