-- A zone of a conversion is saved, opened, written and moved over: what each image stands for that a
-- stop leaves of that.
use Rattle.std.specs.Prelude.{ℕ, ◌≡◌, ◌⊎◌, ◌+◌, ◌*◌, ◌<◌, ◌≤◌, Bool, List, length, replicate, Some}
use Rattle.std.specs.Prelude.{Contains, Ok}
use Rattle.base_terms.specs.Blocks.{joined, lengths}
use Rattle.crash_laws.specs.HeaderAreas.Commits.{IsDated}
use Rattle.crash_laws.specs.HeaderAreas.Headers.{Handed, IsGenuine, IsHeader, Layout}
use Rattle.base_terms.specs.declared.disk_sizes.Sizes.{Sizes}
use Rattle.sector_disk.specs.DiskViews.Parts.{block_at, cell_in}
use Rattle.sector_disk.specs.DiskViews.Views.{IsOutside, view_of_cells}
use Rattle.crash_laws.specs.HotZones.Standing.{IsKept, IsWithin}
use Rattle.crash_laws.specs.HotZones.Zones.{Hotzone, Phase, ShowsZone, Texts, from_of, moving}
use Rattle.crash_laws.specs.HotZones.Zones.{opening, saving, stage_of, to_of, writing}
use Rattle.luks_store.specs.Copying.Meanings.{header_reader, meaning_of}
use Rattle.luks_rules.specs.Shapes.{progress_of}
use Rattle.luks_rules.specs.declared.shape.Progress.{Progress}
use Rattle.luks_store.specs.Devices.{front_of}
use Rattle.luks_store.specs.Loads.{IsStored, stored_in}
use Rattle.luks_store.specs.declared.loaded.Stored.{Stored}
use Rattle.image_laws.specs.Opened.Images.{seals_at}
use Rattle.image_laws.specs.Opened.Mending.{IsZoneOf, MovesOver}
use Rattle.reenc_meta.specs.Layouts.{progress_at}
use Rattle.reenc_meta.specs.Moves.{IsGoneTo, old_blocks, opened}
use Rattle.reenc_meta.specs.Placements.{place_of}
use Rattle.reenc_recovery.specs.Images.{StandsUnder}
use Rattle.sector_disk.specs.Cells.{Cell, IsImage}
use Rattle.segment_map.specs.declared.Side.TheVariants.{New, Old}
use Rattle.volume_machine.specs.Saved.{saved_hash}
use Rattle.volume_machine.specs.Seals.{AreLawful, Seals}
use Rattle.image_laws.specs.Led.Turned.{ClosedBy, StandsBy}

-- ---- the headers of a zone
-- the conversion with the next zone of so many blocks open
abbrev pub open_in : ℕ → Progress → Progress
open_in blocks c = progress_at (opened c.conversion.direction blocks c.plan) c

-- By the first a conversion is under way and no zone is open; by the second the next zone of so many
-- blocks is; by the third the boundary is moved over it. Blocks are written in their places.
pub record LeadsOver (sizes : Sizes) (before header next : Stored) (closed : Progress) (blocks : ℕ)
    : Type 0 where
  pub stored : IsStored before
  pub sizes_are : before.valid.sizes ≡ sizes
  pub known : progress_of before.valid.meta sizes ≡ Some closed
  pub none : closed.plan.zone ≡ 0
  pub left : blocks ≤ old_blocks closed.conversion.direction closed.plan
  pub opens : IsGoneTo before.valid.meta sizes closed
      (opened closed.conversion.direction blocks closed.plan) header.valid.meta
  pub moves : MovesOver sizes header next (open_in blocks closed)

-- The zone of the laws of zones is that one; what is saved of it lies in front of the volume's blocks.
pub record IsLedZone (sizes : Sizes) (before header next : Stored) (c : Progress) (layout : Layout)
    (zone : Hotzone (List ℕ)) : Type 0 where
  pub opened : IsZoneOf sizes header next c layout zone
  pub closed : zone.before.means ≡ meaning_of before.copies.used.bytes
  pub whole : IsHeader header_reader zone.before
  pub same_size : header_reader.size zone.opened.means ≡ header_reader.size zone.before.means
  pub store : zone.store.start + zone.store.count ≤ place_of sizes c.old

-- its old atoms are those that these bytes have, and its new ones are they sealed anew; and it has
-- what its guard needs
pub record AreFirstIn (atom start : ℕ) (seals : Seals) (zone : Hotzone (List ℕ)) (first : List ℕ)
    (texts : Texts) : Type 0 where
  pub old : (i : ℕ) → i < zone.own.count
      → texts.old i ≡ block_at atom first (zone.own.start + i)
  pub new : (i : ℕ) → i < zone.own.count → texts.new i
      ≡ seals.sealed New (start + i) (seals.opened Old (start + i) (texts.old i))
  pub kept : IsKept zone.resilience saved_hash zone texts

-- ---- the phases
abbrev pub IsLed : Phase → Type 0
IsLed (saving n) = Unit {0}
IsLed (opening stage) = Unit {0}
IsLed (writing n) = Unit {0}
IsLed (moving stage) = Unit {0}
IsLed _ = ⊥

-- What is known of the disk meanwhile: of the zone and of both copies what the laws of zones say; each
-- other atom behind the copies, but for those in which something is saved, holds for certain what
-- these bytes have there.
pub record ShowsLeading (sizes : Sizes) (layout : Layout) (zone : Hotzone (List ℕ)) (texts : Texts)
    (phase : Phase) (broken : Bool) (first : List ℕ) (cells : List Cell) : Type 0 where
  pub phased : IsLed phase
  pub shows : ShowsZone sizes.atom layout zone texts phase broken (view_of_cells cells)
  pub rest : (place : ℕ) → layout.second.start + layout.second.count ≤ place
      → place < length cells → IsOutside zone.own.start zone.own.count place
      → IsOutside zone.store.start zone.store.count place → (value : List ℕ)
      → Contains (cell_in cells place).candidates value → value ≡ block_at sizes.atom first place
  pub long : length first ≡ length cells * sizes.atom
  pub header_atoms : sizes.header_atoms ≤ length cells
  pub within : IsWithin (length cells) zone

-- an image that a stop leaves of it, of whole atoms, in which no torn copy is valid
pub record IsLeftWhile (sizes : Sizes) (zone : Hotzone (List ℕ)) (phase : Phase) (cells : List Cell)
    (image : List (List ℕ)) : Type 0 where
  pub is : IsImage cells image
  pub even : lengths image ≡ replicate (length cells) sizes.atom
  pub handed : Handed
  pub dated : IsDated header_reader (from_of zone phase) (to_of zone phase) (stage_of phase) handed
  pub genuine : IsGenuine header_reader (header_reader.size (from_of zone phase).means) handed
      (front_of sizes (joined image))

-- what it stands for, by which header: the one without an open zone, or with it, or with the boundary
-- moved over it
abbrev pub StandsLed : Sizes → Stored → Stored → Stored → List ℕ → List ℕ → List ℕ
    → List (List ℕ) → Type 0
StandsLed sizes before header next old new now content =
    ClosedBy sizes before old new now content ⊎ StandsBy sizes header next old new now content

-- It stands for what the bytes stood for from which the zone is led, by the header that it has itself.
abbrev pub LeadingsKeepImages : Type 0
LeadingsKeepImages =
    (sizes : Sizes) (before header next stored : Stored) (closed : Progress) (blocks : ℕ)
    (layout : Layout) (zone : Hotzone (List ℕ)) (texts : Texts) (phase : Phase) (broken : Bool)
    (first : List ℕ) (cells : List Cell) (image : List (List ℕ)) (old new : List ℕ)
    (content : List (List ℕ)) → 0 < sizes.atom
    → AreLawful sizes.atom (seals_at sizes.atom (open_in blocks closed) old new)
    → LeadsOver sizes before header next closed blocks
    → IsLedZone sizes before header next (open_in blocks closed) layout zone
    → AreFirstIn sizes.atom (open_in blocks closed).plan.first
    (seals_at sizes.atom (open_in blocks closed) old new) zone first texts
    → ShowsLeading sizes layout zone texts phase broken first cells
    → IsLeftWhile sizes zone phase cells image
    → stored_in sizes (front_of sizes first) ≡ Ok stored → stored.valid ≡ before.valid
    → StandsUnder sizes old new first content
    → StandsLed sizes before header next old new (joined image) content
