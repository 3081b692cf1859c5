-- An open zone by its header: where it lies, and the header with the boundary moved over it.
use Rattle.std.specs.Prelude.{◌≡◌, ◌/◌, ◌<◌, Some, IsSomeAnd}
use Rattle.hotzone.specs.Headings.{FollowsBy, IsUnmade}
use Rattle.hotzone.specs.Sites.{IsSaved, guard_of, site_by}
use Rattle.hotzone.specs.declared.site.Site.{Site}
use Rattle.hotzone.specs.declared.worker.NextHeader.{NextHeader}
use Rattle.hotzone.specs.declared.worker.ZoneFault.{ZoneFault}
use Rattle.hotzone.specs.declared.worker.ZoneFault.TheVariants as faults
use Rattle.luks_meta.specs.declared.meta.Parts.{Parts}
use Rattle.luks_rules.specs.Shapes.{progress_of}
use Rattle.luks_rules.specs.declared.shape.Progress.{Progress}
use Rattle.luks_store.specs.declared.loaded.Stored.{Stored}
use Rattle.reenc_meta.specs.ConversionMaps.{IsMapAt}
use Rattle.reenc_meta.specs.Moves.{IsGoneTo, moved}
use Rattle.segment_map.specs.declared.map.Map.{Map}
use Rattle.zone_mending.specs.declared.mender.MendFault.{MendFault}
use Rattle.zone_mending.specs.declared.mender.MendFault.TheVariants.{SeqEnd, JsonFull, Memory}

-- ---- where it lies
-- By a header a conversion is under way, a zone of it is open, and something is saved of the blocks of
-- zones.
pub record IsOpen (header : Stored) (now : Progress) : Type 0 where
  pub known : progress_of header.valid.meta header.valid.sizes ≡ Some now
  pub some : 0 < now.plan.zone
  pub guarded : IsSaved now.conversion.resilience

abbrev pub HasZone : Stored → Type 0
HasZone header =
    IsSomeAnd (progress_of header.valid.meta header.valid.sizes)
    (λ now. (0 < now.plan.zone) × IsSaved now.conversion.resilience)

-- the blocks of the open zone, beside the boundary, and what is saved of them
pub record IsOpenZone (header : Stored) (map : Map) (site : Site) : Type 0 where
  pub now : Progress
  pub is : IsOpen header now
  pub map_is : IsMapAt header.valid.sizes now map
  pub site_is : site
      ≡ site_by map map.zone (now.conversion.area.offset / header.valid.sizes.atom)
      (guard_of now.conversion.resilience)

-- ---- the header that comes behind it
-- the metadata with the boundary moved over the open zone
abbrev pub IsMoving : Stored → Parts → Type 0
IsMoving header meta =
    (now : Progress) × (progress_of header.valid.meta header.valid.sizes ≡ Some now)
    × IsGoneTo header.valid.meta header.valid.sizes now
    (moved now.conversion.direction now.plan.zone now.plan) meta

-- its commit, which may be under way, and what is loaded behind it
pub record IsMoved (header : Stored) (next : NextHeader) : Type 0 where
  pub moves : IsMoving header next.loaded.valid.meta
  pub follows : FollowsBy header next

-- why it isn't made: no number is left, or its text has no room; want of memory says nothing
abbrev pub as_zone : MendFault → ZoneFault
as_zone (SeqEnd left wanted) = faults.SeqEnd left wanted
as_zone (JsonFull len limit) = faults.JsonFull len limit
as_zone Memory = faults.Memory

abbrev pub IsNotMade : Stored → MendFault → Type 0
IsNotMade header fault = IsUnmade header 1 (IsMoving header) (as_zone fault)
