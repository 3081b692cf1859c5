-- What a volume that holds a zone knows of it between two steps: the zone that comes next may be
-- planned, its map is that of the machine, it begins in order, and its header is judged by the sizes
-- of the volume's disk.
use Rattle.std.specs.Prelude.{ℕ, ◌≡◌, ◌<◌, length, Some, None}
use Rattle.crash_laws.specs.HeaderAreas.Headers.{Layout}
use Rattle.base_terms.specs.declared.disk_sizes.Sizes.{Sizes}
use Rattle.hotzone.specs.Sites.{count_of}
use Rattle.hotzone.specs.Workers.{IsMapNow, IsNew, IsWorking}
use Rattle.hotzone.specs.declared.worker.Worker.{Worker}
use Rattle.sector_disk.specs.JoinedDisks.Counts.{HasSizes}
use Rattle.luks_rules.specs.States.{IsSound as IsRuled}
use Rattle.luks_store.specs.Loads.{IsStored}
use Rattle.luks_store.specs.declared.loaded.Stored.{Stored}
use Rattle.reenc_meta.specs.ConversionMaps.{IsMapOf}
use Rattle.segment_map.specs.declared.map.Map.{Map}
use Rattle.volume_laws.specs.Converting.{IsInOrder}
use Rattle.volume_machine.specs.Courses.{Courses, IsPlanned}
use Rattle.volume_machine.specs.Seals.{Seals}
use Rattle.volume_machine.specs.Sound.{IsSound}
use Rattle.volume_machine.specs.States.{State}
use Rattle.volume_machine.specs.Works.{wanted}
use Rattle.volume_machine.specs.declared.keys.Keys.{Keys}
use Rattle.hotzone.specs.ZoneEvents.Heads.{header_on}
use Rattle.hotzone.specs.ZoneEvents.Promises.{IsLaneFree}
use Rattle.hotzone.specs.ZoneEvents.Readings.{reading_of}
use Rattle.hotzone.specs.ZoneEvents.Works.{between, layout_of, map_in, unnamed, work_of}

-- What the zone's own type keeps (`Zone::is_working`): its calls lie on the disk, and its header is
-- one that a disk held, whose metadata break no rule.
pub record IsKept {C : Type 0} (sector : C → ℕ) (worker : Worker C) : Type 0 where
  pub working : IsWorking sector worker
  pub stored : IsStored worker.loaded
  pub ruled : IsRuled worker.loaded.valid.meta worker.loaded.valid.sizes

-- by the header that it goes by, the volume is on its course on a disk of its sizes
pub record IsOnDisk {K : Type 0} (sizes : Sizes) (state : State K) : Type 0 where
  pub sizes_are : HasSizes sizes state.disk
  pub courses : Courses (reading_of sizes) state

-- ---- The zone that comes next is one that the worker may plan, whoever holds its blocks.
abbrev pub ZonesArePlanned : {C : Type 0} → (C → ℕ) → Type 0
ZonesArePlanned {C} sector =
    (layout : Layout) (worker : Worker C) (state : State (Keys C)) → IsKept sector worker
    → IsOnDisk worker.loaded.valid.sizes state → state.work ≡ Some (between layout worker)
    → 0 < count_of worker.site
    → IsPlanned (reading_of worker.loaded.valid.sizes) state layout (header_on worker.loaded)
    (unnamed layout worker (wanted 0))

-- ---- The map that the zone shows is the one that the machine has of it.
abbrev pub MapsFollow : {C : Type 0} → (C → ℕ) → Type 0
MapsFollow {C} sector =
    (seals : Seals) (layout : Layout) (worker : Worker C) (map : Map) → IsKept sector worker
    → worker.halted ≡ None → IsMapNow worker map → map ≡ map_in seals layout worker

-- ---- A volume without a conversion's work is in order with that of a zone that begins with its
-- header, whose map it has.
abbrev pub ZonesBeginInOrder : {C : Type 0} → (C → ℕ) → Type 0
ZonesBeginInOrder {C} sector =
    (seals : Seals) (loaded : Stored) (keys : Keys C) (worker : Worker C) (state : State (Keys C))
    → IsNew loaded keys worker → IsKept sector worker
    → length worker.loaded.copies.primary.salt ≡ 64
    → length worker.loaded.copies.secondary.salt ≡ 64
    → IsSound state → state.work ≡ None → IsLaneFree state
    → HasSizes worker.loaded.valid.sizes state.disk
    → IsMapOf worker.loaded.valid.meta worker.loaded.valid.sizes state.map
    → IsInOrder (reading_of worker.loaded.valid.sizes)
    (record state { work = Some (work_of seals (layout_of worker) worker) })

-- ---- Sizes of the disk by which the volume is on its course are those that the zone's header is
-- judged by.
abbrev pub SizesAreTold : {C : Type 0} → (C → ℕ) → Type 0
SizesAreTold {C} sector =
    (seals : Seals) (layout : Layout) (sizes : Sizes) (worker : Worker C) (state : State (Keys C))
    → IsKept sector worker → state.work ≡ Some (work_of seals layout worker)
    → IsOnDisk worker.loaded.valid.sizes state → IsOnDisk sizes state → 0 < sizes.header_atoms
    → sizes ≡ worker.loaded.valid.sizes

-- ---- The machine's blocks are the zone's atoms.
abbrev pub AtomsAgree : {C : Type 0} → (C → ℕ) → Type 0
AtomsAgree {C} sector =
    (seals : Seals) (layout : Layout) (worker : Worker C) (state : State (Keys C))
    → IsKept sector worker → state.work ≡ Some (work_of seals layout worker)
    → IsOnDisk worker.loaded.valid.sizes state → state.map.atom ≡ worker.site.atom
