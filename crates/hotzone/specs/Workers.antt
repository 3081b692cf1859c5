-- A conversion that goes on, between two of its steps.
use Rattle.std.specs.Prelude.{ℕ, ◌≡◌, ◌≢◌, ◌+◌, ◌/◌, ◌<◌, ◌≤◌, length, Some, Option, None}
use Rattle.std.specs.Prelude.{IsSomeAnd}
use Rattle.std.specs.Prelude.{if◌then◌else◌, ◌==◌}
use Rattle.base_terms.specs.declared.block_range.BlockRange.{BlockRange}
use Rattle.hotzone.specs.Endings.{IsEnding}
use Rattle.hotzone.specs.Headings.{AreOf, IsSame}
use Rattle.hotzone.specs.Sites.{IsPartStart, IsSaved, bytes_at, count_of, guard_of, part_at}
use Rattle.hotzone.specs.Sites.{saved_count, site_by}
use Rattle.hotzone.specs.declared.scratch.Scratch.{Scratch}
use Rattle.hotzone.specs.declared.site.Guard.{Guard}
use Rattle.hotzone.specs.declared.site.Guard.TheVariants as guards
use Rattle.hotzone.specs.declared.site.Site.{Site}
use Rattle.hotzone.specs.declared.worker.Ending.{Ending}
use Rattle.hotzone.specs.declared.worker.Halt.{Halt}
use Rattle.hotzone.specs.declared.worker.Headers.{Headers}
use Rattle.hotzone.specs.declared.worker.NextCall.{NextCall}
use Rattle.hotzone.specs.declared.worker.NextCall.TheVariants.{Begin, ReadFirst, SaveFirst, Read}
use Rattle.hotzone.specs.declared.worker.NextCall.TheVariants.{Save, Keep, Open, ReadAgain, Write}
use Rattle.hotzone.specs.declared.worker.NextCall.TheVariants.{Settle, Move, Finish, End, Wipe, Rest, Over}
use Rattle.hotzone.specs.declared.worker.Worker.{Worker}
use Rattle.sector_disk.specs.JoinedDisks.Counts.{HasSizes}
use Rattle.luks_store.specs.Copying.Held.{stage_in}
use Rattle.luks_store.specs.declared.header_copies.commit.Stage.{Stage}
use Rattle.luks_store.specs.declared.header_copies.commit.Stage.TheVariants.{Begun, Ended}
use Rattle.luks_rules.specs.Rooms.{capacity}
use Rattle.luks_rules.specs.Shapes.{progress_of}
use Rattle.luks_rules.specs.declared.shape.Progress.{Progress}
use Rattle.luks_store.specs.declared.commit.Prepared.{Prepared}
use Rattle.luks_store.specs.declared.loaded.Stored.{Stored}
use Rattle.reenc_meta.specs.ConversionMaps.{IsMapAt, IsMapOf}
use Rattle.reenc_meta.specs.Placements.{all_atoms}
use Rattle.resil_checksum.specs.Digests.{saved_len}
use Rattle.sector_disk.specs.Devices.{Device}
use Rattle.sector_disk.specs.Geometry.{IsAtom, IsDisk}
use Rattle.segment_map.specs.declared.Direction.{Direction}
use Rattle.segment_map.specs.declared.Direction.TheVariants.{Forward}
use Rattle.segment_map.specs.declared.map.Map.{Map}
use Rattle.volume_machine.specs.Seals.{KeysFit}
use Rattle.volume_machine.specs.Sound.{MapFits}
use Rattle.volume_machine.specs.declared.keys.Keys.{Keys}

-- ---- where it stands
-- By a header a conversion is under way, no zone of it is open, and zones are guarded by what is
-- saved of their blocks.
pub record IsClosed (before : Stored) (now : Progress) : Type 0 where
  pub known : progress_of before.valid.meta before.valid.sizes ≡ Some now
  pub closed : now.plan.zone ≡ 0
  pub guarded : IsSaved now.conversion.resilience

abbrev pub MayGoOn : Stored → Type 0
MayGoOn before =
    IsSomeAnd (progress_of before.valid.meta before.valid.sizes)
    (λ now. (now.plan.zone ≡ 0) × IsSaved now.conversion.resilience)

-- the zone that comes next by a header
pub record IsNextZone (before : Stored) (map : Map) (site : Site) : Type 0 where
  pub now : Progress
  pub is : IsClosed before now
  pub map_is : IsMapAt before.valid.sizes now map
  pub site_is : site ≡ site_by map (capacity before.valid.sizes.atom now)
      (now.conversion.area.offset / before.valid.sizes.atom) (guard_of now.conversion.resilience)

-- ---- what the next call needs
-- the headers of the zone at hand; of the one with the boundary moved nothing is written
abbrev pub AreReady : {C : Type 0} → Worker C → Headers → Type 0
AreReady worker headers =
    AreOf worker.loaded (count_of worker.site) headers.opened headers.moved
    × (stage_in headers.moved.commit.copies ≡ Begun)

-- a commit under way has a next call; of one that was halted nothing is asked
abbrev pub MayGoFrom : Option Halt → Stage → Type 0
MayGoFrom halted stage = halted ≡ None → stage ≢ Ended

-- the commit of the finished header, however far it is
abbrev pub HasEnding : Stored → Ending → Type 0
HasEnding before ending =
    (first : Prepared) × IsEnding before (record ending { commit = first })
    × IsSame first ending.commit

abbrev pub Needs : {C : Type 0} → Worker C → NextCall → Type 0
Needs worker Begin = 0 < count_of worker.site
Needs worker ReadFirst = 0 < count_of worker.site
Needs worker SaveFirst = 0 < count_of worker.site
Needs worker (Read done headers) = (done < count_of worker.site) × AreReady worker headers
    × (stage_in headers.opened.copies ≡ Begun) × IsPartStart worker.site done
Needs worker (Save done headers) = (done < count_of worker.site) × AreReady worker headers
    × (stage_in headers.opened.copies ≡ Begun) × IsPartStart worker.site done
Needs worker (Keep headers) = (0 < count_of worker.site) × AreReady worker headers
    × (stage_in headers.opened.copies ≡ Begun)
Needs worker (Open headers) = (0 < count_of worker.site) × AreReady worker headers
    × MayGoFrom worker.halted (stage_in headers.opened.copies)
Needs worker (ReadAgain done headers) = (done < count_of worker.site) × AreReady worker headers
Needs worker (Write done headers) = (done < count_of worker.site) × AreReady worker headers
Needs worker (Settle headers) = (0 < count_of worker.site) × AreReady worker headers
Needs worker (Move headers) = (0 < count_of worker.site)
    × AreOf worker.loaded (count_of worker.site) headers.opened headers.moved
    × MayGoFrom worker.halted (stage_in headers.moved.commit.copies)
Needs worker Finish = count_of worker.site ≡ 0
Needs worker (End ending) =
    HasEnding worker.loaded ending × MayGoFrom worker.halted (stage_in ending.commit.copies)
Needs worker (Wipe done ending) =
    (done < length ending.wipes.areas) × HasEnding worker.loaded ending
Needs worker (Rest ending) = HasEnding worker.loaded ending
Needs worker (Over ending) = HasEnding worker.loaded ending

-- no call is left
abbrev pub IsDone : NextCall → Type 0
IsDone (Over ending) = Unit {0}
IsDone _ = ⊥

-- a commit goes on, on a disk of its sizes
abbrev pub MayCommit : Prepared → Device → Type 0
MayCommit commit disk = (stage_in commit.copies ≢ Ended) × HasSizes commit.sizes disk

-- ---- what holds between two steps
-- What its calls touch lies on the disk, the buffer has room for a part, the keys fit, and the next
-- call has what it needs.
pub record IsWorking {C : Type 0} (sector : C → ℕ) (worker : Worker C) : Type 0 where
  pub disk : IsDisk worker.loaded.valid.sizes.atom (all_atoms worker.loaded.valid.sizes)
  pub zone : IsNextZone worker.loaded worker.map worker.site
  pub fits : MapFits worker.map (all_atoms worker.loaded.valid.sizes)
  pub own : worker.site.own + count_of worker.site ≤ all_atoms worker.loaded.valid.sizes
  pub store : worker.site.store + saved_count worker.site ≤ all_atoms worker.loaded.valid.sizes
  pub room : bytes_at worker.site 0 ≤ length worker.buffer
  pub keys : KeysFit sector worker.keys worker.map.atom worker.map.blocks
  pub next : Needs worker worker.next

-- What the calls of a zone touch lies on a disk, whose atoms are its own.
pub record FitsDisk {C : Type 0} (sector : C → ℕ) (worker : Worker C) (disk : Device) : Type 0 where
  pub known : IsAtom worker.site.atom
  pub size : worker.site.atom ≡ disk.size
  pub own : worker.site.own + count_of worker.site ≤ disk.atoms
  pub store : worker.site.store + saved_count worker.site ≤ disk.atoms
  pub room : bytes_at worker.site 0 ≤ length worker.buffer
  pub keys : KeysFit sector worker.keys worker.site.atom
      (worker.site.blocks.start + count_of worker.site)

-- by checksum there is room for a part that is sealed anew, and for what is saved of it
abbrev pub HasRoomBy : Guard → Site → Scratch → Type 0
HasRoomBy guards.Journal site scratch = Unit {0}
HasRoomBy guards.Checksum site scratch =
    (bytes_at site 0 ≤ length scratch.sealed)
    × (saved_len (part_at site 0) site.atom ≤ length scratch.digests)

abbrev pub HasRoom : Site → Scratch → Type 0
HasRoom site scratch = HasRoomBy site.guard site scratch

-- as much as there was
pub record IsAsLong (before after : Scratch) : Type 0 where
  pub sealed : length after.sealed ≡ length before.sealed
  pub digests : length after.digests ≡ length before.digests

-- the blocks of the zone at hand, or of the next one; none where no old block is left
abbrev pub range_in : {C : Type 0} → Worker C → Option BlockRange
range_in worker = if count_of worker.site == 0 then None else Some worker.site.blocks

-- a zone begins with a sync; without an old block there is none
abbrev pub first_call : Site → NextCall
first_call site = if count_of site == 0 then Finish else Begin

-- the volume of a header fits its disk and its keys
abbrev pub MapsFit : Stored → Type 0
MapsFit before = (map : Map) → IsMapOf before.valid.meta before.valid.sizes map
    → MapFits map (all_atoms before.valid.sizes)

abbrev pub HasKeys : {C : Type 0} → (C → ℕ) → Stored → Keys C → Type 0
HasKeys sector before keys = (map : Map) → IsMapOf before.valid.meta before.valid.sizes map
    → KeysFit sector keys map.atom map.blocks

-- a worker that begins with a header
pub record IsNew {C : Type 0} (before : Stored) (keys : Keys C) (worker : Worker C) : Type 0 where
  pub loaded : worker.loaded ≡ before
  pub keys_are : worker.keys ≡ keys
  pub zone : IsNextZone worker.loaded worker.map worker.site
  pub first : worker.next ≡ first_call worker.site
  pub runs : worker.halted ≡ None

-- ---- where the blocks of the volume lie between two steps
-- A map of the same blocks, which is so far.
pub record IsSoFar (old : Map) (boundary zone place : ℕ) (direction : Direction) (map : Map) : Type 0
  where
    pub atom : map.atom ≡ old.atom
    pub blocks : map.blocks ≡ old.blocks
    pub boundary_is : map.boundary ≡ boundary
    pub direction_is : map.direction ≡ direction
    pub zone_is : map.zone ≡ zone
    pub old_place : map.old_place ≡ place
    pub new_place : map.new_place ≡ old.new_place

-- the zone is open; none is; none of a finished volume is old
abbrev pub IsOpened : {C : Type 0} → Worker C → Map → Type 0
IsOpened worker map =
    IsSoFar worker.map worker.map.boundary (count_of worker.site) worker.map.old_place
    worker.map.direction map

abbrev pub IsDoneWith : Map → Map → Type 0
IsDoneWith old map = IsSoFar old old.blocks 0 old.new_place Forward map

-- by the header from which the commit at hand leads, or the next one
abbrev pub IsMapBy : {C : Type 0} → Worker C → NextCall → Map → Type 0
IsMapBy worker (ReadAgain done headers) map = IsOpened worker map
IsMapBy worker (Write done headers) map = IsOpened worker map
IsMapBy worker (Settle headers) map = IsOpened worker map
IsMapBy worker (Move headers) map = IsOpened worker map
IsMapBy worker (Wipe done ending) map = IsDoneWith worker.map map
IsMapBy worker (Rest ending) map = IsDoneWith worker.map map
IsMapBy worker (Over ending) map = IsDoneWith worker.map map
IsMapBy worker _ map = map ≡ worker.map

abbrev pub IsMapNow : {C : Type 0} → Worker C → Map → Type 0
IsMapNow worker map = IsMapBy worker worker.next map
