-- The work of a volume's worker that a zone's state is.
use Rattle.std.specs.Prelude.{ℕ, ◌+◌, ◌/◌, ◌==◌, List, [], map, drop, Option, Some, None}
use Rattle.std.specs.Prelude.{if◌then◌else◌}
use Rattle.crash_laws.specs.HeaderAreas.Areas.{Area as DiskArea}
use Rattle.crash_laws.specs.HeaderAreas.Commits.{Stage, failed_stage}
use Rattle.crash_laws.specs.HeaderAreas.Headers.{Header, Layout}
use Rattle.crash_laws.specs.HotZones.Zones.{Phase, from_of, saving, writing}
use Rattle.hotzone.specs.Known.{halted_in, header_by, zone_by}
use Rattle.hotzone.specs.Sites.{count_of, part_at, saved_at, saved_count}
use Rattle.hotzone.specs.Steps.{part_in}
use Rattle.hotzone.specs.declared.worker.Ending.{Ending}
use Rattle.hotzone.specs.declared.worker.Halt.{Halt}
use Rattle.hotzone.specs.declared.worker.Halt.TheVariants.{GivenUp, InCommit}
use Rattle.hotzone.specs.declared.worker.Headers.{Headers}
use Rattle.hotzone.specs.declared.worker.NextCall.{NextCall}
use Rattle.hotzone.specs.declared.worker.NextCall.TheVariants.{Begin, ReadFirst, SaveFirst, Read}
use Rattle.hotzone.specs.declared.worker.NextCall.TheVariants.{Save, Keep, Open, ReadAgain, Write}
use Rattle.hotzone.specs.declared.worker.NextCall.TheVariants.{Settle, Move, Finish, End, Wipe, Rest}
use Rattle.hotzone.specs.declared.worker.NextCall.TheVariants.{Over}
use Rattle.hotzone.specs.declared.worker.Worker.{Worker}
use Rattle.luks_store.specs.Copying.Held.{stage_in}
use Rattle.luks_store.specs.Copying.Seen.{stage_of}
use Rattle.segment_map.specs.declared.Side.TheVariants.{Old, New}
use Rattle.segment_map.specs.declared.map.Map.{Map}
use Rattle.volume_machine.specs.Seals.{Seals}
use Rattle.volume_machine.specs.WorkSteps.{closing}
use Rattle.volume_machine.specs.Works.{Part, Work, complete, converting, fetched, resting, wanted}
use Rattle.volume_machine.specs.Works.{wiping}
use Rattle.hotzone.specs.ZoneEvents.Heads.{header_on}
use Rattle.hotzone.specs.ZoneEvents.Readings.{map_of}
use Rattle.hotzone.specs.ZoneEvents.Tellings.{area_on}

-- ---- where the copies of a header lie, each of so many bytes
abbrev pub layout_for : ℕ → ℕ → Layout
layout_for atom size = record {
  first = record { start = 0; count = size / atom };
  second = record { start = size / atom; count = size / atom };
}

abbrev pub layout_of : {C : Type 0} → Worker C → Layout
layout_of worker =
    layout_for worker.loaded.valid.sizes.atom worker.loaded.copies.used.header.hdr_size

-- ---- parts
-- the first part of a zone: the one part of it is still at hand
abbrev pub first_part : {C : Type 0} → Worker C → Part
first_part worker =
    if part_at worker.site 0 == count_of worker.site then fetched 0 (part_in worker 0)
    else wanted 0

-- what blocks from one on were that are sealed anew
abbrev pub unsealed : Seals → ℕ → List ℕ → List ℕ
unsealed seals first bytes = seals.sealed Old first (seals.opened New first bytes)

-- the old atoms of a part that is written, also behind a write that failed
abbrev pub written_part : {C : Type 0} → Seals → Worker C → ℕ → Option Halt → Part
written_part seals worker done None = fetched done (part_in worker done)
written_part seals worker done (Some halt) =
    fetched done (unsealed seals (worker.site.blocks.start + done) (part_in worker done))

-- ---- a zone at hand
abbrev pub at_hand : {C : Type 0} → Layout → Worker C → Header (List ℕ) → Header (List ℕ) → Phase
    → Part → Work
at_hand layout worker opened moved phase part = record {
  layout = layout;
  zone = zone_by worker.site (header_on worker.loaded) opened moved;
  phase = phase;
  range = worker.site.blocks;
  part = part;
  progress = converting;
}

-- before its first write it leads nowhere
abbrev pub unnamed : {C : Type 0} → Layout → Worker C → Part → Work
unnamed layout worker part =
    at_hand layout worker (header_on worker.loaded) (header_on worker.loaded) (saving 0) part

abbrev pub led_by : {C : Type 0} → Layout → Worker C → Headers → Phase → Part → Work
led_by layout worker headers phase part =
    at_hand layout worker (header_by headers.opened) (header_by headers.moved.commit) phase part

-- ---- the end
-- the areas that are still to be wiped behind so many
abbrev pub areas_behind : ℕ → ℕ → Ending → List DiskArea
areas_behind atom done ending = map (area_on atom) (drop done ending.wipes.areas)

abbrev pub ended_stage : Ending → Option Halt → Stage
ended_stage ending (Some (InCommit stage)) = failed_stage (stage_of stage)
ended_stage ending halted = stage_of (stage_in ending.commit.copies)

-- ---- all of it, by the next call and by how it was halted
abbrev pub between : {C : Type 0} → Layout → Worker C → Work
between layout worker = resting layout (header_on worker.loaded) converting

unfoldable pub work_by : {C : Type 0} → Seals → Layout → Worker C → NextCall → Option Halt → Work
work_by seals layout worker next (Some GivenUp) = between layout worker
work_by seals layout worker Begin halted = between layout worker
work_by seals layout worker ReadFirst halted = unnamed layout worker (wanted 0)
work_by seals layout worker SaveFirst halted =
    unnamed layout worker (fetched 0 (part_in worker 0))
work_by seals layout worker (Read done headers) halted =
    led_by layout worker headers (saving (saved_at worker.site done)) (wanted done)
work_by seals layout worker (Save done headers) halted =
    led_by layout worker headers (saving (saved_at worker.site done))
    (fetched done (part_in worker done))
work_by seals layout worker (Keep headers) halted =
    led_by layout worker headers (saving (saved_count worker.site)) (first_part worker)
work_by seals layout worker (Open headers) halted =
    led_by layout worker headers (halted_in worker.site (Open headers) halted) (first_part worker)
work_by seals layout worker (ReadAgain done headers) halted =
    led_by layout worker headers (writing done) (wanted done)
work_by seals layout worker (Write done headers) halted =
    led_by layout worker headers (writing done) (written_part seals worker done halted)
work_by seals layout worker (Settle headers) halted =
    led_by layout worker headers (writing (count_of worker.site)) (wanted (count_of worker.site))
work_by seals layout worker (Move headers) halted =
    led_by layout worker headers (halted_in worker.site (Move headers) halted)
    (wanted (count_of worker.site))
work_by seals layout worker Finish halted = between layout worker
work_by seals layout worker (End ending) halted =
    closing layout (header_on worker.loaded) (header_by ending.commit) (ended_stage ending halted)
    (areas_behind worker.site.atom 0 ending)
work_by seals layout worker (Wipe done ending) halted =
    resting layout (header_by ending.commit) (wiping (areas_behind worker.site.atom done ending))
work_by seals layout worker (Rest ending) halted =
    resting layout (header_by ending.commit) (wiping [])
work_by seals layout worker (Over ending) halted =
    resting layout (header_by ending.commit) complete

abbrev pub work_of : {C : Type 0} → Seals → Layout → Worker C → Work
work_of seals layout worker = work_by seals layout worker worker.next worker.halted

-- the map of the volume: that of the header from which the commit at hand, or the next one, leads
abbrev pub map_in : {C : Type 0} → Seals → Layout → Worker C → Map
map_in seals layout worker =
    map_of worker.loaded.valid.sizes
    (from_of (work_of seals layout worker).zone (work_of seals layout worker).phase).means
