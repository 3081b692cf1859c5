-- Where the blocks of a zone lie, and its parts.
use Rattle.std.specs.Prelude.{ℕ, ◌≡◌, ◌+◌, ◌-◌, ◌*◌, ◌/◌, ◌%◌, min}
use Rattle.base_terms.specs.Ranges.Blocks.{len_of}
use Rattle.crash_laws.specs.HotZones.Zones.{Resilience as Kind, journal, checksum}
use Rattle.hotzone.specs.declared.site.Guard.{Guard}
use Rattle.hotzone.specs.declared.site.Guard.TheVariants as guards
use Rattle.hotzone.specs.declared.site.Site.{Site}
use Rattle.luks_meta.specs.declared.reencrypt.Resilience.{Resilience}
use Rattle.luks_meta.specs.declared.reencrypt.Resilience.TheVariants.{Journal, Checksum, Datashift}
use Rattle.segment_map.specs.Maps.{most_bytes}
use Rattle.segment_map.specs.Sides.{left_of}
use Rattle.segment_map.specs.declared.Direction.{Direction}
use Rattle.segment_map.specs.declared.Direction.TheVariants.{Forward, Backward}
use Rattle.segment_map.specs.declared.map.Map.{Map}
use Rattle.volume_machine.specs.Saved.{saved_atoms, saved_before}

-- of the blocks of a zone something is saved before they are written anew
abbrev pub IsSaved : Resilience → Type 0
IsSaved Journal = Unit {0}
IsSaved (Checksum n) = Unit {0}
IsSaved (Datashift n) = ⊥

-- what guards a zone; where blocks are shifted no zone is opened, and nothing is
abbrev pub guard_of : Resilience → Guard
guard_of Journal = guards.Journal
guard_of (Checksum n) = guards.Checksum
guard_of (Datashift n) = guards.Journal

-- so in the words of the laws of zones
abbrev pub kind_of : Guard → Kind
kind_of guards.Journal = journal
kind_of guards.Checksum = checksum

-- the blocks of the next zone: the old ones beside the boundary, as many as there is room for
abbrev pub next_count : Map → ℕ → ℕ
next_count map room = min (left_of map.direction map.blocks map.boundary) room

abbrev pub start_by : Direction → ℕ → ℕ → ℕ
start_by Forward boundary count = boundary
start_by Backward boundary count = boundary - count

abbrev pub next_start : Map → ℕ → ℕ
next_start map room = start_by map.direction map.boundary (next_count map room)

-- where they lie, and from which atom on what is saved of them
abbrev pub site_by : Map → ℕ → ℕ → Guard → Site
site_by map room store guard = record {
  blocks = record { start = next_start map room; end = next_start map room + next_count map room };
  atom = map.atom;
  own = map.old_place + next_start map room;
  store = store;
  guard = guard;
}

-- how many blocks a zone has; how many of them the part has that begins behind so many, 1 MiB at
-- most; and its bytes
abbrev pub count_of : Site → ℕ
count_of site = len_of site.blocks

abbrev pub part_at : Site → ℕ → ℕ
part_at site done = min (count_of site - done) (most_bytes / site.atom)

abbrev pub bytes_at : Site → ℕ → ℕ
bytes_at site done = part_at site done * site.atom

-- how many atoms are saved of all its blocks; behind how many of them those of the part come that
-- begins behind so many blocks
abbrev pub saved_count : Site → ℕ
saved_count site = saved_atoms (kind_of site.guard) site.atom (count_of site)

abbrev pub saved_at : Site → ℕ → ℕ
saved_at site done = saved_before (kind_of site.guard) site.atom done

-- a part begins behind whole ones of 1 MiB
abbrev pub IsPartStart : Site → ℕ → Type 0
IsPartStart site done = done % (most_bytes / site.atom) ≡ 0
