-- The conversion's part of a volume: the zone at hand, how far it has come, the blocks that it
-- governs, and what is left to do behind the last zone.
use Rattle.std.specs.Prelude.{ℕ, List}
use Rattle.base_terms.specs.declared.block_range.BlockRange.{BlockRange}
use Rattle.crash_laws.specs.HeaderAreas.Areas.{Area}
use Rattle.crash_laws.specs.HeaderAreas.Headers.{Layout, Header}
use Rattle.crash_laws.specs.HotZones.Zones.{Hotzone, Phase, saving, journal}

-- A part of the zone's atoms on its way, at most 1 MiB of them, from this atom of the zone on: it
-- is still to be read; it was read, as it is on the disk.
pub data Part : Type 0 where
  wanted : (first : ℕ) → Part
  fetched : (first : ℕ) (old : List ℕ) → Part

-- How far the conversion is: blocks are left to convert; the header is to be, or is, that of the
-- finished volume, and these areas of dropped keyslots are still to be wiped; nothing is left.
pub data Progress : Type 0 where
  converting : Progress
  wiping : (areas : List Area) → Progress
  complete : Progress

-- Where the header's copies lie; the zone, how far it has come, its blocks, and the part of it that
-- is on its way; and how far the conversion is. From the zone's first sync on, when what its blocks
-- hold is certain, until its header says that they are new, its blocks are known by its steps. So it
-- is after a fault that broke the volume, when no step of it is left. Between two zones this is a
-- zone without blocks.
pub record Work : Type 0 where
  pub layout : Layout
  pub zone : Hotzone (List ℕ)
  pub phase : Phase
  pub range : BlockRange
  pub part : Part
  pub progress : Progress

-- the zone after a step, and once its headers are named
abbrev pub advanced : Work → Phase → Part → Work
advanced work phase part = record work { phase = phase; part = part }

abbrev pub named : Work → Header (List ℕ) → Header (List ℕ) → Work
named work opened moved =
    record work { zone = record work.zone { opened = opened; moved = moved } }

-- ---- zones without blocks
abbrev pub nowhere : Area
nowhere = record { start = 0; count = 0 }

abbrev pub no_blocks : BlockRange
no_blocks = record { start = 0; end = 0 }

-- a zone that leads from a header to the next one, and governs no block
abbrev pub empty_zone : Header (List ℕ) → Header (List ℕ) → Hotzone (List ℕ)
empty_zone from to = record {
  resilience = journal;
  own = nowhere;
  target = nowhere;
  store = nowhere;
  before = from;
  opened = from;
  moved = to;
}

-- between two zones, under this header
abbrev pub resting : Layout → Header (List ℕ) → Progress → Work
resting layout header progress = record {
  layout = layout;
  zone = empty_zone header header;
  phase = saving 0;
  range = no_blocks;
  part = wanted 0;
  progress = progress;
}
