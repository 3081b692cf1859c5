-- The zone that a conversion has open by a header: where its blocks lie, and where what guards them
-- is saved.
use Rattle.std.specs.Prelude.{◌+◌, ◌/◌, []}
use Rattle.crash_laws.specs.HeaderAreas.Headers.{Header}
use Rattle.base_terms.specs.declared.disk_sizes.Sizes.{Sizes}
use Rattle.crash_laws.specs.HotZones.Zones.{Hotzone, checksum, datashift, journal}
use Rattle.crash_laws.specs.HotZones.Zones.{Resilience as Guard}
use Rattle.luks_meta.specs.declared.reencrypt.Resilience.{Resilience}
use Rattle.luks_meta.specs.declared.reencrypt.Resilience.TheVariants.{Checksum, Datashift, Journal}
use Rattle.luks_rules.specs.declared.shape.Progress.{Progress}
use Rattle.reenc_meta.specs.Placements.{place_of}
use Rattle.volume_machine.specs.Saved.{saved_atoms}

-- what guards zones, as the laws of zones name it
abbrev pub guard_of : Resilience → Guard
guard_of Journal = journal
guard_of (Checksum bytes) = checksum
guard_of (Datashift bytes) = datashift

-- a header of which nothing is asked
abbrev pub any_header : Header (Unit {0})
any_header = record { means = tt; first = []; second = [] }

-- The zone as the laws of zones name it: the old places of its blocks, from the first one of them
-- on, and the atoms of the area that guards it in which something is saved of them.
abbrev pub zone_of : Sizes → Progress → Hotzone (Unit {0})
zone_of sizes c = record {
  resilience = guard_of c.conversion.resilience;
  own = record { start = place_of sizes c.old + c.plan.first; count = c.plan.zone };
  target = record { start = 0; count = 0 };
  store = record {
    start = c.conversion.area.offset / sizes.atom;
    count = saved_atoms (guard_of c.conversion.resilience) sizes.atom c.plan.zone;
  };
  before = any_header;
  opened = any_header;
  moved = any_header;
}
