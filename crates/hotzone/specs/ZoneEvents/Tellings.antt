-- What the metadata of a header tell besides the map: how its sides are sealed and which keyslots give
-- the key, what guards the zones of a conversion, and where its keyslots lie.
use Rattle.std.specs.Prelude.{ℕ, ◌/◌, not, Bool, false, List, [], ◌∷◌, map, Option, Some, None}
use Rattle.std.specs.Prelude.{option_and_then, option_map, Result, Ok, Err}
use Rattle.std.specs.List.{filter}
use Rattle.crash_laws.specs.HeaderAreas.Areas.{Area as DiskArea}
use Rattle.base_terms.specs.declared.disk_sizes.Sizes.{Sizes}
use Rattle.crash_laws.specs.HotZones.Zones.{Resilience, checksum, datashift, journal}
use Rattle.hotzone.specs.Endings.{is_left}
use Rattle.json_members.specs.declared.faults.JsonFault.{JsonFault}
use Rattle.luks_json.specs.Metas.{data_of}
use Rattle.luks_meta.specs.declared.config.Config.{Config}
use Rattle.luks_meta.specs.declared.digest.Digest.{Digest}
use Rattle.luks_meta.specs.declared.meta.Parts.{Parts}
use Rattle.luks_meta.specs.declared.reencrypt.Resilience.{Resilience as Guard}
use Rattle.luks_meta.specs.declared.reencrypt.Resilience.TheVariants as guards
use Rattle.luks_meta.specs.declared.segment.Segment.{Segment}
use Rattle.luks_meta.specs.declared.segment.SegmentSize.TheVariants.{Dynamic}
use Rattle.luks_rules.specs.Areas.{areas_of}
use Rattle.luks_rules.specs.Idles.{idle_of}
use Rattle.luks_rules.specs.References.{lists, value_at}
use Rattle.luks_rules.specs.Rules.{first_fault}
use Rattle.luks_rules.specs.Shapes.{progress_of}
use Rattle.luks_rules.specs.declared.areas.Area.{Area}
use Rattle.luks_rules.specs.declared.extents.Extent.{Extent}
use Rattle.luks_rules.specs.declared.fault.RuleFault.{RuleFault}
use Rattle.luks_rules.specs.declared.idle.Idle.{Idle}
use Rattle.luks_rules.specs.declared.shape.Progress.{Progress}
use Rattle.reenc_meta.specs.Layouts.{whole_on}
use Rattle.segment_map.specs.declared.Side.{Side}
use Rattle.serde_json.specs.Data.{no_members}
use Rattle.volume_machine.specs.Works.{nowhere}
use Rattle.hotzone.specs.ZoneEvents.Codes.{value_code}

-- ---- a side of the volume by itself, as metadata: its whole segment, the digest that tells its key,
-- and the keyslots which that lists, and nothing else. A linear segment of a conversion has neither.
abbrev pub for_one : Digest → Digest
for_one d = record d { segments = 0 ∷ [] }

abbrev pub digest_on : Parts → Extent → Option Digest
digest_on m e = option_map for_one (option_and_then (value_at m.digests) e.digest)

abbrev pub is_listed : Option Digest → ℕ → Bool
is_listed None n = false
is_listed (Some d) n = lists d.keyslots n

abbrev pub numbered : Option ℕ → Option Digest → List (ℕ × Digest)
numbered (Some n) (Some d) = (n, d) ∷ []
numbered _ _ = []

abbrev pub whole_segment : Extent → Segment
whole_segment e = record {
  offset = e.offset;
  size = Dynamic;
  encryption = e.encryption;
  flags = None;
  rest = no_members;
}

abbrev pub no_config : Config
no_config =
    record { json_size = 0; keyslots_size = 0; requirements = None; rest = no_members }

unfoldable pub side_alone : Parts → Extent → Parts
side_alone m e = record {
  keyslots = filter (λ slot. is_listed (digest_on m e) slot.0) m.keyslots;
  tokens = [];
  segments = (0, whole_segment e) ∷ [];
  digests = numbered e.digest (digest_on m e);
  config = no_config;
  rest = no_members;
}

-- and as the numbers that tell it
unfoldable pub side_code : Parts → Extent → List ℕ
side_code m e = value_code (data_of (side_alone m e))

-- the two whole segments of a conversion, or the one of a volume of which nothing is converted
abbrev pub sealing_by : Parts → Option Progress → Option Idle → Side → List ℕ
sealing_by m (Some p) idle side = side_code m (whole_on p side)
sealing_by m None (Some v) side = side_code m v.segment
sealing_by m None None side = []

-- metadata that break a rule tell of no side
abbrev pub unless_broken : Option RuleFault → List ℕ → List ℕ
unless_broken None code = code
unless_broken (Some fault) code = []

abbrev pub sealing_of : Sizes → Result Parts JsonFault → Side → List ℕ
sealing_of sizes (Ok m) side =
    unless_broken (first_fault m sizes) (sealing_by m (progress_of m sizes) (idle_of m sizes) side)
sealing_of sizes (Err fault) side = []

-- ---- the conversion: whether there is one; what guards its zones, and in which area
abbrev pub conversion_of : Sizes → Result Parts JsonFault → Option Progress
conversion_of sizes (Ok m) = progress_of m sizes
conversion_of sizes (Err fault) = None

abbrev pub resilience_of : Guard → Resilience
resilience_of guards.Journal = journal
resilience_of (guards.Checksum n) = checksum
resilience_of (guards.Datashift n) = datashift

abbrev pub guard_by : Option Progress → Resilience
guard_by None = journal
guard_by (Some p) = resilience_of p.conversion.resilience

abbrev pub area_on : ℕ → Area → DiskArea
area_on atom a = record { start = a.offset / atom; count = a.size / atom }

abbrev pub store_by : ℕ → Option Progress → DiskArea
store_by atom None = nowhere
store_by atom (Some p) = area_on atom p.conversion.area

-- ---- the areas of all keyslots, but for the one that guards zones
abbrev pub guarding : Option Progress → List Area
guarding None = []
guarding (Some p) = p.conversion.area ∷ []

abbrev pub keyslots_by : ℕ → Parts → Option Progress → List DiskArea
keyslots_by atom m progress =
    map (area_on atom) (filter (λ a. not (is_left (guarding progress) a)) (areas_of m.keyslots))

abbrev pub keyslots_of : Sizes → Result Parts JsonFault → List DiskArea
keyslots_of sizes (Ok m) = keyslots_by sizes.atom m (progress_of m sizes)
keyslots_of sizes (Err fault) = []
