-- How the header of a disk is read for its volume.
use Rattle.std.specs.Prelude.{Bool, List, ℕ}
use Rattle.crash_laws.specs.HeaderAreas.Areas.{Area}
use Rattle.crash_laws.specs.HeaderAreas.Headers.{Reader}
use Rattle.crash_laws.specs.HotZones.Standing.{Hash}
use Rattle.crash_laws.specs.HotZones.Zones.{Resilience}
use Rattle.segment_map.specs.declared.Side.{Side}
use Rattle.segment_map.specs.declared.map.Map.{Map}

-- How headers are read; the hash of saved digests; and what a header says. For how long a text its
-- copies have room; its map; how each side is sealed, as the bytes that tell it: the cipher, the
-- sectors, their numbers and the key; whether blocks are being converted, what guards a zone then, and
-- in which area; and the areas of its keyslots.
pub record Reading : Type 0 where
  pub reader : Reader (List ℕ)
  pub room : List ℕ → ℕ
  pub map_of : List ℕ → Map
  pub hash : Hash
  pub sealing : List ℕ → Side → List ℕ
  pub converts : List ℕ → Bool
  pub guard : List ℕ → Resilience
  pub store : List ℕ → Area
  pub keyslots : List ℕ → List Area
