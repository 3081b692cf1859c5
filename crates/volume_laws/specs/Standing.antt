-- What an image of a volume stands for: a content, block by block. An image of a volume without a
-- header is read by the volume's own map, one of a volume with a header by the header that the
-- image has.
use Rattle.std.specs.Prelude.{ℕ, ◌≡◌, ◌+◌, ◌-◌, ◌<◌, ◌≤◌, List, Option, Some, None}
use Rattle.crash_laws.specs.HeaderAreas.Areas.{Image, content_of}
use Rattle.crash_laws.specs.HeaderAreas.Headers.{Gives}
use Rattle.sector_disk.specs.DiskViews.Parts.{AreBlocks, block_at, value_in}
use Rattle.crash_laws.specs.HotZones.Standing.{Recovers}
use Rattle.plain_disk.specs.Plain.{Block}
use Rattle.sector_disk.specs.Cells.{Cell, IsImage}
use Rattle.segment_map.specs.Maps.{place_on}
use Rattle.segment_map.specs.declared.Side.{Side}
use Rattle.segment_map.specs.declared.Side.TheVariants.{Old, New, Zone}
use Rattle.segment_map.specs.declared.map.Map.{Map}
use Rattle.volume_laws.specs.Contents.{IsSealed, IsNow, IsAllowedAt}
use Rattle.volume_laws.specs.Texts.{atoms_of}
use Rattle.volume_machine.specs.Edges.{InPlain}
use Rattle.volume_machine.specs.Pieces.{side_in, place_in}
use Rattle.volume_machine.specs.Seals.{Seals}
use Rattle.volume_machine.specs.Readings.{Reading}
use Rattle.volume_machine.specs.States.{State}
use Rattle.volume_machine.specs.Works.{Work}

-- by block, the bytes that it holds in plain
abbrev pub Content : Type 0
Content = ℕ → List ℕ

-- a block stands for its content: on the old side and on the new one as its atom there, in an open
-- zone as what was saved tells
abbrev pub AtomStands : Reading → Map → Seals → Work → Image → Content → ℕ → Side → Type 0
AtomStands reading map seals work image content b Old =
    image (place_on map b Old) ≡ seals.sealed Old b (content b)
AtomStands reading map seals work image content b New =
    image (place_on map b New) ≡ seals.sealed New b (content b)
AtomStands reading map seals work image content b Zone =
    Recovers work.zone.resilience reading.hash work.zone (atoms_of map.atom seals content work)
    image (b - work.range.start)

-- a block of an open zone is one of the zone at hand, at its old place
pub record IsInZone (map : Map) (work : Work) (b : ℕ) : Type 0 where
  pub from : work.range.start ≤ b
  pub to : b < work.range.end
  pub place : place_on map b Zone ≡ work.zone.own.start + (b - work.range.start)

pub record BlockStands (reading : Reading) (map : Map) (seals : Seals) (work : Work) (image : Image)
    (content : Content) (b : ℕ) : Type 0 where
  pub are : AreBlocks map.atom 1 (content b)
  pub stands : AtomStands reading map seals work image content b (side_in map b)
  pub zone : side_in map b ≡ Zone → IsInZone map work b

-- each block by this map
abbrev pub StandsBy : Map → Seals → Image → Content → Type 0
StandsBy map seals image content = (b : ℕ) → b < map.blocks →
    IsSealed map seals b (content b) (image (place_in map b))

-- each block by the map of the image's header, and where that has a zone open, by the zone at hand
pub record StandsByHeader (reading : Reading) (atoms : ℕ) (seals : Seals) (work : Work)
    (map : Map) (image : Image) (content : Content) : Type 0 where
  pub header : List ℕ
  pub gives : Gives reading.reader (content_of atoms image) header
  pub atom : (reading.map_of header).atom ≡ map.atom
  pub blocks : (reading.map_of header).blocks ≡ map.blocks
  pub stands : (b : ℕ) → b < map.blocks →
      BlockStands reading (reading.map_of header) seals work image content b

abbrev pub StandsUnder : Reading → ℕ → Seals → Map → Option Work → Image → Content → Type 0
StandsUnder reading atoms seals map None image content = StandsBy map seals image content
StandsUnder reading atoms seals map (Some work) image content =
    StandsByHeader reading atoms seals work map image content

-- an image of a volume stands for this content
abbrev pub Stands : {K : Type 0} → Reading → State K → Seals → Image → Content → Type 0
Stands reading state seals image content =
    StandsUnder reading state.disk.atoms seals state.map state.work image content

-- where a disk's current bytes, or an image of its table, stand for contents of a volume
abbrev pub StandsForNow : {K : Type 0} → Reading → State K → Seals → (ℕ → InPlain) → List Block →
    List ℕ → Type 0
StandsForNow reading state seals plain blocks bytes =
    (content : Content)
    × Stands reading state seals (λ place. block_at state.map.atom bytes place) content
    × ((b : ℕ) → b < state.map.blocks → IsNow state plain blocks b (content b))

abbrev pub StandsAllowed : {K : Type 0} → Reading → State K → Seals → (ℕ → InPlain) → List Block →
    List Cell → Type 0
StandsAllowed reading state seals plain blocks cells =
    (image : List (List ℕ)) → IsImage cells image →
    (content : Content) × Stands reading state seals (value_in image) content
    × ((b : ℕ) → b < state.map.blocks → IsAllowedAt state plain blocks b (content b))
