-- How the bytes of a disk stand for the blocks of a zone, under the header that they have.
use Rattle.std.specs.Prelude.{ℕ, ◌≡◌, ◌≢◌, ◌+◌, ◌<◌, ◌≤◌, ◌⊎◌, List}
use Rattle.crash_laws.specs.HeaderAreas.Areas.{Image, Takes, text_from, text_in}
use Rattle.crash_laws.specs.HeaderAreas.Commits.{begun}
use Rattle.crash_laws.specs.HeaderAreas.Headers.{Reader, Layout, IsHeader}
use Rattle.crash_laws.specs.HeaderAreas.Promises.{IsImageOf}
use Rattle.sector_disk.specs.DiskViews.Parts.{block_at}
use Rattle.sector_disk.specs.DiskViews.Views.{View}
use Rattle.crash_laws.specs.HotZones.Zones.{Resilience, journal, checksum, datashift, Hotzone, Texts, Phase}
use Rattle.crash_laws.specs.HotZones.Zones.{saving, opening, writing, mending, moving, shifting, turning}
use Rattle.crash_laws.specs.HotZones.Zones.{from_of, to_of, stage_of}
use Rattle.segment_map.specs.declared.Side.{Side}
use Rattle.segment_map.specs.declared.Side.TheVariants.{Old, New, Zone}

-- ---- what is saved
-- a hash, and how many bytes a digest has
pub record Hash : Type 0 where
  pub size : ℕ
  pub digest : List ℕ → List ℕ

-- digests stand one behind the other
abbrev pub digest_at : Hash → List ℕ → ℕ → List ℕ
digest_at hash text i = block_at hash.size text i

-- the digests in the area are the old atoms', and tell each from the new one
pub record HasDigests {M : Type 0} (hash : Hash) (zone : Hotzone M) (texts : Texts) : Type 0 where
  pub are : (i : ℕ) → i < zone.own.count
      → digest_at hash (text_from texts.saved 0 zone.store.count) i ≡ hash.digest (texts.old i)
  pub differ : (i : ℕ) → i < zone.own.count → hash.digest (texts.old i) ≢ hash.digest (texts.new i)

-- each old atom is saved
pub record HasAtoms {M : Type 0} (zone : Hotzone M) (texts : Texts) : Type 0 where
  pub are : (i : ℕ) → i < zone.own.count → texts.saved i ≡ texts.old i
  pub enough : zone.own.count ≤ zone.store.count

-- the zone has what its resilience needs: by datashift a new place for each block
abbrev pub IsKept : {M : Type 0} → Resilience → Hash → Hotzone M → Texts → Type 0
IsKept journal hash zone texts = HasAtoms zone texts
IsKept checksum hash zone texts = HasDigests hash zone texts
IsKept datashift hash zone texts = zone.own.count ≤ zone.target.count

-- the phases of each resilience
abbrev pub IsPhaseOf : Resilience → Phase → Type 0
IsPhaseOf datashift (shifting n) = Unit {0}
IsPhaseOf datashift (turning stage) = Unit {0}
IsPhaseOf datashift _ = ⊥
IsPhaseOf _ (shifting n) = ⊥
IsPhaseOf _ (turning stage) = ⊥
IsPhaseOf _ _ = Unit {0}

-- ---- how a block stands: on the old side and on the new one as its atom there; in an open zone as
-- the saved atom, or as the one whose digest is saved
pub record TellsDigest (hash : Hash) (told own old new : List ℕ) : Type 0 where
  pub is_old : told ≡ hash.digest old
  pub differs : hash.digest new ≢ told
  pub either : (own ≡ old) ⊎ (own ≡ new)

abbrev pub Recovers : {M : Type 0} → Resilience → Hash → Hotzone M → Texts → Image → ℕ → Type 0
Recovers journal hash zone texts image i = image (zone.store.start + i) ≡ texts.old i
Recovers checksum hash zone texts image i =
    TellsDigest hash (digest_at hash (text_in image zone.store) i) (image (zone.own.start + i))
    (texts.old i) (texts.new i)
Recovers datashift hash zone texts image i = ⊥

abbrev pub new_start : {M : Type 0} → Resilience → Hotzone M → ℕ
new_start datashift zone = zone.target.start
new_start _ zone = zone.own.start

abbrev pub Stands : {M : Type 0} → Hash → Hotzone M → Texts → Image → ℕ → Side → Type 0
Stands hash zone texts image i Old = image (zone.own.start + i) ≡ texts.old i
Stands hash zone texts image i Zone = Recovers zone.resilience hash zone texts image i
Stands hash zone texts image i New = image (new_start zone.resilience zone + i) ≡ texts.new i

-- ---- the side that each header gives the zone's blocks, of the next one once something of it was
-- written
abbrev pub side_before : Phase → Side
side_before (writing n) = Zone
side_before (mending n) = Zone
side_before (moving stage) = Zone
side_before _ = Old

abbrev pub side_after : Phase → Side
side_after (saving n) = Zone
side_after (opening stage) = Zone
side_after _ = New

pub record HasSides {M : Type 0} (side : M → Side) (zone : Hotzone M) (phase : Phase) : Type 0 where
  pub before : side (from_of zone phase).means ≡ side_before phase
  pub after : stage_of phase ≢ begun → side (to_of zone phase).means ≡ side_after phase

-- the headers of the commit at hand are valid
pub record HasHeaders {M : Type 0} (reader : Reader M) (zone : Hotzone M) (phase : Phase) : Type 0
  where
    pub before : IsHeader reader (from_of zone phase)
    pub after : IsHeader reader (to_of zone phase)

-- an image of a disk on which a zone and copies of a header lie
pub record IsZoneImage {M : Type 0} (atom atoms size : ℕ) (layout : Layout) (zone : Hotzone M)
    (view : View) (image : Image) : Type 0 where
  pub header : IsImageOf atom atoms size layout view image
  pub own : Takes view image zone.own
  pub target : Takes view image zone.target
  pub store : Takes view image zone.store

-- its areas lie on the disk
pub record IsWithin {M : Type 0} (atoms : ℕ) (zone : Hotzone M) : Type 0 where
  pub own : zone.own.start + zone.own.count ≤ atoms
  pub target : zone.target.start + zone.target.count ≤ atoms
  pub store : zone.store.start + zone.store.count ≤ atoms
