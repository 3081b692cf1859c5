-- What is promised of zones.
use Rattle.std.specs.Prelude.{ℕ, ◌≡◌, ◌≢◌, ◌+◌, ◌<◌, ◌≤◌, Bool, false, true, List, ◌∷◌, [], length}
use Rattle.std.specs.Prelude.{replicate}
use Rattle.base_terms.specs.Blocks.{lengths}
use Rattle.crash_laws.specs.HeaderAreas.Areas.{Image, content_of}
use Rattle.crash_laws.specs.HeaderAreas.Commits.{begun, ShowsCommit, MayBe, IsDated}
use Rattle.crash_laws.specs.HeaderAreas.Headers.{Reader, IsReader, Layout, IsLaidOut, Gives, Handed, IsGenuine}
use Rattle.sector_disk.specs.DiskViews.Parts.{value_in}
use Rattle.sector_disk.specs.DiskViews.Views.{View, view_of_cells, IsSynced}
use Rattle.crash_laws.specs.HotZones.Calls.{ZoneCall, ZoneFault, CallBeside, IsFirst, IsLast, new_area}
use Rattle.crash_laws.specs.HotZones.Calls.{ShowsMoved, IsSettled, calls_left}
use Rattle.crash_laws.specs.HotZones.Standing.{Hash, IsKept, IsPhaseOf, TellsDigest, Stands, HasSides}
use Rattle.crash_laws.specs.HotZones.Standing.{HasHeaders, IsZoneImage, IsWithin}
use Rattle.crash_laws.specs.HotZones.Zones.{Hotzone, Texts, Phase, mending, Is, found_by, from_of, to_of}
use Rattle.crash_laws.specs.HotZones.Zones.{stage_of, ShowsZone, IsApart}
use Rattle.sector_disk.specs.Cells.{Cell, IsImage}
use Rattle.segment_map.specs.declared.Side.{Side}

-- Each image that a stop leaves during a zone has a header, the one that the commit at hand leads
-- from or the one that it leads to, and by it each block stands for the same.
abbrev pub ZoneStands : Type 0
ZoneStands =
    (atom atoms : ℕ) (reader : Reader (List ℕ)) (layout : Layout) (zone : Hotzone (List ℕ))
    (texts : Texts) (phase : Phase)
    (hash : Hash) (side : List ℕ → Side) (handed : Handed) (image : Image) (broken : Bool)
    (view : View) → IsReader reader
    → HasHeaders reader zone phase → IsPhaseOf zone.resilience phase
    → IsKept zone.resilience hash zone texts → HasSides side zone phase
    → IsDated reader (from_of zone phase) (to_of zone phase) (stage_of phase) handed
    → IsZoneImage atom atoms (reader.size (from_of zone phase).means) layout zone view image
    → IsGenuine reader (reader.size (from_of zone phase).means) handed (content_of atoms image)
    → ShowsZone atom layout zone texts phase broken view
    → (m : List ℕ) × MayBe (stage_of phase) (from_of zone phase).means (to_of zone phase).means m
    × Gives reader (content_of atoms image) m
    × ((i : ℕ) → i < zone.own.count → Stands hash zone texts image i (side m))

-- An image of a table of so many atoms is an image of that disk.
abbrev pub ZoneImageTaken : Type 0
ZoneImageTaken =
    (atom size : ℕ) (layout : Layout) (zone : Hotzone (List ℕ)) (cells : List Cell)
    (image : List (List ℕ)) → IsImage cells image
    → lengths image ≡ replicate (length cells) atom → IsLaidOut atom (length cells) size layout
    → IsWithin (length cells) zone
    → IsZoneImage atom (length cells) size layout zone (view_of_cells cells) (value_in image)

-- ---- By checksum the atom that is found is the old one exactly where its digest is the saved one,
-- else it is the new one.
pub record IsJudged (hash : Hash) (told own old new : List ℕ) : Type 0 where
  pub as_old : hash.digest own ≡ told → own ≡ old
  pub as_new : hash.digest own ≢ told → own ≡ new
  pub is_told : own ≡ old → hash.digest own ≡ told

abbrev pub AtomJudged : Type 0
AtomJudged =
    (hash : Hash) (told own old new : List ℕ) → TellsDigest hash told own old new
    → IsJudged hash told own old new

-- ---- A zone begins with a sync while its atoms are the old ones.
abbrev pub ZoneBegins : Type 0
ZoneBegins =
    (atom : ℕ) (layout : Layout) (zone : Hotzone (List ℕ)) (texts : Texts) (phase : Phase)
    (old new : View) → IsFirst phase
    → ((i : ℕ) → i < zone.own.count → old.current (zone.own.start + i) ≡ texts.old i)
    → ShowsCommit atom layout (from_of zone phase) (to_of zone phase) begun false old
    → IsSynced old new
    → ShowsZone atom layout zone texts phase false new

-- Each of its calls leads on from what is known to what is known, the last one to the header after
-- the zone; one that fails leaves what a stop may leave.
abbrev pub ZoneGoes : Type 0
ZoneGoes =
    (atom : ℕ) (layout : Layout) (zone : Hotzone (List ℕ)) (texts : Texts) (phase next : Phase)
    (old new : View) → IsApart layout zone
    → ShowsZone atom layout zone texts phase false old
    → (ZoneCall atom layout zone texts old new phase next
    → ShowsZone atom layout zone texts next false new)
    × (ZoneFault atom layout zone texts old new phase next
    → ShowsZone atom layout zone texts next true new)

-- Each call that is done brings the zone nearer to its end.
abbrev pub ZoneComesNearer : Type 0
ZoneComesNearer =
    (atom : ℕ) (layout : Layout) (zone : Hotzone (List ℕ)) (texts : Texts) (phase next : Phase)
    (old new : View) → ZoneCall atom layout zone texts old new phase next
    → calls_left zone next < calls_left zone phase

abbrev pub ZoneEnds : Type 0
ZoneEnds =
    (atom : ℕ) (layout : Layout) (zone : Hotzone (List ℕ)) (texts : Texts) (phase : Phase)
    (old new : View) → IsLast phase
    → ShowsZone atom layout zone texts phase false old → IsSynced old new
    → ShowsMoved atom layout zone texts (new_area zone phase) new

-- ---- What others do beside the zone leaves what is known of it.
abbrev pub ZoneStays : Type 0
ZoneStays =
    (atom : ℕ) (layout : Layout) (zone : Hotzone (List ℕ)) (texts : Texts) (phase : Phase)
    (broken : Bool) (old new : View)
    → CallBeside layout zone old new broken → ShowsZone atom layout zone texts phase false old
    → ShowsZone atom layout zone texts phase broken new

-- What is there now, seen as if nothing else could be left: while nothing has failed the current
-- values are an image as good as any.
abbrev pub sharp : View → View
sharp view = record { current = view.current; candidates = λ place. view.current place ∷ [] }

abbrev pub ZoneIsNow : Type 0
ZoneIsNow =
    (atom : ℕ) (layout : Layout) (zone : Hotzone (List ℕ)) (texts : Texts) (phase : Phase)
    (view : View)
    → ShowsZone atom layout zone texts phase false view
    → ShowsZone atom layout zone texts phase false (sharp view)

-- Texts that are the same atom by atom show the same.
pub record AreSame {M : Type 0} (zone : Hotzone M) (texts next : Texts) : Type 0 where
  pub fewer : zone.target.count ≤ zone.own.count
  pub old : (i : ℕ) → i < zone.own.count → next.old i ≡ texts.old i
  pub new : (i : ℕ) → i < zone.own.count → next.new i ≡ texts.new i
  pub saved : (i : ℕ) → i < zone.store.count → next.saved i ≡ texts.saved i

abbrev pub ZoneIsSame : Type 0
ZoneIsSame =
    (atom : ℕ) (layout : Layout) (zone : Hotzone (List ℕ)) (texts next : Texts) (phase : Phase)
    (broken : Bool) (view : View)
    → AreSame zone texts next → ShowsZone atom layout zone texts phase broken view
    → ShowsZone atom layout zone next phase broken view

-- ---- A recovery goes on from a disk on which nothing is in doubt, whose header has the zone open,
-- and where what was saved is there. By checksum each atom of the zone is the old one or the new
-- one, by journal any.
pub record IsFound {M : Type 0} (atom : ℕ) (layout : Layout) (zone : Hotzone M) (texts : Texts)
    (view : View) : Type 0 where
  pub own_settled : IsSettled view zone.own
  pub store_settled : IsSettled view zone.store
  pub own : (i : ℕ) → i < zone.own.count
      → Is (found_by zone.resilience) texts i (view.current (zone.own.start + i))
  pub store : (i : ℕ) → i < zone.store.count → view.current (zone.store.start + i) ≡ texts.saved i
  pub header : ShowsCommit atom layout zone.opened zone.moved begun false view

abbrev pub ZoneResumes : Type 0
ZoneResumes = (atom : ℕ) (layout : Layout) (zone : Hotzone (List ℕ)) (texts : Texts) (view : View)
    → IsFound atom layout zone texts view → ShowsZone atom layout zone texts (mending 0) false view
