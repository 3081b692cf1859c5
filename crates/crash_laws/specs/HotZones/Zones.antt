-- A zone: a run of blocks that a conversion leads from the old segment to the new one, and what the
-- disk shows of it after each of its calls.
use Rattle.std.specs.Prelude.{ℕ, ◌≡◌, ◌<◌, ◌≤◌, ◌⊎◌, Bool, List}
use Rattle.crash_laws.specs.HeaderAreas.Areas.{Area, AreApart, Shows}
use Rattle.crash_laws.specs.HeaderAreas.Commits.{Stage, begun, ShowsCommit}
use Rattle.crash_laws.specs.HeaderAreas.Headers.{Copy, Layout, place_of, Header}
use Rattle.sector_disk.specs.DiskViews.Views.{View}

-- What keeps the blocks over a stop while their atoms are written: the old atoms, or digests of
-- them, are saved; or the new atoms have other places.
pub data Resilience : Type 0 where
  journal : Resilience
  checksum : Resilience
  datashift : Resilience

-- the zone at hand: the old places of its blocks; the new ones, where these are others; where
-- something is saved; and the headers before it, while it is open, and after it
pub record Hotzone (M : Type 0) : Type 0 where
  pub resilience : Resilience
  pub own : Area
  pub target : Area
  pub store : Area
  pub before : Header M
  pub opened : Header M
  pub moved : Header M

-- the atoms of its blocks under the old segment and under the new one, and the atoms that are saved
pub record Texts : Type 0 where
  pub old : ℕ → List ℕ
  pub new : ℕ → List ℕ
  pub saved : ℕ → List ℕ

-- What is done. In place: so many atoms are saved; so far is the commit 'zone open'; so many atoms
-- are written, or written again by a recovery; so far is the commit 'boundary moved'. By datashift:
-- so many atoms are written to other places; so far is that commit.
pub data Phase : Type 0 where
  saving : (atoms : ℕ) → Phase
  opening : (stage : Stage) → Phase
  writing : (atoms : ℕ) → Phase
  mending : (atoms : ℕ) → Phase
  moving : (stage : Stage) → Phase
  shifting : (atoms : ℕ) → Phase
  turning : (stage : Stage) → Phase

-- ---- what is known of an atom: nothing, or that it is the old one, the new one, one of these, the
-- saved one
pub data Known : Type 0 where
  unknown : Known
  as_old : Known
  as_new : Known
  as_either : Known
  as_saved : Known

abbrev pub Is : Known → Texts → ℕ → List ℕ → Type 0
Is unknown texts i value = Unit {0}
Is as_old texts i value = value ≡ texts.old i
Is as_new texts i value = value ≡ texts.new i
Is as_either texts i value = (value ≡ texts.old i) ⊎ (value ≡ texts.new i)
Is as_saved texts i value = value ≡ texts.saved i

-- of all atoms of an area the same, or one thing of so many and another of the rest
pub data Extent : Type 0 where
  all : Known → Extent
  until : (atoms : ℕ) (first rest : Known) → Extent

abbrev pub Holds : Extent → Texts → ℕ → List ℕ → Type 0
Holds (all known) texts i value = Is known texts i value
Holds (until n first rest) texts i value =
    (i < n → Is first texts i value) × (n ≤ i → Is rest texts i value)

-- ---- the zone's atoms. By checksum a recovery knows of each that it is the old one or the new
-- one; by journal it may be any.
abbrev pub found_by : Resilience → Known
found_by checksum = as_either
found_by _ = unknown

abbrev pub own_now : Resilience → Phase → Extent
own_now resilience (writing n) = until n as_new as_old
own_now resilience (mending n) = until n as_new (found_by resilience)
own_now resilience (moving stage) = all as_new
own_now resilience _ = all as_old

abbrev pub own_left : Resilience → Phase → Known
own_left resilience (writing n) = as_either
own_left resilience (mending n) = found_by resilience
own_left resilience (moving stage) = as_new
own_left resilience _ = as_old

-- the new places
abbrev pub target_now : Phase → Extent
target_now (shifting n) = until n as_new unknown
target_now (turning stage) = all as_new
target_now _ = all unknown

abbrev pub target_left : Phase → Known
target_left (turning stage) = as_new
target_left _ = unknown

-- where something is saved
abbrev pub store_now : Phase → Extent
store_now (saving n) = until n as_saved unknown
store_now (shifting n) = all unknown
store_now (turning stage) = all unknown
store_now _ = all as_saved

abbrev pub store_left : Phase → Known
store_left (saving n) = unknown
store_left (shifting n) = unknown
store_left (turning stage) = unknown
store_left _ = as_saved

-- ---- the header: the commit at hand or to come, and how far it is
abbrev pub from_of : {M : Type 0} → Hotzone M → Phase → Header M
from_of zone (writing n) = zone.opened
from_of zone (mending n) = zone.opened
from_of zone (moving stage) = zone.opened
from_of zone _ = zone.before

abbrev pub to_of : {M : Type 0} → Hotzone M → Phase → Header M
to_of zone (saving n) = zone.opened
to_of zone (opening stage) = zone.opened
to_of zone _ = zone.moved

abbrev pub stage_of : Phase → Stage
stage_of (opening stage) = stage
stage_of (moving stage) = stage
stage_of (turning stage) = stage
stage_of _ = begun

-- ---- what the disk shows of the zone and of the header
abbrev pub ShowsAtoms : Area → Extent → Known → Texts → Bool → View → Type 0
ShowsAtoms area now left texts broken view =
    Shows area (Holds now texts) (Is left texts) broken view

pub record ShowsZone {M : Type 0} (atom : ℕ) (layout : Layout) (zone : Hotzone M) (texts : Texts)
    (phase : Phase) (broken : Bool) (view : View) : Type 0 where
  pub own : ShowsAtoms zone.own (own_now zone.resilience phase) (own_left zone.resilience phase)
      texts broken view
  pub target : ShowsAtoms zone.target (target_now phase) (target_left phase) texts broken view
  pub store : ShowsAtoms zone.store (store_now phase) (store_left phase) texts broken view
  pub header : ShowsCommit atom layout (from_of zone phase) (to_of zone phase) (stage_of phase)
      broken view

-- its areas lie apart from each other and from the header's copies; one that isn't used has no
-- atoms
pub record IsApart {M : Type 0} (layout : Layout) (zone : Hotzone M) : Type 0 where
  pub own_store : AreApart zone.own zone.store
  pub own_target : AreApart zone.own zone.target
  pub target_store : AreApart zone.target zone.store
  pub own_header : (copy : Copy) → AreApart zone.own (place_of layout copy)
  pub target_header : (copy : Copy) → AreApart zone.target (place_of layout copy)
  pub store_header : (copy : Copy) → AreApart zone.store (place_of layout copy)
  pub headers : AreApart layout.first layout.second

-- the areas that its calls, and what is known of it, speak of
pub data Reaches {M : Type 0} (layout : Layout) (zone : Hotzone M) : Area → Type 0 where
  its_own : Reaches layout zone zone.own
  its_target : Reaches layout zone zone.target
  its_store : Reaches layout zone zone.store
  its_header : (copy : Copy) → Reaches layout zone (place_of layout copy)
