-- Lemmas on texts that are the same atom by atom: they show the same.
use Rattle.std.proofs.Common.{◌≡◌, ℕ, ◌<◌, inl, inr, Bool, List, sym, ◌∙◌, arith}
use Rattle.crash_laws.proofs.HeaderAreas.AreasShown.{weaker}
use Rattle.crash_laws.specs.HeaderAreas.Areas.{Area}
use Rattle.crash_laws.specs.HeaderAreas.Headers.{Layout}
use Rattle.sector_disk.specs.DiskViews.Views.{View}
use Rattle.crash_laws.specs.HotZones.Promises.{AreSame}
use Rattle.crash_laws.specs.HotZones.Zones.{Resilience, journal, checksum, datashift, Hotzone, Texts, Phase}
use Rattle.crash_laws.specs.HotZones.Zones.{saving, opening, writing, mending, moving, shifting, turning}
use Rattle.crash_laws.specs.HotZones.Zones.{Known, unknown, as_old, as_new, as_either, as_saved, Is, Extent}
use Rattle.crash_laws.specs.HotZones.Zones.{all, until, Holds, found_by, ShowsZone, ShowsAtoms}

-- what speaks of a block's atoms, and of the saved ones
abbrev OfBlock : Known → Type 0
OfBlock as_saved = ⊥
OfBlock _ = Unit {0}

abbrev OfStore : Known → Type 0
OfStore unknown = Unit {0}
OfStore as_saved = Unit {0}
OfStore _ = ⊥

abbrev Each : (Known → Type 0) → Extent → Type 0
Each P (all known) = P known
Each P (until n first rest) = P first × P rest

block_same : (known : Known) (texts next : Texts) (i : ℕ) (value : List ℕ) → OfBlock known
    → next.old i ≡ texts.old i → next.new i ≡ texts.new i
    → Is known texts i value → Is known next i value
block_same unknown texts next i value of old new is = tt
block_same as_old texts next i value of old new is = is ∙ sym old
block_same as_new texts next i value of old new is = is ∙ sym new
block_same as_either texts next i value of old new (inl is) = inl (is ∙ sym old)
block_same as_either texts next i value of old new (inr is) = inr (is ∙ sym new)
block_same as_saved texts next i value of old new is = absurd of

store_same : (known : Known) (texts next : Texts) (i : ℕ) (value : List ℕ) → OfStore known
    → next.saved i ≡ texts.saved i
    → Is known texts i value → Is known next i value
store_same unknown texts next i value of saved is = tt
store_same as_old texts next i value of saved is = absurd of
store_same as_new texts next i value of saved is = absurd of
store_same as_either texts next i value of saved is = absurd of
store_same as_saved texts next i value of saved is = is ∙ sym saved

-- an extent each of whose parts is the same
extent_same : (P : Known → Type 0) (extent : Extent) (texts next : Texts) (i : ℕ) (value : List ℕ)
    → Each P extent
    → ((known : Known) → P known → Is known texts i value → Is known next i value)
    → Holds extent texts i value → Holds extent next i value
extent_same P (all known) texts next i value of same holds = same known of holds
extent_same P (until n first rest) texts next i value of same holds =
    (λ less. same first of.0 (holds.0 less), λ from. same rest of.1 (holds.1 from))

atoms_same : {broken : Bool} {view : View} (P : Known → Type 0) (area : Area) (now : Extent)
    (left : Known) (texts next : Texts)
    → ((known : Known) (i : ℕ) (value : List ℕ) → i < area.count → P known → Is known texts i value
    → Is known next i value)
    → Each P now → P left → ShowsAtoms area now left texts broken view
    → ShowsAtoms area now left next broken view
atoms_same P area now left texts next same of_now of_left shows =
    weaker area (Holds now texts) (Is left texts) (Holds now next) (Is left next)
    (λ i value below. extent_same P now texts next i value of_now
    (λ known of. same known i value below of))
    (λ i value below. same left i value below of_left) shows

found_of_block : (resilience : Resilience) → OfBlock (found_by resilience)
found_of_block journal = tt
found_of_block checksum = tt
found_of_block datashift = tt

pub zone_same : {M : Type 0} (atom : ℕ) (layout : Layout) (zone : Hotzone M) (texts next : Texts)
    (phase : Phase) (broken : Bool) (view : View)
    → AreSame zone texts next → ShowsZone atom layout zone texts phase broken view
    → ShowsZone atom layout zone next phase broken view
zone_same atom layout zone texts next phase broken view are shows = renamed phase shows
  where
    own : (known : Known) (i : ℕ) (value : List ℕ) → i < zone.own.count → OfBlock known
        → Is known texts i value → Is known next i value
    own known i value below of =
        block_same known texts next i value of (are.old i below) (are.new i below)

    target : (known : Known) (i : ℕ) (value : List ℕ) → i < zone.target.count → OfBlock known
        → Is known texts i value → Is known next i value
    target known i value below of =
        let inside : i < zone.own.count = (let fewer = are.fewer in omega (arith, below, fewer)) in
        block_same known texts next i value of (are.old i inside) (are.new i inside)

    store : (known : Known) (i : ℕ) (value : List ℕ) → i < zone.store.count → OfStore known
        → Is known texts i value → Is known next i value
    store known i value below of = store_same known texts next i value of (are.saved i below)

    renamed : (phase : Phase) → ShowsZone atom layout zone texts phase broken view
        → ShowsZone atom layout zone next phase broken view
    renamed (saving n) shows = record {
      own = atoms_same OfBlock zone.own (all as_old) as_old texts next own tt tt shows.own;
      target =
          atoms_same OfBlock zone.target (all unknown) unknown texts next target tt tt shows.target;
      store = atoms_same OfStore zone.store (until n as_saved unknown) unknown texts next store
          (tt, tt) tt shows.store;
      header = shows.header;
    }
    renamed (opening stage) shows = record {
      own = atoms_same OfBlock zone.own (all as_old) as_old texts next own tt tt shows.own;
      target =
          atoms_same OfBlock zone.target (all unknown) unknown texts next target tt tt shows.target;
      store = atoms_same OfStore zone.store (all as_saved) as_saved texts next store tt tt
          shows.store;
      header = shows.header;
    }
    renamed (writing n) shows = record {
      own = atoms_same OfBlock zone.own (until n as_new as_old) as_either texts next own (tt, tt) tt
          shows.own;
      target =
          atoms_same OfBlock zone.target (all unknown) unknown texts next target tt tt shows.target;
      store = atoms_same OfStore zone.store (all as_saved) as_saved texts next store tt tt
          shows.store;
      header = shows.header;
    }
    renamed (mending n) shows = record {
      own = atoms_same OfBlock zone.own (until n as_new (found_by zone.resilience))
          (found_by zone.resilience) texts next own
          (tt, found_of_block zone.resilience) (found_of_block zone.resilience) shows.own;
      target =
          atoms_same OfBlock zone.target (all unknown) unknown texts next target tt tt shows.target;
      store = atoms_same OfStore zone.store (all as_saved) as_saved texts next store tt tt
          shows.store;
      header = shows.header;
    }
    renamed (moving stage) shows = record {
      own = atoms_same OfBlock zone.own (all as_new) as_new texts next own tt tt shows.own;
      target =
          atoms_same OfBlock zone.target (all unknown) unknown texts next target tt tt shows.target;
      store = atoms_same OfStore zone.store (all as_saved) as_saved texts next store tt tt
          shows.store;
      header = shows.header;
    }
    renamed (shifting n) shows = record {
      own = atoms_same OfBlock zone.own (all as_old) as_old texts next own tt tt shows.own;
      target =
          atoms_same OfBlock zone.target (until n as_new unknown) unknown texts next target (tt, tt)
          tt shows.target;
      store = atoms_same OfStore zone.store (all unknown) unknown texts next store tt tt
          shows.store;
      header = shows.header;
    }
    renamed (turning stage) shows = record {
      own = atoms_same OfBlock zone.own (all as_old) as_old texts next own tt tt shows.own;
      target =
          atoms_same OfBlock zone.target (all as_new) as_new texts next target tt tt shows.target;
      store = atoms_same OfStore zone.store (all unknown) unknown texts next store tt tt
          shows.store;
      header = shows.header;
    }
