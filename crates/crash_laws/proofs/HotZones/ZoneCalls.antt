-- Lemmas on the calls of a zone: each leads from what is known to what is known.
use Rattle.std.proofs.Common.{◌≡◌, ◌≢◌, ℕ, ◌+◌, ◌<◌, inl, inr, false, List, refl, ◌∙◌, arith}
use Rattle.crash_laws.proofs.HeaderAreas.AreasShown.{weaker, synced}
use Rattle.crash_laws.proofs.HeaderAreas.CommitSteps.{commit_step, apart_back}
use Rattle.crash_laws.specs.HeaderAreas.Areas.{AreApart}
use Rattle.crash_laws.specs.HeaderAreas.Commits.{Stage, begun, first_written, first_kept, second_written}
use Rattle.crash_laws.specs.HeaderAreas.Commits.{ShowsCommit, CommitCall, next_stage}
use Rattle.crash_laws.specs.HeaderAreas.Headers.{Layout, Header}
use Rattle.sector_disk.specs.DiskViews.Views.{View, IsSynced}
use Rattle.crash_laws.proofs.HotZones.AtomsShown.{part_written, part_beside, header_beside, header_synced}
use Rattle.crash_laws.proofs.HotZones.AtomsShown.{beside_commit}
use Rattle.crash_laws.specs.HotZones.Calls.{ZoneCall, saves, keeps, opens, opened, writes, settles}
use Rattle.crash_laws.specs.HotZones.Calls.{mends, recovers, moves, shifts, arrives, turns, IsFirst, IsLast}
use Rattle.crash_laws.specs.HotZones.Calls.{new_area, ShowsMoved}
use Rattle.crash_laws.specs.HotZones.Zones.{Resilience, journal, checksum, datashift, Hotzone, Texts, Phase}
use Rattle.crash_laws.specs.HotZones.Zones.{saving, opening, writing, mending, moving, shifting, turning}
use Rattle.crash_laws.specs.HotZones.Zones.{unknown, as_old, as_new, as_either, as_saved, Is, found_by}
use Rattle.crash_laws.specs.HotZones.Zones.{from_of, to_of, ShowsZone, IsApart}

-- a new atom may be found, whatever is known of the zone's atoms
pub new_found : (resilience : Resilience) (texts : Texts) (i : ℕ) (value : List ℕ)
    → value ≡ texts.new i → Is (found_by resilience) texts i value
new_found journal texts i value is = tt
new_found checksum texts i value is = inr is
new_found datashift texts i value is = tt

-- a call of a commit that isn't its last
commit_goes_on : {M : Type 0} (atom : ℕ) (layout : Layout) (from to : Header M) (stage : Stage)
    (old new : View) → AreApart layout.first layout.second → stage ≢ second_written
    → CommitCall atom layout to stage old new → ShowsCommit atom layout from to stage false old
    → ShowsCommit atom layout from to (next_stage stage) false new
commit_goes_on atom layout from to begun old new apart not_last call shows =
    commit_step atom layout from to to begun old new apart call shows
commit_goes_on atom layout from to first_written old new apart not_last call shows =
    commit_step atom layout from to to first_written old new apart call shows
commit_goes_on atom layout from to first_kept old new apart not_last call shows =
    commit_step atom layout from to to first_kept old new apart call shows
commit_goes_on atom layout from to second_written old new apart not_last call shows =
    absurd (not_last refl)

-- each call of a zone
pub zone_goes : {M : Type 0} (atom : ℕ) (layout : Layout) (zone : Hotzone M) (texts : Texts)
    (phase next : Phase) (old new : View)
    → IsApart layout zone → ShowsZone atom layout zone texts phase false old
    → ZoneCall atom layout zone texts old new phase next
    → ShowsZone atom layout zone texts next false new
zone_goes atom layout zone texts _ _ old new is shows (saves n more part) = record {
  own = part_beside atom zone.own zone.store texts.saved n more _ _ old new is.own_store part
      shows.own;
  target =
      part_beside atom zone.target zone.store texts.saved n more _ _ old new is.target_store part
      shows.target;
  store = part_written atom zone.store texts.saved n more as_saved unknown unknown texts old new
      (λ i value same. same) (λ i value same. tt) part shows.store;
  header =
      header_beside atom layout _ _ begun zone.store texts.saved n more old new is.store_header part
      shows.header;
}
zone_goes atom layout zone texts _ _ old new is shows (keeps call) = record {
  own = synced old new zone.own _ _ call shows.own;
  target = synced old new zone.target _ _ call shows.target;
  store = weaker zone.store _ _ _ _ (λ i value below now. now.0 below)
      (λ i value below now. now.0 below) (synced old new zone.store _ _ call shows.store);
  header = header_synced atom layout _ _ old new call shows.header;
}
zone_goes atom layout zone texts _ _ old new is shows (opens stage not_last call) = record {
  own = beside_commit atom layout stage zone.opened zone.own _ old new is.own_header call shows.own;
  target =
      beside_commit atom layout stage zone.opened zone.target _ old new is.target_header call
      shows.target;
  store = beside_commit atom layout stage zone.opened zone.store _ old new is.store_header call
      shows.store;
  header = commit_goes_on atom layout _ _ stage old new is.headers not_last call shows.header;
}
zone_goes atom layout zone texts _ _ old new is shows (opened call) = record {
  own = weaker zone.own _ _ _ _
      (λ i value below now. (λ less. absurd (omega (arith, less)), λ from. now))
      (λ i value below left. inl left)
      (synced old new zone.own _ _ call shows.own);
  target = synced old new zone.target _ _ call shows.target;
  store = synced old new zone.store _ _ call shows.store;
  header =
      commit_step atom layout _ _ zone.moved second_written old new is.headers call shows.header;
}
zone_goes atom layout zone texts _ _ old new is shows (writes n more part) = record {
  own = part_written atom zone.own texts.new n more as_new as_old as_either texts old new
      (λ i value same. same) (λ i value same. inr same) part shows.own;
  target =
      part_beside atom zone.target zone.own texts.new n more _ _ old new
      (apart_back _ _ is.own_target) part shows.target;
  store = part_beside atom zone.store zone.own texts.new n more _ _ old new
      (apart_back _ _ is.own_store) part shows.store;
  header =
      header_beside atom layout _ _ begun zone.own texts.new n more old new is.own_header part
      shows.header;
}
zone_goes atom layout zone texts _ _ old new is shows (settles call) = record {
  own = weaker zone.own _ _ _ _ (λ i value below now. now.0 below)
      (λ i value below now. now.0 below) (synced old new zone.own _ _ call shows.own);
  target = synced old new zone.target _ _ call shows.target;
  store = synced old new zone.store _ _ call shows.store;
  header = header_synced atom layout _ _ old new call shows.header;
}
zone_goes atom layout zone texts _ _ old new is shows (mends n more part) = record {
  own = part_written atom zone.own texts.new n more as_new (found_by zone.resilience)
      (found_by zone.resilience) texts old new (λ i value same. same)
      (λ i value same. new_found zone.resilience texts i value same) part shows.own;
  target =
      part_beside atom zone.target zone.own texts.new n more _ _ old new
      (apart_back _ _ is.own_target) part shows.target;
  store = part_beside atom zone.store zone.own texts.new n more _ _ old new
      (apart_back _ _ is.own_store) part shows.store;
  header =
      header_beside atom layout _ _ begun zone.own texts.new n more old new is.own_header part
      shows.header;
}
zone_goes atom layout zone texts _ _ old new is shows (recovers call) = record {
  own = weaker zone.own _ _ _ _ (λ i value below now. now.0 below)
      (λ i value below now. now.0 below) (synced old new zone.own _ _ call shows.own);
  target = synced old new zone.target _ _ call shows.target;
  store = synced old new zone.store _ _ call shows.store;
  header = header_synced atom layout _ _ old new call shows.header;
}
zone_goes atom layout zone texts _ _ old new is shows (moves stage not_last call) = record {
  own = beside_commit atom layout stage zone.moved zone.own _ old new is.own_header call shows.own;
  target =
      beside_commit atom layout stage zone.moved zone.target _ old new is.target_header call
      shows.target;
  store = beside_commit atom layout stage zone.moved zone.store _ old new is.store_header call
      shows.store;
  header = commit_goes_on atom layout _ _ stage old new is.headers not_last call shows.header;
}
zone_goes atom layout zone texts _ _ old new is shows (shifts n more part) = record {
  own = part_beside atom zone.own zone.target texts.new n more _ _ old new is.own_target part
      shows.own;
  target =
      part_written atom zone.target texts.new n more as_new unknown unknown texts old new
      (λ i value same. same) (λ i value same. tt) part shows.target;
  store = part_beside atom zone.store zone.target texts.new n more _ _ old new
      (apart_back _ _ is.target_store) part shows.store;
  header =
      header_beside atom layout _ _ begun zone.target texts.new n more old new is.target_header part
      shows.header;
}
zone_goes atom layout zone texts _ _ old new is shows (arrives call) = record {
  own = synced old new zone.own _ _ call shows.own;
  target =
      weaker zone.target _ _ _ _ (λ i value below now. now.0 below)
      (λ i value below now. now.0 below) (synced old new zone.target _ _ call shows.target);
  store = synced old new zone.store _ _ call shows.store;
  header = header_synced atom layout _ _ old new call shows.header;
}
zone_goes atom layout zone texts _ _ old new is shows (turns stage not_last call) = record {
  own = beside_commit atom layout stage zone.moved zone.own _ old new is.own_header call shows.own;
  target =
      beside_commit atom layout stage zone.moved zone.target _ old new is.target_header call
      shows.target;
  store = beside_commit atom layout stage zone.moved zone.store _ old new is.store_header call
      shows.store;
  header = commit_goes_on atom layout _ _ stage old new is.headers not_last call shows.header;
}

-- its beginning
begins_saving : {M : Type 0} (atom : ℕ) (layout : Layout) (zone : Hotzone M) (texts : Texts)
    (old new : View)
    → ((i : ℕ) → i < zone.own.count → old.current (zone.own.start + i) ≡ texts.old i)
    → ShowsCommit atom layout zone.before zone.opened begun false old → IsSynced old new
    → ShowsZone atom layout zone texts (saving 0) false new
begins_saving atom layout zone texts old new holds header call = record {
  own = record {
    now = λ whole i below. call.current (zone.own.start + i) ∙ holds i below;
    left = λ i below value has. call.candidates (zone.own.start + i) value has ∙ holds i below;
  };
  target = record { now = λ whole i below. tt; left = λ i below value has. tt };
  store = record {
    now =
        λ whole i below. (λ less. absurd (omega (arith, less)), λ from. tt);
    left = λ i below value has. tt;
  };
  header = header_synced atom layout _ _ old new call header;
}

begins_shifting : {M : Type 0} (atom : ℕ) (layout : Layout) (zone : Hotzone M) (texts : Texts)
    (old new : View)
    → ((i : ℕ) → i < zone.own.count → old.current (zone.own.start + i) ≡ texts.old i)
    → ShowsCommit atom layout zone.before zone.moved begun false old → IsSynced old new
    → ShowsZone atom layout zone texts (shifting 0) false new
begins_shifting atom layout zone texts old new holds header call = record {
  own = record {
    now = λ whole i below. call.current (zone.own.start + i) ∙ holds i below;
    left = λ i below value has. call.candidates (zone.own.start + i) value has ∙ holds i below;
  };
  target =
      record {
        now =
            λ whole i below. (λ less. absurd (omega (arith, less)), λ from. tt);
        left = λ i below value has. tt;
      };
  store = record { now = λ whole i below. tt; left = λ i below value has. tt };
  header = header_synced atom layout _ _ old new call header;
}

pub zone_begins : {M : Type 0} (atom : ℕ) (layout : Layout) (zone : Hotzone M) (texts : Texts)
    (phase : Phase) (old new : View) → IsFirst phase
    → ((i : ℕ) → i < zone.own.count → old.current (zone.own.start + i) ≡ texts.old i)
    → ShowsCommit atom layout (from_of zone phase) (to_of zone phase) begun false old
    → IsSynced old new
    → ShowsZone atom layout zone texts phase false new
zone_begins atom layout zone texts (saving n) old new is holds header call =
    rw is (begins_saving atom layout zone texts old new holds header call)
zone_begins atom layout zone texts (opening stage) old new is holds header call = absurd is
zone_begins atom layout zone texts (writing n) old new is holds header call = absurd is
zone_begins atom layout zone texts (mending n) old new is holds header call = absurd is
zone_begins atom layout zone texts (moving stage) old new is holds header call = absurd is
zone_begins atom layout zone texts (shifting n) old new is holds header call =
    rw is (begins_shifting atom layout zone texts old new holds header call)
zone_begins atom layout zone texts (turning stage) old new is holds header call = absurd is

-- its end
pub zone_ends : {M : Type 0} (atom : ℕ) (layout : Layout) (zone : Hotzone M) (texts : Texts)
    (phase : Phase) (old new : View) → IsLast phase
    → ShowsZone atom layout zone texts phase false old → IsSynced old new
    → ShowsMoved atom layout zone texts (new_area zone phase) new
zone_ends atom layout zone texts (saving n) old new is shows call = absurd is
zone_ends atom layout zone texts (opening stage) old new is shows call = absurd is
zone_ends atom layout zone texts (writing n) old new is shows call = absurd is
zone_ends atom layout zone texts (mending n) old new is shows call = absurd is
zone_ends atom layout zone texts (moving first_written) old new is shows call = absurd (cc)
zone_ends atom layout zone texts (moving begun) old new is shows call = absurd (cc)
zone_ends atom layout zone texts (moving first_kept) old new is shows call = absurd (cc)
zone_ends atom layout zone texts (moving second_written) old new is shows call = record {
  new = synced old new zone.own _ _ call shows.own;
  header = λ after. record {
    first = synced old new layout.first _ _ call shows.header.first;
    second = synced old new layout.second _ _ call shows.header.second;
  };
}
zone_ends atom layout zone texts (shifting n) old new is shows call = absurd is
zone_ends atom layout zone texts (turning first_written) old new is shows call = absurd (cc)
zone_ends atom layout zone texts (turning begun) old new is shows call = absurd (cc)
zone_ends atom layout zone texts (turning first_kept) old new is shows call = absurd (cc)
zone_ends atom layout zone texts (turning second_written) old new is shows call = record {
  new = synced old new zone.target _ _ call shows.target;
  header = λ after. record {
    first = synced old new layout.first _ _ call shows.header.first;
    second = synced old new layout.second _ _ call shows.header.second;
  };
}
