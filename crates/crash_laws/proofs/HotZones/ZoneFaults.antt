-- Lemmas on the calls of a zone that fail: a stop leaves what it may leave after the call, or
-- before it.
use Rattle.std.proofs.Common.{ℕ, inr, true, false}
use Rattle.crash_laws.proofs.HeaderAreas.AreasShown.{thinned}
use Rattle.crash_laws.proofs.HeaderAreas.CommitSteps.{commit_fails, apart_back}
use Rattle.crash_laws.specs.HeaderAreas.Commits.{Stage, begun, ShowsCommit}
use Rattle.crash_laws.specs.HeaderAreas.Headers.{Layout, Header}
use Rattle.sector_disk.specs.DiskViews.Views.{View, IsThinned}
use Rattle.crash_laws.proofs.HotZones.AtomsShown.{part_failed, part_fails_beside, header_fails_beside}
use Rattle.crash_laws.proofs.HotZones.AtomsShown.{beside_failed_commit}
use Rattle.crash_laws.proofs.HotZones.ZoneCalls.{new_found}
use Rattle.crash_laws.specs.HotZones.Calls.{ZoneFault, save_fails, open_fails, write_fails, mend_fails}
use Rattle.crash_laws.specs.HotZones.Calls.{move_fails, shift_fails, turn_fails, sync_fails}
use Rattle.crash_laws.specs.HotZones.Zones.{Hotzone, Texts, Phase, saving, writing, mending, shifting}
use Rattle.crash_laws.specs.HotZones.Zones.{unknown, as_either, found_by, own_now, target_now, store_now}
use Rattle.crash_laws.specs.HotZones.Zones.{stage_of, ShowsZone, IsApart}

header_thinned : {M : Type 0} (atom : ℕ) (layout : Layout) (from to : Header M) (stage : Stage)
    (old new : View) → IsThinned old new
    → ShowsCommit atom layout from to stage false old
    → ShowsCommit atom layout from to stage true new
header_thinned atom layout from to stage old new call shows = record {
  first = thinned old new layout.first _ _ call shows.first;
  second = thinned old new layout.second _ _ call shows.second;
}

pub zone_fails : {M : Type 0} (atom : ℕ) (layout : Layout) (zone : Hotzone M) (texts : Texts)
    (phase next : Phase) (old new : View)
    → IsApart layout zone → ShowsZone atom layout zone texts phase false old
    → ZoneFault atom layout zone texts old new phase next
    → ShowsZone atom layout zone texts next true new
zone_fails atom layout zone texts _ _ old new is shows (save_fails n more part) = record {
  own = part_fails_beside atom zone.own zone.store texts.saved n more _ _ old new is.own_store part
      shows.own;
  target =
      part_fails_beside atom zone.target zone.store texts.saved n more _ _ old new is.target_store
      part shows.target;
  store = part_failed atom zone.store texts.saved n more (store_now (saving n)) unknown texts old
      new (λ i value same. tt) part shows.store;
  header =
      header_fails_beside atom layout _ _ begun zone.store texts.saved n more old new
      is.store_header part shows.header;
}
zone_fails atom layout zone texts _ _ old new is shows (open_fails stage call) = record {
  own = beside_failed_commit atom layout stage zone.opened zone.own _ _ old new is.own_header call
      shows.own;
  target =
      beside_failed_commit atom layout stage zone.opened zone.target _ _ old new is.target_header
      call shows.target;
  store = beside_failed_commit atom layout stage zone.opened zone.store _ _ old new is.store_header
      call shows.store;
  header = commit_fails atom layout _ _ stage old new is.headers call shows.header;
}
zone_fails atom layout zone texts _ _ old new is shows (write_fails n more part) = record {
  own = part_failed atom zone.own texts.new n more (own_now zone.resilience (writing n)) as_either
      texts old new (λ i value same. inr same) part shows.own;
  target =
      part_fails_beside atom zone.target zone.own texts.new n more _ _ old new
      (apart_back _ _ is.own_target) part shows.target;
  store = part_fails_beside atom zone.store zone.own texts.new n more _ _ old new
      (apart_back _ _ is.own_store) part shows.store;
  header =
      header_fails_beside atom layout _ _ begun zone.own texts.new n more old new is.own_header part
      shows.header;
}
zone_fails atom layout zone texts _ _ old new is shows (mend_fails n more part) = record {
  own = part_failed atom zone.own texts.new n more (own_now zone.resilience (mending n))
      (found_by zone.resilience) texts old new
      (λ i value same. new_found zone.resilience texts i value same) part shows.own;
  target =
      part_fails_beside atom zone.target zone.own texts.new n more _ _ old new
      (apart_back _ _ is.own_target) part shows.target;
  store = part_fails_beside atom zone.store zone.own texts.new n more _ _ old new
      (apart_back _ _ is.own_store) part shows.store;
  header =
      header_fails_beside atom layout _ _ begun zone.own texts.new n more old new is.own_header part
      shows.header;
}
zone_fails atom layout zone texts _ _ old new is shows (move_fails stage call) = record {
  own = beside_failed_commit atom layout stage zone.moved zone.own _ _ old new is.own_header call
      shows.own;
  target =
      beside_failed_commit atom layout stage zone.moved zone.target _ _ old new is.target_header
      call shows.target;
  store = beside_failed_commit atom layout stage zone.moved zone.store _ _ old new is.store_header
      call shows.store;
  header = commit_fails atom layout _ _ stage old new is.headers call shows.header;
}
zone_fails atom layout zone texts _ _ old new is shows (shift_fails n more part) = record {
  own = part_fails_beside atom zone.own zone.target texts.new n more _ _ old new is.own_target part
      shows.own;
  target =
      part_failed atom zone.target texts.new n more (target_now (shifting n)) unknown texts old new
      (λ i value same. tt) part shows.target;
  store = part_fails_beside atom zone.store zone.target texts.new n more _ _ old new
      (apart_back _ _ is.target_store) part shows.store;
  header =
      header_fails_beside atom layout _ _ begun zone.target texts.new n more old new
      is.target_header part shows.header;
}
zone_fails atom layout zone texts _ _ old new is shows (turn_fails stage call) = record {
  own = beside_failed_commit atom layout stage zone.moved zone.own _ _ old new is.own_header call
      shows.own;
  target =
      beside_failed_commit atom layout stage zone.moved zone.target _ _ old new is.target_header
      call shows.target;
  store = beside_failed_commit atom layout stage zone.moved zone.store _ _ old new is.store_header
      call shows.store;
  header = commit_fails atom layout _ _ stage old new is.headers call shows.header;
}
zone_fails atom layout zone texts _ _ old new is shows (sync_fails phase call) = record {
  own = thinned old new zone.own _ _ call shows.own;
  target = thinned old new zone.target _ _ call shows.target;
  store = thinned old new zone.store _ _ call shows.store;
  header = header_thinned atom layout _ _ (stage_of phase) old new call shows.header;
}
