-- Lemmas on what others do beside a zone: what is known of it stays.
use Rattle.std.proofs.Common.{◌≡◌, ℕ, ◌+◌, inl, inr, Bool, true, false, List, [], refl}
use Rattle.std.proofs.lemmas.List.Elements.{Contains-push_cases}
use Rattle.crash_laws.specs.HeaderAreas.Areas.{Area, Shows, IsOf}
use Rattle.crash_laws.specs.HeaderAreas.Commits.{Stage, begun, first_written, first_kept, second_written}
use Rattle.crash_laws.specs.HeaderAreas.Commits.{CopyLeft, written_of}
use Rattle.crash_laws.specs.HeaderAreas.Headers.{Copy, primary, secondary, Layout, place_of, text_of}
use Rattle.crash_laws.proofs.HeaderAreas.AreasShown.{weaker, unchanged, synced, thinned, elsewhere}
use Rattle.crash_laws.proofs.HeaderAreas.AreasShown.{failed_elsewhere}
use Rattle.sector_disk.proofs.DiskViews.TableEntries.{none_contained}
use Rattle.sector_disk.specs.DiskViews.Views.{View, IsUnchanged, IsThinned}
use Rattle.crash_laws.specs.HotZones.Calls.{CallBeside, reads, syncs, writes_beside}
use Rattle.crash_laws.specs.HotZones.Calls.{sync_fails_beside, write_fails_beside}
use Rattle.crash_laws.specs.HotZones.Promises.{sharp}
use Rattle.crash_laws.specs.HotZones.Zones.{Resilience, Hotzone, Texts, Phase, saving, opening, writing}
use Rattle.crash_laws.specs.HotZones.Zones.{mending, moving, shifting, turning, as_old, as_new, Is, Holds}
use Rattle.crash_laws.specs.HotZones.Zones.{found_by, own_now, own_left, target_now, target_left, store_now}
use Rattle.crash_laws.specs.HotZones.Zones.{store_left, from_of, to_of, stage_of, ShowsZone, Reaches}
use Rattle.crash_laws.specs.HotZones.Zones.{its_own, its_target, its_store, its_header}
use Rattle.crash_laws.proofs.HotZones.AtomsShown.{split}
use Rattle.crash_laws.proofs.HotZones.ZoneCalls.{new_found}

-- what an atom holds now may be left there
own_held : (resilience : Resilience) (texts : Texts) (phase : Phase) (i : ℕ) (value : List ℕ)
    → Holds (own_now resilience phase) texts i value → Is (own_left resilience phase) texts i value
own_held resilience texts (saving n) i value now = now
own_held resilience texts (opening stage) i value now = now
own_held resilience texts (writing n) i value now =
    split n as_new as_old texts i value _ (λ is. inr is) (λ is. inl is) now
own_held resilience texts (mending n) i value now =
    split n as_new (found_by resilience) texts i value _
    (λ is. new_found resilience texts i value is) (λ is. is) now
own_held resilience texts (moving stage) i value now = now
own_held resilience texts (shifting n) i value now = now
own_held resilience texts (turning stage) i value now = now

target_held : (texts : Texts) (phase : Phase) (i : ℕ) (value : List ℕ)
    → Holds (target_now phase) texts i value → Is (target_left phase) texts i value
target_held texts (saving n) i value now = tt
target_held texts (opening stage) i value now = tt
target_held texts (writing n) i value now = tt
target_held texts (mending n) i value now = tt
target_held texts (moving stage) i value now = tt
target_held texts (shifting n) i value now = tt
target_held texts (turning stage) i value now = now

store_held : (texts : Texts) (phase : Phase) (i : ℕ) (value : List ℕ)
    → Holds (store_now phase) texts i value → Is (store_left phase) texts i value
store_held texts (saving n) i value now = tt
store_held texts (opening stage) i value now = now
store_held texts (writing n) i value now = now
store_held texts (mending n) i value now = now
store_held texts (moving stage) i value now = now
store_held texts (shifting n) i value now = tt
store_held texts (turning stage) i value now = tt

copy_held : (atom : ℕ) (copy : Copy) (stage : Stage) (text : List ℕ) (i : ℕ) (value : List ℕ)
    → IsOf atom text i value → CopyLeft atom copy stage text i value
copy_held atom primary begun text i value now = now
copy_held atom primary first_written text i value now = tt
copy_held atom primary first_kept text i value now = now
copy_held atom primary second_written text i value now = now
copy_held atom secondary begun text i value now = now
copy_held atom secondary first_written text i value now = now
copy_held atom secondary first_kept text i value now = now
copy_held atom secondary second_written text i value now = tt

-- what goes for each area goes for the zone
each_area : {M : Type 0} (atom : ℕ) (layout : Layout) (zone : Hotzone M) (texts : Texts)
    (phase : Phase) (before after : Bool) (old new : View)
    → ((area : Area) (Now Left : ℕ → List ℕ → Type 0) → Reaches layout zone area
    → ((i : ℕ) (value : List ℕ) → Now i value → Left i value)
    → Shows area Now Left before old → Shows area Now Left after new)
    → ShowsZone atom layout zone texts phase before old
    → ShowsZone atom layout zone texts phase after new
each_area {M} atom layout zone texts phase before after old new goes shows = record {
  own = goes zone.own (Holds (own_now zone.resilience phase) texts)
      (Is (own_left zone.resilience phase) texts) its_own (own_held zone.resilience texts phase)
      shows.own;
  target =
      goes zone.target (Holds (target_now phase) texts) (Is (target_left phase) texts) its_target
      (target_held texts phase) shows.target;
  store = goes zone.store (Holds (store_now phase) texts) (Is (store_left phase) texts) its_store
      (store_held texts phase) shows.store;
  header =
      record {
        first = each_copy primary shows.header.first;
        second =
            each_copy secondary shows.header.second;
      };
}
  where
    text : Copy → List ℕ
    text copy =
        text_of (written_of copy (stage_of phase) (from_of zone phase) (to_of zone phase)) copy

    each_copy : (copy : Copy)
        → Shows (place_of layout copy) (IsOf atom (text copy))
        (CopyLeft atom copy (stage_of phase) (text copy)) before old
        → Shows (place_of layout copy) (IsOf atom (text copy))
        (CopyLeft atom copy (stage_of phase) (text copy)) after new
    each_copy copy =
        goes (place_of layout copy) (IsOf atom (text copy))
        (CopyLeft atom copy (stage_of phase) (text copy)) (its_header copy)
        (copy_held atom copy (stage_of phase) (text copy))

pub zone_unchanged : {M : Type 0} (atom : ℕ) (layout : Layout) (zone : Hotzone M) (texts : Texts)
    (phase : Phase) (broken : Bool) (old new : View)
    → IsUnchanged old new → ShowsZone atom layout zone texts phase broken old
    → ShowsZone atom layout zone texts phase broken new
zone_unchanged atom layout zone texts phase broken old new call shows =
    each_area atom layout zone texts phase broken broken old new
    (λ area Now Left of held shown. unchanged old new area Now Left call shown) shows

-- what is known while nothing has failed is known at all events
pub zone_whole : {M : Type 0} (atom : ℕ) (layout : Layout) (zone : Hotzone M) (texts : Texts)
    (phase : Phase) (broken : Bool) (view : View)
    → ShowsZone atom layout zone texts phase false view
    → ShowsZone atom layout zone texts phase broken view
zone_whole atom layout zone texts phase broken view shows =
    each_area atom layout zone texts phase false broken view view
    (λ area Now Left of held shown.
    record { now = λ _ i below. shown.now refl i below; left = shown.left }) shows

pub zone_stays : {M : Type 0} (atom : ℕ) (layout : Layout) (zone : Hotzone M) (texts : Texts)
    (phase : Phase) (broken : Bool) (old new : View)
    → CallBeside layout zone old new broken → ShowsZone atom layout zone texts phase false old
    → ShowsZone atom layout zone texts phase broken new
zone_stays atom layout zone texts phase _ old new (reads call) shows =
    zone_unchanged atom layout zone texts phase false old new call shows
zone_stays atom layout zone texts phase _ old new (syncs call) shows =
    each_area atom layout zone texts phase false false old new
    (λ area Now Left of held shown. weaker area Now Now Now Left (λ i value below now. now)
    (λ i value below now. held i value now)
    (synced old new area Now Left call shown)) shows
zone_stays atom layout zone texts phase _ old new (writes_beside size at n text far call) shows =
    each_area atom layout zone texts phase false false old new
    (λ area Now Left of held shown. elsewhere size at n text old new area Now Left (far area of)
    call shown) shows
zone_stays atom layout zone texts phase _ old new (sync_fails_beside call) shows =
    each_area atom layout zone texts phase false true old new
    (λ area Now Left of held shown. thinned old new area Now Left call shown) shows
zone_stays atom layout zone texts phase _ old new (write_fails_beside size at n text far call)
    shows =
    each_area atom layout zone texts phase false true old new
    (λ area Now Left of held shown. failed_elsewhere size at n text old new area Now Left
    (far area of) call shown) shows

-- a call that leaves what is there now, and no more candidates than before
pub zone_kept : {M : Type 0} (atom : ℕ) (layout : Layout) (zone : Hotzone M) (texts : Texts)
    (phase : Phase) (before after : Bool) (old new : View)
    → (after ≡ false → (before ≡ false) × ((place : ℕ) → new.current place ≡ old.current place))
    → IsThinned old new
    → ShowsZone atom layout zone texts phase before old
    → ShowsZone atom layout zone texts phase after new
zone_kept atom layout zone texts phase before after old new stays call shows =
    each_area atom layout zone texts phase before after old new
    (λ area Now Left of held shown. record {
      now = λ whole i below. rw ((stays whole).1 (area.start + i))
          (shown.now (stays whole).0 i below);
      left = λ i below value has. shown.left i below value (call (area.start + i) value has);
    }) shows

pub zone_sharp : {M : Type 0} (atom : ℕ) (layout : Layout) (zone : Hotzone M) (texts : Texts)
    (phase : Phase) (view : View)
    → ShowsZone atom layout zone texts phase false view
    → ShowsZone atom layout zone texts phase false (sharp view)
zone_sharp atom layout zone texts phase view shows =
    each_area atom layout zone texts phase false false view (sharp view)
    (λ area Now Left of held shown. record {
      now = shown.now;
      left = λ i below value has. elim
          (Contains-push_cases [] (view.current (area.start + i)) value has) [
            | inl none ↦ none_contained _ value none
            | inr same ↦
                rw (← same) (held i (view.current (area.start + i)) (shown.now refl i below))
          ];
    }) shows
