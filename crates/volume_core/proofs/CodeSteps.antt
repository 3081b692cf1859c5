-- What the calls on a volume find before they do a step, and what a step leaves.
use Rattle.std.proofs.Common.{Bool, List, None, Option, Some, [], arith, false, length, refl, subst}
use Rattle.std.proofs.Common.{suc, sym, true, zero, ℕ, ◌<◌, ◌∙◌, ◌∷◌, ◌||◌, ◌≡◌, ◌≤◌}
use Rattle.std.proofs.lemmas.List.Elements.{All-contains}
use Rattle.std.specs.List.{before_first}
use Rattle.range_lock.specs.Locks.{Conflicts, IsStandingOf, has_entry, is_of}
use Rattle.range_lock.specs.declared.Entry.{Entry}
use Rattle.range_lock.specs.declared.Standing.TheVariants.{Held}
use Rattle.volume_machine.specs.Asks.{entry_of, has_lock}
use Rattle.volume_machine.specs.Events.{Event, Outcome}
use Rattle.volume_machine.specs.Sound.{IsSound}
use Rattle.volume_machine.specs.States.{State, open_at}
use Rattle.volume_machine.specs.Steps.{Goes, Meets, Step}
use Rattle.range_lock.specs.declared.Standing.TheVariants.{Waiting}
use Rattle.volume_machine.specs.declared.{keys.Keys.Keys, open.Open.Open}
use Rattle.volume_machine.proofs.Soundness.{free-room, has-entry, lacks-entry, sound_kept}
use Rattle.volume_machine.proofs.{EventEffects.event_effects, Locking.holds-by}
use Rattle.std.specs.Prelude.{IfSome}
use Rattle.base_terms.specs.declared.disk_sizes.Sizes.{Sizes}
use Rattle.hotzone.specs.declared.worker.Worker.{Worker}
use Rattle.sector_disk.specs.JoinedDisks.Counts.{HasSizes}
use Rattle.sector_disk.specs.Devices.{Device}
use Rattle.volume_core.specs.Volumes.{IsVolume}
use Rattle.volume_core.specs.Zones.{FitsZone, IsLed}
use Rattle.volume_laws.proofs.VolumesKept.{event_in_order}
use Rattle.volume_machine.specs.Events.{lane_of}
use Rattle.hotzone.specs.ZoneEvents.Readings.{reading_of}

-- a lane that has an operation is one of the volume's
pub has-lane : (lanes : List (Option Open)) (lane : ℕ) (o : Open) → open_at lanes lane ≡ Some o →
    lane < length lanes
has-lane [] lane o is = absurd (cc)
has-lane (one ∷ lanes) zero o is = omega arith
has-lane (one ∷ lanes) (suc lane) o is = omega (arith, has-lane lanes lane o is)

module _ {K : Type 0} (state : State K) (lane : ℕ) (sound : IsSound state) where
  -- an operation with a lock has an entry
  pub locked-entry : (o : Open) → open_at state.lanes lane ≡ Some o → has_lock o.ask ≡ true →
      has_entry lane state.entries ≡ true
  locked-entry o is has = has-entry lane state.entries (entry_of state.map.atom lane o.ask)
      (sound.entries lane ∙ rw (is, has) refl)

  -- a lane without an operation has none, and there is room for one
  pub free-entry : open_at state.lanes lane ≡ None → has_entry lane state.entries ≡ false
  free-entry free = lacks-entry lane state.entries (sound.entries lane ∙ rw free refl)

  pub free-place : lane < length state.lanes → open_at state.lanes lane ≡ None →
      length state.entries < state.room
  free-place below free = let fewer = free-room state.lanes lane below (rw free refl) in omega arith

  -- an operation ends within the volume
  pub ends-inside : (o : Open) → open_at state.lanes lane ≡ Some o → o.range.end ≤ state.map.blocks
  ends-inside o is = (sound.under_way lane o is).inside

-- an entry that waits isn't held, and a lane without one holds nothing
pub waits-unheld : (lane other : ℕ) (entries : List Entry)
    → IsStandingOf lane entries (Waiting other) → IsStandingOf lane entries Held → ⊥
waits-unheld lane other entries waits holds =
    let by = holds-by lane entries holds in let (e, is) = rw by.is at waits in
    All-contains (λ x. Conflicts x by.entry → ⊥) (before_first (is_of lane) entries) e by.free
    is.0 is.1

pub none-unheld : (lane : ℕ) (entries : List Entry) → has_entry lane entries ≡ false
    → IsStandingOf lane entries Held → ⊥
none-unheld lane entries none holds =
    let by = holds-by lane entries holds in
    let some = has-entry lane entries by.entry by.is in cc

-- ---- what a client's event leaves of a volume and its zone
-- a disk of the same sizes
still-sized : (sizes : Sizes) (old new : Device) → new.size ≡ old.size → new.atoms ≡ old.atoms
    → HasSizes sizes old → HasSizes sizes new
still-sized sizes old new size atoms is = record {
  atom = is.atom ∙ sym size;
  header = subst (λ n. sizes.header_atoms ≤ n) (sym atoms) is.header;
  main = subst (λ n. sizes.main_atoms ≤ n) (sym atoms) is.main;
  all = is.all ∙ sym atoms;
  alone = is.alone;
}

-- what isn't broken wasn't broken before
whole-before : (before breaks now : Bool) → now ≡ (before || breaks) → now ≡ false → before ≡ false
whole-before true breaks now is whole = absurd (cc)
whole-before false breaks now is whole = refl

module _ {C : Type 0} (old new : State (Keys C)) (event : Event) (outcome : Outcome)
    (meets : Meets old event) (step : Step old event outcome new) where
  -- the last lane isn't one of clients
  last-open : (lane : ℕ) (o : Open) → suc lane ≡ length new.lanes → open_at new.lanes lane ≡ Some o
      → (suc lane ≡ length old.lanes) × (open_at old.lanes lane ≡ Some o)
  last-open lane o last at =
      let goes = event_effects old new event outcome step in
      let count = goes.lane_is.count in
      let client = meets.client in (
        last ∙ count,
        sym (goes.lane_is.others lane (λ same. let is : lane ≡ lane_of event = same in
            omega (arith, is, client, last, count))) ∙ at,
      )

  led-kept : (worker : Worker C) → IsLed worker old → IsLed worker new
  led-kept worker is =
      let goes = event_effects old new event outcome step in record {
        later = is.later;
        none = is.none;
        keys = is.keys ∙ sym goes.keys;
        sizes = still-sized worker.loaded.valid.sizes old.disk new.disk goes.disk.size
            goes.disk.atoms is.sizes;
        order = event_in_order (reading_of worker.loaded.valid.sizes) old new event outcome is.order
            meets step;
        goes_on = λ whole. is.goes_on (whole-before _ _ _ goes.broken_is whole);
        lane = λ whole lane o last at.
            let was = last-open lane o last at in
            subst (λ map. FitsZone worker map o worker.halted) (sym goes.map)
            (is.lane (whole-before _ _ _ goes.broken_is whole) lane o was.0 was.1);
      }

  zone-kept : (zone : Option (Worker C)) → IfSome zone (λ worker. IsLed worker old)
      → IfSome zone (λ worker. IsLed worker new)
  zone-kept None is = is
  zone-kept (Some worker) is = led-kept worker is

-- a step leaves a volume
pub volume-kept : {C : Type 0} (sector : C → ℕ) (zone : Option (Worker C)) (old new : State (Keys C))
    (event : Event) (outcome : Outcome) → IsVolume sector zone old → Meets old event →
    Step old event outcome new → IsVolume sector zone new
volume-kept sector zone old new event outcome is meets step =
    let goes = event_effects old new event outcome step in record {
      atom = rw (goes.map, goes.disk.size) is.atom;
      sound = sound_kept old new event outcome is.sound meets step;
      keys = rw (goes.map, goes.keys) is.keys;
      few = rw goes.lane_is.count is.few;
      led = zone-kept old new event outcome meets step zone is.led;
    }

-- a lane's operation became this
pub goes-to : {K : Type 0} {old new : State K} {lane : ℕ} {entries : List Entry}
    {one now : Option Open} {was is : Bool} → one ≡ now → was ≡ is →
    Goes old new lane entries one was → Goes old new lane entries now is
goes-to same also goes = rw (← same, ← also) goes
