-- All that a volume's worker does in one call is a step of the volume's machine, and leaves a volume
-- that its zone leads.
use Rattle.std.proofs.Common.{List, None, Option, Some, ap, false, length, refl, subst, suc, sym, ℕ}
use Rattle.std.proofs.Common.{◌∙◌, ◌≡◌, true, ◌≢◌}
use Rattle.base_terms.specs.declared.block_range.BlockRange.{BlockRange}
use Rattle.range_lock.specs.Locks.{IsStandingOf}
use Rattle.volume_machine.specs.States.{State, open_at}
use Rattle.std.specs.Prelude.{Err, Ok}
use Rattle.cipher_laws.specs.Bytes.{AreBytes}
use Rattle.base_terms.specs.declared.disk_sizes.Sizes.{Sizes}
use Rattle.hotzone.specs.Promises.{seals_in}
use Rattle.hotzone.specs.Steps.{Goes as StepGoes, Stops}
use Rattle.hotzone.specs.Workers.{IsDone, IsWorking, range_in}
use Rattle.hotzone.specs.declared.site.Site.{Site}
use Rattle.hotzone.specs.declared.worker.Stepped.{Stepped}
use Rattle.hotzone.specs.declared.worker.Worker.{Worker}
use Rattle.hotzone.specs.declared.worker.ZoneFault.{ZoneFault}
use Rattle.luks_rules.specs.States.{IsSound as IsRuled}
use Rattle.luks_store.specs.Loads.{IsStored}
use Rattle.range_lock.specs.Locks.{Locks}
use Rattle.range_lock.specs.declared.Standing.TheVariants.{Waiting}
use Rattle.sector_disk.specs.JoinedDisks.Counts.{HasSizes}
use Rattle.volume_core.proofs.ZoneFacts.{IsAt, at-renewed, runs-renewed}
use Rattle.volume_core.proofs.ZoneGoes.{goes-kept, goes-step, stops-kept, stops-step}
use Rattle.volume_core.proofs.ZoneLeaves.{broken-step, ends-step, leaves-kept, leaves-step}
use Rattle.volume_core.proofs.ZoneSteps.{IsBeside, takes-kept, takes-step, waits-step}
use Rattle.volume_core.specs.Turns.{Has, HasGone, HasTaken, HasWorked, IsRenewed, LeavesLane}
use Rattle.volume_core.specs.Turns.{MayStep, Shared, begins, ends, finds_broken, leaves}
use Rattle.volume_core.specs.Turns.{stays, steps, stops, takes, waits}
use Rattle.volume_core.specs.Volumes.{IsVolume, state_of}
use Rattle.volume_core.specs.Zones.{IsReadBy, work_in, worked_of}
use Rattle.volume_core.specs.declared.answers.Worked.{Worked}
use Rattle.volume_core.specs.declared.answers.Worked.TheVariants as answers
use Rattle.volume_laws.proofs.VolumesKept.{step_in_order}
use Rattle.volume_laws.specs.Converting.{IsInOrder}
use Rattle.volume_machine.specs.Courses.{Courses}
use Rattle.volume_machine.specs.Seals.{seals_of}
use Rattle.volume_machine.specs.WorkSteps.{WorkStep}
use Rattle.volume_machine.specs.declared.keys.Keys.{Keys}
use Rattle.volume_machine.specs.declared.open.Open.{Open as Operation}
use Rattle.hotzone.specs.ZoneEvents.Holding.{IsKept, MapsFollow, SizesAreTold, ZonesArePlanned}
use Rattle.hotzone.specs.ZoneEvents.Promises.{breaks, StepsAreWorks, StepsKeepGround}
use Rattle.hotzone.specs.ZoneEvents.Promises.{StepsKeepParts}
use Rattle.hotzone.specs.ZoneEvents.Promises.{StepsLeaveNew}
use Rattle.hotzone.specs.ZoneEvents.Readings.{reading_of}
use Rattle.hotzone.specs.ZoneEvents.Works.{layout_of}

-- what a call has come to
pub record HasDone {C : Type 0} (sector : C → ℕ) (seal unseal : C → ℕ → List ℕ → List ℕ)
    (w after : Worker C) (old new : State (Keys C)) (worked : Worked) : Type 0 where
  pub step : WorkStep (reading_of w.loaded.valid.sizes) (seals_in seal unseal w) old new
      (worked_of worked)
  pub volume : IsVolume sector (Some after) new
  pub sizes : after.loaded.valid.sizes ≡ w.loaded.valid.sizes

-- a volume that a zone leads
abbrev pub with_zone : {C : Type 0} → (C → ℕ → List ℕ → List ℕ) → (C → ℕ → List ℕ → List ℕ)
    → Shared → Keys C → Worker C → State (Keys C)
with_zone seal unseal s keys w =
    state_of s.map keys s.table s.lanes s.broken (work_in seal unseal (Some w)) s.disk

module _ {C : Type 0} (sector : C → ℕ) (seal unseal : C → ℕ → List ℕ → List ℕ) where
  done-renewed : (before ready after : Worker C) (old new : State (Keys C)) (worked : Worked)
      → IsRenewed before ready → HasDone sector seal unseal ready after old new worked
      → HasDone sector seal unseal before after old new worked
  done-renewed before ready after old new worked (stays none is) done =
      subst (λ w. HasDone sector seal unseal w after old new worked) is done
  done-renewed before ready after old new worked (begins given is) done =
      let anew =
      subst (λ w. HasDone sector seal unseal w after old new worked) is done in
      record { step = anew.step; volume = anew.volume; sizes = anew.sizes }

  -- the volume where nothing changed
  same-volume : (old new : Shared) (keys : Keys C) (before after : Worker C)
      → IsAt sector seal unseal after (with_zone seal unseal old keys before) → new ≡ old
      → with_zone seal unseal new keys after ≡ with_zone seal unseal old keys before
  same-volume old new keys before after at same =
      ap (λ (s : Shared). with_zone seal unseal s keys after) same
      ∙ ap (λ k. state_of old.map keys old.table old.lanes old.broken k old.disk) (sym at.work)

  module _ (works : StepsAreWorks sector seal unseal) (parts : StepsKeepParts sector seal unseal)
      (ground : StepsKeepGround sector seal unseal) (news : StepsLeaveNew sector seal unseal)
      (planned : ZonesArePlanned sector) (maps : MapsFollow sector) (before after : Worker C)
      (o n : Shared) (keys : Keys C) (lane : ℕ) (last : suc lane ≡ length o.lanes)
      (at : IsAt sector seal unseal before (with_zone seal unseal o keys before))
      (kept : IsKept sector after) where
    abbrev old : State (Keys C)
    old = with_zone seal unseal o keys before

    abbrev new : State (Keys C)
    new = with_zone seal unseal n keys after

    -- a zone that goes on
    at-ready : (ready : Worker C) → IsRenewed before ready → IsAt sector seal unseal ready old
    at-ready ready renewed = at-renewed sector seal unseal before ready old at renewed

    order-behind : (ready : Worker C) (worked : Worked) → IsAt sector seal unseal ready old
        → WorkStep (reading_of ready.loaded.valid.sizes) (seals_in seal unseal ready) old new
        (worked_of worked)
        → IsInOrder (reading_of ready.loaded.valid.sizes) new
    order-behind ready worked now step =
        step_in_order (reading_of ready.loaded.valid.sizes) (seals_in seal unseal ready) old new
        (worked_of worked) now.volume.led.order step

    does-broken : after ≡ before → old.broken ≡ true → LeavesLane lane o n → n.broken ≡ true
        → n.disk ≡ o.disk → HasDone sector seal unseal before after old new answers.Broken
    does-broken same was left now rests =
        let beside : IsBeside old (with_zone seal unseal n keys before) = record {
          map = left.map_is;
          keys = refl;
          room = left.room;
          broken = now ∙ sym was;
          work = refl;
          rests = rests;
        } in
        let step =
        broken-step sector seal unseal before old at lane last
        (with_zone seal unseal n keys before) left.left beside was in
        subst (λ v. HasDone sector seal unseal before v old (with_zone seal unseal n keys v)
        answers.Broken) (sym same) (record {
          step = step;
          volume = leaves-kept sector seal unseal before old at lane last
              (with_zone seal unseal n keys before) left.left beside
              (step_in_order (reading_of before.loaded.valid.sizes) (seals_in seal unseal before)
              old (with_zone seal unseal n keys before) (worked_of answers.Broken)
              at.volume.led.order step);
          sizes = refl;
        })

    does-ends : o.broken ≡ false → IsRenewed before after → IsDone after.next → n ≡ o
        → HasDone sector seal unseal before after old new answers.Finished
    does-ends whole renewed over same =
        let now = at-ready after renewed in
        let still = same-volume o n keys before after now same in
        done-renewed before after after old new _ renewed (record {
          step = ends-step sector seal unseal after old now lane last
              (runs-renewed before after renewed) whole over new still;
          volume = subst (λ s. IsVolume sector (Some after) s) (sym still) now.volume;
          sizes = refl;
        })

    does-waits : (other : ℕ) → o.broken ≡ false → IsRenewed before after
        → Has after (open_at o.lanes lane) → IsStandingOf lane o.table.entries (Waiting other)
        → n ≡ o → HasDone sector seal unseal before after old new (answers.Waiting other)
    does-waits other whole renewed has stands same =
        let now = at-ready after renewed in
        let still = same-volume o n keys before after now same in
        done-renewed before after after old new _ renewed (record {
          step = waits-step sector seal unseal planned after old now
              (runs-renewed before after renewed) whole lane last has.o has.at has.range other stands
              new still;
          volume = subst (λ s. IsVolume sector (Some after) s) (sym still) now.volume;
          sizes = refl;
        })

    does-takes : (range : BlockRange) (worked : Worked) → o.broken ≡ false
        → IsRenewed before after → open_at o.lanes lane ≡ None → range_in after ≡ Some range
        → HasTaken lane range o n worked → HasDone sector seal unseal before after old new worked
    does-takes range worked whole renewed free is taken =
        let now = at-ready after renewed in
        let runs = runs-renewed before after renewed in
        let beside : IsBeside old new = record {
          map = taken.map_is;
          keys = refl;
          room = taken.room;
          broken = taken.broken_is;
          work = sym now.work;
          rests = taken.rests;
        } in
        let step = takes-step sector seal unseal planned after old now runs whole lane last free range
        is new beside taken.entered taken.becomes worked taken.stands in
        done-renewed before after after old new _ renewed (record {
          step = step;
          volume = takes-kept sector seal unseal planned after old now runs whole lane last free range
              is new beside taken.entered taken.becomes (order-behind after worked now step);
          sizes = refl;
        })

    does-leaves : o.broken ≡ false → IsRenewed before after
        → (p : Operation) → open_at o.lanes lane ≡ Some p → range_in after ≢ Some p.range
        → LeavesLane lane o n → n.broken ≡ false → n.disk ≡ o.disk
        → HasDone sector seal unseal before after old new answers.Stepped
    does-leaves whole renewed p here differs left unbroken rests =
        let now = at-ready after renewed in
        let beside : IsBeside old new = record {
          map = left.map_is;
          keys = refl;
          room = left.room;
          broken = unbroken ∙ sym whole;
          work = sym now.work;
          rests = rests;
        } in
        let step = leaves-step sector seal unseal after old now lane last new left.left beside
        (runs-renewed before after renewed) whole p here differs in
        done-renewed before after after old new _ renewed (record {
          step = step;
          volume = leaves-kept sector seal unseal after old now lane last new left.left beside
              (order-behind after answers.Stepped now step);
          sizes = refl;
        })

    does-steps : (ready : Worker C) (stepped : Stepped) → o.broken ≡ false
        → IsRenewed before ready → MayStep ready o.table.entries (open_at o.lanes lane) lane
        → StepGoes (seals_in seal unseal ready) o.disk n.disk ready after stepped
        → HasGone after o n → HasDone sector seal unseal before after old new answers.Stepped
    does-steps ready stepped whole renewed may step gone =
        let now = at-ready ready renewed in
        let runs = runs-renewed before ready renewed in
        let room = ap (λ (t : Locks). t.room) gone.table_is in
        let entries = ap (λ (t : Locks). t.entries) gone.table_is in
        let one = goes-step sector seal unseal works ground ready after old new now runs whole lane last
        may kept gone.sizes refl room refl parts news maps stepped step gone.runs gone.map_is
        entries gone.lanes_are gone.broken_is in
        done-renewed before ready after old new _ renewed (record {
          step = one;
          volume = goes-kept sector seal unseal works ground ready after old new now runs whole lane
              last may kept gone.sizes refl room refl parts news maps stepped step gone.runs
              gone.map_is entries gone.lanes_are gone.broken_is
              (order-behind ready answers.Stepped now one);
          sizes = (ground ready after o.disk n.disk (Ok stepped) now.kept.working step).sizes;
        })

    does-stops : (ready : Worker C) (fault : ZoneFault) → o.broken ≡ false
        → IsRenewed before ready → MayStep ready o.table.entries (open_at o.lanes lane) lane
        → Stops (seals_in seal unseal ready) o.disk n.disk ready after fault
        → HasSizes after.loaded.valid.sizes n.disk → LeavesLane lane o n
        → n.broken ≡ breaks after.halted
        → HasDone sector seal unseal before after old new (answers.Fault fault)
    does-stops ready fault whole renewed may step sized left broken =
        let now = at-ready ready renewed in
        let runs = runs-renewed before ready renewed in
        let one = stops-step sector seal unseal works ground ready after old new now runs whole lane
        last may kept sized refl left.room refl fault step left.map_is broken left.left in
        done-renewed before ready after old new _ renewed (record {
          step = one;
          volume = stops-kept sector seal unseal works ground ready after old new now runs whole lane
              last may kept sized refl left.room refl fault step left.map_is broken left.left
              (order-behind ready (answers.Fault fault) now one);
          sizes = (ground ready after o.disk n.disk (Err fault) now.kept.working step).sizes;
        })

    pub does : (worked : Worked) → HasWorked seal unseal lane before after o n worked
        → HasDone sector seal unseal before after old new worked
    does _ (finds_broken was same left now rests) = does-broken same was left now rests
    does _ (ends whole renewed turn same) = does-ends whole renewed turn same
    does _ (takes range worked whole renewed turn taken) =
        does-takes range worked whole renewed turn.1 turn.2 taken
    does _ (waits other whole renewed turn same) =
        does-waits other whole renewed turn.0 turn.1 same
    does _ (leaves whole renewed turn left unbroken rests) =
        does-leaves whole renewed turn.0 turn.1 turn.2 left unbroken rests
    does _ (steps ready stepped whole renewed turn step gone) =
        does-steps ready stepped whole renewed turn.1 step gone
    does _ (stops ready fault whole renewed turn step sized left broken) =
        does-stops ready fault whole renewed turn.1 step sized left broken

-- ---- by whatever sizes the volume's header is read
module _ {C : Type 0} (sector : C → ℕ) (seal unseal : C → ℕ → List ℕ → List ℕ)
    (told : SizesAreTold sector) (w after : Worker C) (old new : State (Keys C))
    (worked : Worked) (at : IsAt sector seal unseal w old)
    (done : HasDone sector seal unseal w after old new worked) (sizes : Sizes)
    (read : IsReadBy sizes old) where
  same-sizes : sizes ≡ w.loaded.valid.sizes
  same-sizes = told (seals_in seal unseal w) (layout_of w) sizes w old at.kept at.work
      (record { sizes_are = at.volume.led.sizes; courses = at.volume.led.order.courses })
      (record { sizes_are = read.sizes_are; courses = read.courses }) read.some

  same-seals : seals_in seal unseal w ≡ seals_of seal unseal old.map.atom old.keys
  same-seals =
      let site : w.site.atom ≡ w.map.atom = ap (λ (s : Site). s.atom) at.kept.working.zone.site_is in
      let atom : w.site.atom ≡ old.map.atom =
      site ∙ at.kept.working.zone.map_is.atom ∙ at.volume.led.sizes.atom ∙ sym at.volume.atom in
      ap (λ a. seals_of seal unseal a w.keys) atom
      ∙ ap (λ k. seals_of seal unseal old.map.atom k) at.volume.led.keys

  pub read-step : WorkStep (reading_of sizes) (seals_of seal unseal old.map.atom old.keys) old new
      (worked_of worked)
  read-step =
      subst (λ s. WorkStep (reading_of s) (seals_of seal unseal old.map.atom old.keys) old new
      (worked_of worked)) (sym same-sizes)
      (subst (λ k. WorkStep (reading_of w.loaded.valid.sizes) k old new (worked_of worked))
      same-seals done.step)

  pub read-behind : IsReadBy sizes new
  read-behind =
      let same : after.loaded.valid.sizes ≡ sizes = done.sizes ∙ sym same-sizes in
      record {
        sizes_are = subst (λ s. HasSizes s new.disk) same done.volume.led.sizes;
        some = read.some;
        courses = subst (λ s. Courses (reading_of s) new) same done.volume.led.order.courses;
      }

-- ---- a call, by the parts of the volume
pub record HasCalled {C : Type 0} (sector : C → ℕ) (seal unseal : C → ℕ → List ℕ → List ℕ)
    (after : Worker C) (old new : State (Keys C)) (worked : Worked) : Type 0 where
  pub volume : IsVolume sector (Some after) new
  pub step : (sizes : Sizes) → IsReadBy sizes old
      → WorkStep (reading_of sizes) (seals_of seal unseal old.map.atom old.keys) old new
      (worked_of worked)
  pub read : (sizes : Sizes) → IsReadBy sizes old → IsReadBy sizes new

-- a volume that may have a zone
abbrev pub with_any : {C : Type 0} → (C → ℕ → List ℕ → List ℕ) → (C → ℕ → List ℕ → List ℕ)
    → Shared → Keys C → Option (Worker C) → State (Keys C)
with_any seal unseal s keys zone =
    state_of s.map keys s.table s.lanes s.broken (work_in seal unseal zone) s.disk

-- what the zone's type says of it
pub record IsTyped {C : Type 0} (sector : C → ℕ) (w : Worker C) : Type 0 where
  pub working : IsWorking sector w
  pub stored : IsStored w.loaded
  pub ruled : IsRuled w.loaded.valid.meta w.loaded.valid.sizes
  pub first_salt : length w.loaded.copies.primary.salt ≡ 64
  pub second_salt : length w.loaded.copies.secondary.salt ≡ 64
  pub bytes : AreBytes w.buffer

module _ {C : Type 0} (sector : C → ℕ) (seal unseal : C → ℕ → List ℕ → List ℕ) (w : Worker C)
    (o : Shared) (keys : Keys C) (typed : IsTyped sector w) where
  at-of : IsVolume sector (Some w) (with_zone seal unseal o keys w)
      → IsAt sector seal unseal w (with_zone seal unseal o keys w)
  at-of volume = record {
    volume = volume;
    kept = record { working = typed.working; stored = typed.stored; ruled = typed.ruled };
    first_salt = typed.first_salt;
    second_salt = typed.second_salt;
    bytes = typed.bytes;
    work = refl;
  }

  pub at-any : (own : Option (Worker C)) → own ≡ Some w
      → IsVolume sector own (with_any seal unseal o keys own)
      → IsAt sector seal unseal w (with_zone seal unseal o keys w)
  at-any own is volume = at-of
      (subst (λ z. IsVolume sector z (with_any seal unseal o keys z)) is volume)

  module _ (works : StepsAreWorks sector seal unseal) (parts : StepsKeepParts sector seal unseal)
      (ground : StepsKeepGround sector seal unseal) (news : StepsLeaveNew sector seal unseal)
      (planned : ZonesArePlanned sector) (maps : MapsFollow sector) (told : SizesAreTold sector)
      (after : Worker C) (n : Shared) (lane : ℕ) (last : suc lane ≡ length o.lanes)
      (behind : IsTyped sector after) (worked : Worked)
      (has : HasWorked seal unseal lane w after o n worked) where
    called : IsVolume sector (Some w) (with_zone seal unseal o keys w)
        → HasCalled sector seal unseal after (with_zone seal unseal o keys w)
        (with_zone seal unseal n keys after) worked
    called volume =
        let at = at-of volume in
        let done = does sector seal unseal works parts ground news planned maps w after o n keys lane
        last at (record {
          working = behind.working;
          stored = behind.stored;
          ruled = behind.ruled;
        }) worked has in
        record {
          volume = done.volume;
          step = λ sizes read. read-step sector seal unseal told w after
              (with_zone seal unseal o keys w) (with_zone seal unseal n keys after) worked at done
              sizes read;
          read = λ sizes read. read-behind sector seal unseal told w after
              (with_zone seal unseal o keys w) (with_zone seal unseal n keys after) worked at done
              sizes read;
        }

    pub called-any : (own : Option (Worker C)) → own ≡ Some w
        → IsVolume sector own (with_any seal unseal o keys own)
        → HasCalled sector seal unseal after (with_any seal unseal o keys own)
        (with_zone seal unseal n keys after) worked
    called-any own is volume =
        subst (λ z. HasCalled sector seal unseal after (with_any seal unseal o keys z)
        (with_zone seal unseal n keys after) worked) (sym is)
        (called (subst (λ z. IsVolume sector z (with_any seal unseal o keys z)) is volume))
