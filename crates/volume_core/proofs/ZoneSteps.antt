-- What a volume's worker does with its lane and its zone is a step of the volume's machine, and the
-- zone leads the volume behind it.
use Rattle.std.proofs.Common.{List, None, Some, [], ap, arith, false, inl, inr, length, refl, subst}
use Rattle.std.proofs.Common.{suc, sym, true, ℕ, ◌*◌, ◌++◌, ◌<◌, ◌^◌, mul-le-mul_right, ◌∙◌, ◌∷◌}
use Rattle.std.proofs.Common.{◌≡◌, ◌≤◌}
use Rattle.base_terms.specs.declared.block_range.BlockRange.{BlockRange}
use Rattle.range_lock.specs.Locks.{IsStanding, IsStandingOf, has_entry}
use Rattle.range_lock.specs.declared.Standing.TheVariants.{Held}
use Rattle.volume_machine.specs.Asks.{entry_of, range_of}
use Rattle.volume_machine.specs.Events.{Outcome}
use Rattle.volume_machine.specs.States.{State, open_at}
use Rattle.hotzone.specs.Promises.{seals_in}
use Rattle.hotzone.specs.Sites.{count_of}
use Rattle.hotzone.specs.Workers.{range_in}
use Rattle.hotzone.specs.declared.worker.NextCall.TheVariants.{Begin}
use Rattle.hotzone.specs.declared.worker.Worker.{Worker}
use Rattle.range_lock.specs.declared.Standing.TheVariants.{Waiting}
use Rattle.volume_core.proofs.CodeSteps.{free-entry, free-place}
use Rattle.volume_core.proofs.WorkerLanes.{begun-on, range-on, right-on, worker-entry}
use Rattle.volume_core.proofs.ZoneFacts.{IsAt, begin-rests, on-disk, range-is, takes-begin}
use Rattle.volume_core.proofs.ZoneFacts.{fresh, fresh-at, waits-begin, worker-writes}
use Rattle.volume_core.specs.Turns.{StandsAs, locked, taken, write_on}
use Rattle.volume_core.specs.Volumes.{IsVolume}
use Rattle.volume_core.specs.Zones.{FitsCall, FitsZone, worked_of}
use Rattle.volume_core.specs.declared.answers.Worked.{Worked}
use Rattle.volume_core.specs.declared.answers.Worked.TheVariants as answers
use Rattle.volume_machine.specs.Courses.{IsPlanned}
use Rattle.volume_machine.specs.Events.{held, waits}
use Rattle.volume_machine.specs.States.{LaneBecomes}
use Rattle.volume_machine.specs.Steps.{TellsStanding}
use Rattle.volume_machine.specs.WorkSteps.{Takes, WorkStep, queues, stays, takes}
use Rattle.volume_machine.specs.Works.{wanted}
use Rattle.volume_machine.specs.declared.keys.Keys.{Keys}
use Rattle.volume_machine.specs.declared.open.Open.{Open as Operation}
use Rattle.volume_laws.specs.Converting.{IsInOrder}
use Rattle.hotzone.specs.ZoneEvents.Heads.{header_on}
use Rattle.hotzone.specs.ZoneEvents.Holding.{ZonesArePlanned}
use Rattle.hotzone.specs.ZoneEvents.Readings.{reading_of}
use Rattle.hotzone.specs.ZoneEvents.Works.{layout_of, unnamed}

-- ---- all stays but the table of locks and the lanes
pub record IsBeside {K : Type 0} (old new : State K) : Type 0 where
  pub map : new.map ≡ old.map
  pub keys : new.keys ≡ old.keys
  pub room : new.room ≡ old.room
  pub broken : new.broken ≡ old.broken
  pub work : new.work ≡ old.work
  pub rests : new.disk ≡ old.disk

-- the zone leads the volume as before
module _ {C : Type 0} (sector : C → ℕ) (seal unseal : C → ℕ → List ℕ → List ℕ) (w : Worker C)
    (old new : State (Keys C)) (at : IsAt sector seal unseal w old) (beside : IsBeside old new)
    (order : IsInOrder (reading_of w.loaded.valid.sizes) new)
    (count : length new.lanes ≡ length old.lanes)
    (fits : new.broken ≡ false → (lane : ℕ) (o : Operation) → suc lane ≡ length new.lanes
    → open_at new.lanes lane ≡ Some o → FitsZone w new.map o w.halted) where
  pub beside-kept : IsVolume sector (Some w) new
  beside-kept = record {
    atom = rw (beside.map, beside.rests) at.volume.atom;
    sound = order.sound;
    keys = rw (beside.keys, beside.map) at.volume.keys;
    few = rw count at.volume.few;
    led = record {
      later = at.volume.led.later;
      none = at.volume.led.none;
      keys = at.volume.led.keys ∙ sym beside.keys;
      sizes = rw beside.rests at.volume.led.sizes;
      order = order;
      goes_on = λ whole. at.volume.led.goes_on (sym beside.broken ∙ whole);
      lane = fits;
    };
  }

-- ---- blocks are taken
module _ {C : Type 0} (sector : C → ℕ) (seal unseal : C → ℕ → List ℕ → List ℕ)
    (planned : ZonesArePlanned sector) (w : Worker C) (old : State (Keys C))
    (at : IsAt sector seal unseal w old) (runs : w.halted ≡ None) (whole : old.broken ≡ false)
    (lane : ℕ) (last : suc lane ≡ length old.lanes) where
  plan : w.next ≡ Begin → 0 < count_of w.site → IsPlanned (reading_of w.loaded.valid.sizes) old
      (layout_of w) (header_on w.loaded) (unnamed (layout_of w) w (wanted 0))
  plan next some =
      planned (layout_of w) w old at.kept (on-disk sector seal unseal w old at runs whole lane last)
      (begin-rests sector seal unseal w old at runs whole lane last next) some

  module _ (free : open_at old.lanes lane ≡ None) (range : BlockRange)
      (is : range_in w ≡ Some range) where
    next-is : w.next ≡ Begin
    next-is = takes-begin sector seal unseal w old at runs whole lane last free range is

    next-plan : IsPlanned (reading_of w.loaded.valid.sizes) old (layout_of w) (header_on w.loaded)
        (unnamed (layout_of w) w (wanted 0))
    next-plan = plan next-is (range-is w range is).1

    rises : range.start < range.end
    rises = subst (λ r. r.start < r.end) (range-is w range is).0 next-plan.some

    inside : range.end ≤ old.map.blocks
    inside = subst (λ r. r.end ≤ old.map.blocks) (range-is w range is).0 next-plan.inside

    ends-small : range.end * old.map.atom < 2 ^ 63
    ends-small =
        let far = mul-le-mul_right old.map.atom inside in
        let small = at.volume.sound.fits.small in omega (arith, far, small)

    -- what its write asks for
    pub fits-in : (range.start < range.end) × (range.end * old.map.atom < 2 ^ 63)
    fits-in = (rises, ends-small)

    rising : range.start ≤ range.end
    rising = (let less = rises in omega (arith, less))

    blocks-are : range_of old.map.atom (write_on range old.map.atom) ≡ range
    blocks-are = range-on range old.map.atom old.map.some_atom rising

    module _ (new : State (Keys C)) (beside : IsBeside old new)
        (entered : new.entries ≡ old.entries ++ locked lane range ∷ [])
        (becomes : LaneBecomes old.lanes new.lanes lane
        (Some (taken (write_on range old.map.atom) range))) where
      takes-as : (outcome : Outcome)
          → TellsStanding old (range_of old.map.atom (write_on range old.map.atom))
          (IsStanding old.entries (entry_of old.map.atom lane (write_on range old.map.atom))) outcome
          → Takes (reading_of w.loaded.valid.sizes) old new outcome
      takes-as outcome tells = record {
        layout = layout_of w;
        header = header_on w.loaded;
        was = begin-rests sector seal unseal w old at runs whole lane last next-is;
        unbroken = whole;
        lane = lane;
        last = last;
        free = free;
        session = 0;
        ask = write_on range old.map.atom;
        writes = tt;
        proper = right-on range old.map.atom old.map.some_atom rising old.map.blocks inside;
        next = unnamed (layout_of w) w (wanted 0);
        planned = next-plan;
        covers = blocks-are ∙ sym (range-is w range is).0;
        admitted = record {
          enters = (entered ∙ ap (λ r. old.entries ++ locked lane r ∷ []) (sym blocks-are), tells);
          goes = record {
            map = beside.map;
            keys = beside.keys;
            room = beside.room;
            entries_are = refl;
            lane_is = subst (λ o. LaneBecomes old.lanes new.lanes lane (Some o))
                (sym (begun-on range old.map.atom old.map.some_atom rising)) becomes;
            broken_is = beside.broken;
            work = beside.work;
          };
          rests = beside.rests;
        };
      }

      pub takes-step : (worked : Worked)
          → StandsAs (IsStanding old.entries (locked lane range)) worked
          → WorkStep (reading_of w.loaded.valid.sizes) (seals_in seal unseal w) old new
          (worked_of worked)
      takes-step answers.Stepped stands =
          takes (record { map = old.map; range = range; inside = inside }) (takes-as (held _) (
            subst (λ r. IsStanding old.entries (locked lane r) Held) (sym blocks-are) stands,
            record { map = refl; range_is = sym blocks-are },
          ))
      takes-step (answers.Waiting other) stands =
          queues other (takes-as (waits other)
          (subst (λ r. IsStanding old.entries (locked lane r) (Waiting other)) (sym blocks-are)
          stands))
      takes-step _ stands = absurd stands

      pub takes-kept : IsInOrder (reading_of w.loaded.valid.sizes) new → IsVolume sector (Some w) new
      takes-kept order =
          beside-kept sector seal unseal w old new at beside order becomes.count
          (λ unbroken k o is_last here. subst (λ h. FitsZone w new.map o h) (sym runs)
          (subst (λ n. FitsCall w new.map o n) (sym next-is) (inl
          (let same : k ≡ lane = (let many = becomes.count in omega (arith, is_last, last, many)) in
          let now : open_at new.lanes lane ≡ Some o = rw (← same) here in
          let own = becomes.own in
          let one : o ≡ taken (write_on range old.map.atom) range = cc in
          ap (λ (p : Operation). p.range) one ∙ sym (range-is w range is).0))))

  -- ---- it waits
  pub waits-step : (o : Operation) → open_at old.lanes lane ≡ Some o → range_in w ≡ Some o.range
      → (other : ℕ) → IsStandingOf lane old.entries (Waiting other) → (new : State (Keys C))
      → new ≡ old
      → WorkStep (reading_of w.loaded.valid.sizes) (seals_in seal unseal w) old new
      (worked_of (answers.Waiting other))
  waits-step o here range other waiting new same =
      let next = waits-begin sector seal unseal w old at runs whole lane last o here other range
      waiting in
      stays other (record {
        layout = layout_of w;
        header = header_on w.loaded;
        was = begin-rests sector seal unseal w old at runs whole lane last next;
        unbroken = whole;
        lane = lane;
        last = last;
        o = o;
        at = here;
        next = unnamed (layout_of w) w (wanted 0);
        planned = plan next (range-is w o.range range).1;
        covers = sym (range-is w o.range range).0;
        stands = waiting;
        same = same;
      })

-- ---- what a call of the worker may ask for, before a zone that was given up begins anew
module _ {C : Type 0} (sector : C → ℕ) (seal unseal : C → ℕ → List ℕ → List ℕ)
    (planned : ZonesArePlanned sector) (w : Worker C) (old : State (Keys C))
    (at : IsAt sector seal unseal w old) (lane : ℕ) (last : suc lane ≡ length old.lanes) where
  pub fits-before : old.broken ≡ false → open_at old.lanes lane ≡ None → (range : BlockRange)
      → range_in w ≡ Some range
      → (range.start < range.end) × (range.end * old.map.atom < 2 ^ 63)
  fits-before whole free range is = elim (at.volume.led.goes_on whole) [
    | inl runs ↦ fits-in sector seal unseal planned w old at runs whole lane last free range is
    | inr given ↦ fits-in sector seal unseal planned (fresh sector seal unseal w) old
        (fresh-at sector seal unseal w old at given) refl whole lane last free range is
  ]

  pub locked-before : (o : Operation) → open_at old.lanes lane ≡ Some o
      → has_entry lane old.entries ≡ true
  locked-before = worker-entry old lane at.volume.sound
      (worker-writes sector seal unseal w old at lane last)

  pub free-before : open_at old.lanes lane ≡ None
      → (has_entry lane old.entries ≡ false) × (length old.entries < old.room)
  free-before free = (
    free-entry old lane at.volume.sound free,
    free-place old lane at.volume.sound (omega (arith, last)) free,
  )
