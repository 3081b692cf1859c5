-- A volume's worker leaves blocks, or has nothing left to do.
use Rattle.std.proofs.Common.{Bool, List, None, Option, Some, arith, false, refl, subst, suc, sym}
use Rattle.std.proofs.Common.{true, ℕ, ◌∙◌, ◌≡◌, ◌≢◌, length}
use Rattle.range_lock.specs.Locks.{without}
use Rattle.volume_machine.specs.States.{State, open_at}
use Rattle.hotzone.specs.Known.{header_by}
use Rattle.hotzone.specs.Promises.{seals_in}
use Rattle.hotzone.specs.Workers.{IsDone, range_in}
use Rattle.hotzone.specs.declared.worker.NextCall.{NextCall}
use Rattle.hotzone.specs.declared.worker.NextCall.TheVariants.{Over}
use Rattle.hotzone.specs.declared.worker.Ending.{Ending}
use Rattle.hotzone.specs.declared.worker.Worker.{Worker}
use Rattle.volume_core.proofs.WorkerLanes.{lane-left}
use Rattle.volume_core.proofs.ZoneFacts.{IsAt, ended-lane, leaves-new, over-work, worker-writes}
use Rattle.volume_core.proofs.ZoneSteps.{IsBeside, beside-kept}
use Rattle.volume_core.specs.Turns.{HasLeft}
use Rattle.volume_core.specs.Volumes.{IsVolume}
use Rattle.volume_core.specs.Zones.{IsEnded, worked_of}
use Rattle.volume_core.specs.declared.answers.Worked.TheVariants as answers
use Rattle.volume_laws.specs.Converting.{IsInOrder}
use Rattle.volume_machine.specs.States.{LaneBecomes}
use Rattle.volume_machine.specs.WorkSteps.{Frees, WorkStep, ends, leaves_blocks, leaves_broken}
use Rattle.volume_machine.specs.Works.{Work}
use Rattle.volume_machine.specs.declared.keys.Keys.{Keys}
use Rattle.volume_machine.specs.declared.open.Open.{Open as Operation}
use Rattle.hotzone.specs.ZoneEvents.Heads.{header_on}
use Rattle.hotzone.specs.ZoneEvents.Readings.{reading_of}
use Rattle.hotzone.specs.ZoneEvents.Works.{layout_of, work_of}

module _ {C : Type 0} (sector : C → ℕ) (seal unseal : C → ℕ → List ℕ → List ℕ) (w : Worker C)
    (old : State (Keys C)) (at : IsAt sector seal unseal w old) (lane : ℕ)
    (last : suc lane ≡ length old.lanes) where
  module _ (new : State (Keys C)) (left : HasLeft lane old.entries new.entries old.lanes new.lanes)
    where
      pub left-is : (new.entries ≡ without lane old.entries)
          × LaneBecomes old.lanes new.lanes lane None
      left-is = lane-left old lane at.volume.sound
          (worker-writes sector seal unseal w old at lane last) new.entries new.lanes left

      -- the last lane's operation ends
      pub frees-as : (is_broken : Bool) (next : Option Work) → new.map ≡ old.map
          → new.keys ≡ old.keys → new.room ≡ old.room → new.broken ≡ is_broken → new.work ≡ next
          → Frees old new is_broken next
      frees-as is_broken next map keys room broken work = record {
        lane = lane;
        last = last;
        map = map;
        keys = keys;
        room = room;
        entries = left-is.0;
        lanes = left-is.1;
        broken_is = broken;
        work = work;
      }

      -- and so the lane is free
      pub none-left : (k : ℕ) (o : Operation) → suc k ≡ length new.lanes
          → open_at new.lanes k ≡ Some o → ⊥
      none-left k o is_last here =
          let many = left-is.1.count in
          let same : k ≡ lane = omega (arith, is_last, last, many) in
          let there : open_at new.lanes lane ≡ Some o = subst (λ n. open_at new.lanes n ≡ Some o)
          same here in
          let own = left-is.1.own in
          absurd (cc)

      -- nothing else changes
      module _ (beside : IsBeside old new) where
        pub broken-step : old.broken ≡ true
            → WorkStep (reading_of w.loaded.valid.sizes) (seals_in seal unseal w) old new
            (worked_of answers.Broken)
        broken-step was = leaves_broken (record {
          work = work_of (seals_in seal unseal w) (layout_of w) w;
          was = at.work;
          broken = was;
          frees = frees-as true old.work beside.map beside.keys beside.room (beside.broken ∙ was)
              beside.work;
          rests = beside.rests;
        })

        pub leaves-step : w.halted ≡ None → old.broken ≡ false → (o : Operation)
            → open_at old.lanes lane ≡ Some o → range_in w ≢ Some o.range
            → WorkStep (reading_of w.loaded.valid.sizes) (seals_in seal unseal w) old new
            (worked_of answers.Stepped)
        leaves-step runs whole o here differs =
            let new_blocks = leaves-new sector seal unseal w old at runs whole lane last o here differs
            in
            leaves_blocks (record {
              layout = layout_of w;
              header = header_on w.loaded;
              was = new_blocks.1;
              unbroken = whole;
              lane = lane;
              last = last;
              o = o;
              at = here;
              new_side = new_blocks.0;
              frees = frees-as false old.work beside.map beside.keys beside.room
                  (beside.broken ∙ whole) beside.work;
              rests = beside.rests;
            })

        pub leaves-kept : IsInOrder (reading_of w.loaded.valid.sizes) new
            → IsVolume sector (Some w) new
        leaves-kept order =
            beside-kept sector seal unseal w old new at beside order left-is.1.count
            (λ unbroken k o is_last here. absurd (none-left k o is_last here))

  -- ---- nothing is left to do
  ending-of : (next : NextCall) → IsDone next → (ending : Ending) × (next ≡ Over ending)
  ending-of (Over ending) is = (ending, refl)
  ending-of _ is = absurd is

  pub ends-step : w.halted ≡ None → old.broken ≡ false → IsDone w.next → (new : State (Keys C))
      → new ≡ old
      → WorkStep (reading_of w.loaded.valid.sizes) (seals_in seal unseal w) old new
      (worked_of answers.Finished)
  ends-step runs whole is new same =
      let over = ending-of w.next is in
      ends (record {
        layout = layout_of w;
        header = header_by over.0.commit;
        was = over-work sector seal unseal w old at runs whole lane last over.0 over.1;
        unbroken = whole;
        lane = lane;
        last = last;
        free = ended-lane sector seal unseal w old at runs whole lane last
            (subst IsEnded (sym over.1) tt);
        same = same;
      })
