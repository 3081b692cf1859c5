-- A conversion that was opened and led on.
use Rattle.std.proofs.Common.{◌≡◌, ◌≢◌, ◌∙◌, ℕ, zero, suc, List, replicate, ap, sym, subst, refl}
use Rattle.std.proofs.Common.{true, false, Option, Some, None, Result, Ok, Err, IsSome, IfOk, IfErr}
use Rattle.resume_disk.specs.OpenedMidway.Openings.{IsOpenedOf}
use Rattle.crash_laws.specs.HeaderAreas.Headers.{Header, Layout}
use Rattle.base_terms.specs.declared.disk_sizes.Sizes.{Sizes}
use Rattle.header_report.specs.Examinations.{sizes_alone}
use Rattle.sector_disk.specs.JoinedDisks.Joined.{Joint, joined_disk}
use Rattle.luks_store.specs.declared.loaded.Stored.{Stored}
use Rattle.reenc_recovery.specs.declared.keys.SideKeys.{SideKeys}
use Rattle.reenc_worker.specs.declared.ends.WorkerEnd.{WorkerEnd}
use Rattle.reenc_worker.specs.declared.ends.WorkerEnd.TheVariants.{Broken as WasBroken, Finished as AtEnd}
use Rattle.resume_disk.specs.Refusals.{IsUnfinishedBy}
use Rattle.resume_disk.specs.Resuming.{HasRun, IsFinishedBy, IsLedTo, IsResumed}
use Rattle.resume_disk.specs.declared.refusal.Finished.{Finished}
use Rattle.resume_disk.specs.declared.refusal.Unfinished.{Unfinished}
use Rattle.resume_disk.specs.declared.refusal.Unfinished.TheVariants as unfinished
use Rattle.sector_disk.specs.Devices.{Device}
use Rattle.volume_core.specs.Zones.{IsReadBy}
use Rattle.volume_core.specs.declared.answers.Progress.{Progress}
use Rattle.volume_laws.specs.Converting.{IsInOrder}
use Rattle.volume_machine.specs.Seals.{seals_of}
use Rattle.volume_machine.specs.States.{IsIdle, State, open_at}
use Rattle.volume_machine.specs.Works.{Work, converting, resting}
use Rattle.volume_machine.specs.declared.keys.Keys.{Keys}
use Rattle.volume_machine.specs.declared.open.Open.{Open}
use Rattle.volume_opening.specs.Refusals.{AreOf, TellsAlone}
use Rattle.volume_laws.specs.WorkerRuns.Conversions.{HasConverted, MayConvert}
use Rattle.hotzone.specs.ZoneEvents.Heads.{header_on}
use Rattle.hotzone.specs.ZoneEvents.Readings.{reading_of}
use Rattle.hotzone.specs.ZoneEvents.Works.{layout_for}

-- ---- a volume that was opened has no operation under way, and may be converted
no_open : (n lane : ℕ) → open_at (replicate n None) lane ≡ None
no_open zero lane = refl
no_open (suc n) zero = refl
no_open (suc n) (suc lane) = no_open n lane

module _ {C : Type 0} (sector : C → ℕ) (sealed opened : C → ℕ → List ℕ → List ℕ) (sizes : Sizes)
    (handed : SideKeys) (lanes : ℕ) (old : Joint) (volume : State (Keys C))
    (calls : IsOpenedOf sector sealed opened sizes handed lanes old volume) where
  at_rest : volume.work ≡ Some (resting
      (layout_for calls.led.last.valid.sizes.atom calls.led.last.copies.used.header.hdr_size)
      (header_on calls.led.last) converting)
  at_rest = ap (λ (v : State (Keys C)). v.work) calls.led.armed

  pub is_armed : IsSome volume.work
  is_armed = subst (λ (w : Option Work). IsSome w) (sym at_rest) refl

  pub is_idle : IsIdle volume
  is_idle = λ lane. subst (λ (all : List (Option Open)). open_at all lane ≡ None)
      (sym (ap (λ (v : State (Keys C)). v.lanes) calls.led.armed)) (no_open lanes lane)

  pub is_whole : volume.broken ≡ false
  is_whole = ap (λ (v : State (Keys C)). v.broken) calls.led.armed

  pub may_convert : IsInOrder (reading_of sizes) volume → MayConvert (reading_of sizes)
      (layout_for calls.led.last.valid.sizes.atom calls.led.last.copies.used.header.hdr_size)
      (header_on calls.led.last) volume
  may_convert order = record { order = order; idle = is_idle; at_rest = at_rest }

-- ---- what is said of it once it was led on
pub same_blocks : {told is : Progress} → told ≡ is → told.blocks ≡ is.blocks
same_blocks same = ap (λ (p : Progress). p.blocks) same

module _ {C D : Type 0} (sector : C → ℕ) (sealed opened : C → ℕ → List ℕ → List ℕ)
    (device : D → Device) (disk : D) (pass : List ℕ) (volume : State (Keys C))
    (resumed : IsResumed sector sealed opened (device disk) pass volume) (end : WorkerEnd)
    (after : State (Keys C))
    (converted : (sizes : Sizes) (layout : Layout) (header : Header (List ℕ))
    → IsReadBy sizes volume → MayConvert (reading_of sizes) layout header volume
    → HasConverted (reading_of sizes) (seals_of sealed opened volume.map.atom volume.keys) layout
    header volume after end)
    (read : (sizes : Sizes) → IsReadBy sizes volume → IsInOrder (reading_of sizes) volume
    → IsReadBy sizes after)
    (order : (sizes : Sizes) → IsReadBy sizes volume → IsInOrder (reading_of sizes) volume
    → IsInOrder (reading_of sizes) after)
    (joint : Joint) (shows : joined_disk joint ≡ after.disk) (header : Option D) (back : D)
    (are : AreOf device joint header back)
    (tables : TellsAlone device (joined_disk joint) header back) (blocks : ℕ)
    (blocks_are : blocks ≡ after.map.blocks)
  where
    abbrev last : Stored
    last = resumed.calls.led.last

    may : MayConvert (reading_of (sizes_alone (device disk)))
        (layout_for last.valid.sizes.atom last.copies.used.header.hdr_size) (header_on last) volume
    may = may_convert sector sealed opened (sizes_alone (device disk)) resumed.keys 1 _ volume
        resumed.calls resumed.order

    ran : HasConverted (reading_of (sizes_alone (device disk)))
        (seals_of sealed opened volume.map.atom volume.keys)
        (layout_for last.valid.sizes.atom last.copies.used.header.hdr_size) (header_on last) volume
        after end
    ran = converted (sizes_alone (device disk))
        (layout_for last.valid.sizes.atom last.copies.used.header.hdr_size) (header_on last)
        resumed.is_read may

    led : IsLedTo sealed opened (device disk) last volume after end
    led = record {
      may = may;
      ran = ran;
      is_read = read (sizes_alone (device disk)) resumed.is_read resumed.order;
      order = order (sizes_alone (device disk)) resumed.is_read resumed.order;
    }

    has_run : HasRun sector sealed opened device disk pass end after header back
    has_run = record {
      volume = volume;
      resumed = resumed;
      led = led;
      joint = joint;
      shows = shows;
      are = are;
      tables = subst (λ (d : Device). TellsAlone device d header back) shows tables;
    }

    -- it wasn't broken before
    unbroken : end ≢ WasBroken
    unbroken is =
        let was = subst (λ (e : WorkerEnd). HasConverted (reading_of (sizes_alone (device disk)))
        (seals_of sealed opened volume.map.atom volume.keys)
        (layout_for last.valid.sizes.atom last.copies.used.header.hdr_size) (header_on last) volume
        after e) is ran in
        let whole = is_whole sector sealed opened (sizes_alone (device disk)) resumed.keys 1 _
        volume resumed.calls in
        let no : true ≡ false = sym was.leaves.was ∙ whole in cc

    pub finished_by : (result : Result (Finished D) (Unfinished D))
        → IfOk result (λ f. (end ≡ AtEnd)
        × (f ≡ record { header = header; disk = back; blocks = blocks }))
        → IfOk result
        (λ f. IsFinishedBy sector sealed opened device disk pass f.header f.disk f.blocks)
    finished_by (Err u) is = tt
    finished_by (Ok f) (at_end, f_is) =
        subst (λ (x : Finished D).
        IsFinishedBy sector sealed opened device disk pass x.header x.disk x.blocks) (sym f_is)
        (record {
          after = after;
          run = subst (λ (e : WorkerEnd).
              HasRun sector sealed opened device disk pass e after header back) at_end has_run;
          blocks_are = blocks_are;
        })

    pub unfinished_by : (result : Result (Finished D) (Unfinished D))
        → IfErr result (λ u. (end ≢ AtEnd)
        × (u ≡ unfinished.Halted (record { header = header; disk = back; end = end })))
        → IfErr result (IsUnfinishedBy sector sealed opened device disk pass)
    unfinished_by (Ok f) is = tt
    unfinished_by (Err u) (other, u_is) =
        subst (λ (x : Unfinished D). IsUnfinishedBy sector sealed opened device disk pass x)
        (sym u_is) (record {
          after = after;
          run = has_run;
          unfinished = other;
          unbroken = unbroken;
        })
