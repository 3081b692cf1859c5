-- A step of a zone that isn't made, or has failed.
use Rattle.std.proofs.Common.{◌≡◌, ◌∙◌, ℕ, ◌+◌, ◌<◌, true}
use Rattle.std.proofs.Common.{List, [], take, Some, refl, sym, ap, subst}
use Rattle.std.proofs.Common.{arith}
use Rattle.crash_laws.specs.HeaderAreas.Commits.{failed_stage, first_written}
use Rattle.crash_laws.specs.HeaderAreas.Headers.{Header, Layout}
use Rattle.sector_disk.proofs.DiskViews.Blockwise.{one_block, same_blocks}
use Rattle.sector_disk.specs.DiskViews.Parts.{AreBlocks, block_at}
use Rattle.base_terms.specs.declared.disk_sizes.Sizes.{Sizes}
use Rattle.crash_laws.specs.HotZones.Zones.{Phase, moving, opening, saving, writing}
use Rattle.hotzone.proofs.GuardLemmas.{first-place, first-start}
use Rattle.hotzone.proofs.HeadingLemmas.{same-self}
use Rattle.hotzone.proofs.KnownLemmas.{SealRuns, part-some}
use Rattle.hotzone.specs.Endings.{IsEnding, WipesArea, area_at}
use Rattle.hotzone.specs.Known.{header_by}
use Rattle.hotzone.specs.Sites.{bytes_at, count_of, kind_of, part_at, saved_at, saved_count}
use Rattle.hotzone.specs.Steps.{Commits, IsBroken, IsClash, IsHalted, IsStopped, ReadsPart}
use Rattle.hotzone.specs.Steps.{SavesPart, TellsPart, WritesPart}
use Rattle.hotzone.specs.Steps.{ended_by, moved_by, opened_by, part_in, resealed}
use Rattle.hotzone.specs.declared.worker.Ending.{Ending}
use Rattle.hotzone.specs.declared.worker.Halt.{Halt}
use Rattle.hotzone.specs.declared.worker.Halt.TheVariants.{GivenUp, Failed, InCommit}
use Rattle.hotzone.specs.declared.worker.Headers.{Headers}
use Rattle.hotzone.specs.declared.worker.NextCall.{NextCall}
use Rattle.hotzone.specs.declared.worker.NextCall.TheVariants.{Begin, ReadFirst, SaveFirst, Read}
use Rattle.hotzone.specs.declared.worker.NextCall.TheVariants.{Save, Keep, Open, ReadAgain, Write}
use Rattle.hotzone.specs.declared.worker.NextCall.TheVariants.{Settle, Move, Finish, End, Wipe, Rest}
use Rattle.hotzone.specs.declared.worker.Worker.{Worker}
use Rattle.luks_store.specs.Copying.Held.{stage_in}
use Rattle.luks_store.specs.Copying.Meanings.{meaning_of}
use Rattle.luks_store.specs.Copying.Seen.{stage_of}
use Rattle.luks_store.specs.declared.commit.Prepared.{Prepared}
use Rattle.sector_disk.specs.Devices.{ReadCall, SyncCall, WriteCall, failed_call}
use Rattle.segment_map.specs.declared.Side.TheVariants.{Old}
use Rattle.volume_machine.specs.Seals.{AreLawful, Seals}
use Rattle.volume_machine.specs.States.{State}
use Rattle.volume_machine.specs.WorkCalls.{PutsCopy, StepFails}
use Rattle.volume_machine.specs.WorkCalls as calls
use Rattle.volume_machine.specs.WorkSteps.{Faults, Frees, IsFirstClash, IsHindered, IsUnfinished}
use Rattle.volume_machine.specs.WorkSteps.{Hinders, Hindrance, IsNoClash, Lacks, MissesConclusion}
use Rattle.volume_machine.specs.WorkSteps.{MissesPart, MissesWipe}
use Rattle.volume_machine.specs.WorkSteps.{clashes, closing, no_memory, no_number, no_room}
use Rattle.volume_machine.specs.Works.{Work, fetched, resting, wanted, wiping}
use Rattle.volume_machine.specs.declared.keys.Keys.{Keys}
use Rattle.hotzone.proofs.ZoneEvents.CallLemmas.{commit-put, moved-sized, most-atoms, opened-sized}
use Rattle.hotzone.proofs.ZoneEvents.ConcludeLemmas.{all-new, may-conclude}
use Rattle.hotzone.proofs.ZoneEvents.EndLemmas.{ending-sized, wipe-call, wiping-was}
use Rattle.hotzone.proofs.ZoneEvents.GroundLemmas.{guard-is}
use Rattle.hotzone.proofs.ZoneEvents.HereLemmas.{IsEarly, early-here, early-map, fits-by, fits-here}
use Rattle.hotzone.proofs.ZoneEvents.HereLemmas.{late-here, needs, site-atom, was-by}
use Rattle.hotzone.proofs.ZoneEvents.SavedLemmas.{first-clash, part-blocks, save-fault}
use Rattle.hotzone.proofs.ZoneEvents.PlanLemmas.{kind-told}
use Rattle.hotzone.proofs.ZoneEvents.TellLemmas.{guard-told}
use Rattle.hotzone.proofs.ZoneEvents.TextLemmas.{stored-parts}
use Rattle.hotzone.proofs.ZoneEvents.TurnLemmas.{same-headers}
use Rattle.hotzone.proofs.ZoneEvents.WriteLemmas.{part-resealed}
use Rattle.hotzone.specs.ZoneEvents.Heads.{header_on}
use Rattle.hotzone.specs.ZoneEvents.Promises.{IsOf, Leaves}
use Rattle.hotzone.specs.ZoneEvents.Readings.{guard_in, reading_of}
use Rattle.hotzone.specs.ZoneEvents.Tellings.{area_on}
use Rattle.hotzone.specs.ZoneEvents.Works.{areas_behind, at_hand, between, first_part, led_by}
use Rattle.hotzone.specs.ZoneEvents.Works.{unnamed, unsealed, work_by, work_of}

-- ---- blocks that were opened and sealed again are what they were, on the old side too
pub record OldRuns (atom : ℕ) (seals : Seals) : Type 0 where
  pub keeps : (block count : ℕ) (bytes : List ℕ) → AreBlocks atom count bytes
      → AreBlocks atom count (seals.sealed Old block bytes)
  pub undone : (block count : ℕ) (bytes : List ℕ) → AreBlocks atom count bytes
      → seals.opened Old block (seals.sealed Old block bytes) ≡ bytes

old-again : (atom : ℕ) (seals : Seals) → AreLawful atom seals → OldRuns atom seals
    → (first count : ℕ) (text : List ℕ) → AreBlocks atom count text
    → seals.sealed Old first (seals.opened Old first text) ≡ text
old-again atom seals lawful runs first count text are =
    let plain = seals.opened Old first text in
    let blocks = lawful.keeps_opened Old first count text are in
    let anew = seals.sealed Old first plain in
    let sealed = runs.keeps first count plain blocks in
    same_blocks atom count anew text sealed.size are.size
    (λ k below.
    sym (lawful.seals_opened Old (first + k) (block_at atom anew k)
    (one_block atom count anew k sealed below))
    ∙ ap (λ p. seals.sealed Old (first + k) p)
    (sym (lawful.each_opened Old first count anew sealed k below)
    ∙ ap (λ p. block_at atom p k) (runs.undone first count plain blocks)
    ∙ lawful.each_opened Old first count text are k below)
    ∙ lawful.seals_opened Old (first + k) (block_at atom text k)
    (one_block atom count text k are below))

-- so what a write sealed anew is told again
unseals : (atom : ℕ) (seals : Seals) → SealRuns atom seals → OldRuns atom seals
    → (first count : ℕ) (text : List ℕ) → AreBlocks atom count text
    → unsealed seals first (resealed seals first text) ≡ text
unseals atom seals new old first count text are =
    ap (λ p. seals.sealed Old first p)
    (new.undone first count _ (new.lawful.keeps_opened Old first count text are))
    ∙ old-again atom seals new.lawful old first count text are

module _ {C : Type 0} (sector : C → ℕ) (seals : Seals) (layout : Layout) (before after : Worker C)
    (old new : State (Keys C)) (of : IsOf sector seals layout before old)
    (runs : SealRuns before.site.atom seals) (back : OldRuns before.site.atom seals)
    (leaves : Leaves old new (work_of seals layout after) after.next after.halted) where
  abbrev sizes : Sizes
  sizes = before.loaded.valid.sizes

  left : (next : NextCall) (halt : Halt) → IsHalted before after next halt
      → Leaves old new
      (work_by seals layout (record before { next = next; halted = Some halt }) next (Some halt))
      next (Some halt)
  left next halt stop =
      subst (λ (v : Worker C). Leaves old new (work_of seals layout v) v.next v.halted) stop.is
      leaves

  left-read : (next : NextCall) (halt : Halt) → IsStopped before after next halt
      → Leaves old new
      (work_by seals layout
      (record before { buffer = after.buffer; next = next; halted = Some halt }) next (Some halt))
      next (Some halt)
  left-read next halt stop =
      subst (λ (v : Worker C). Leaves old new (work_of seals layout v) v.next v.halted) stop.is
      leaves

  some-part : (done : ℕ) → done < count_of before.site → 0 < part_at before.site done
  some-part done below =
      part-some before.site done
      (most-atoms before.site.atom (fits-here sector seals layout before old of).known) below

  range-some : 0 < count_of before.site → before.site.blocks.start < before.site.blocks.end
  range-some some = omega (arith, some)

  -- ---- of the zone up to its first commit
  guarded : kind_of before.site.guard ≡ guard_in sizes (meaning_of before.loaded.copies.used.bytes)
  guarded = sym
      (guard-told sizes (meaning_of before.loaded.copies.used.bytes) before.loaded.valid.meta
      (Some of.working.zone.now) (stored-parts before.loaded of.stored) of.working.zone.is.known
      ∙ kind-told of.working.zone.now.conversion.resilience of.working.zone.is.guarded
      ∙ sym (ap kind_of (guard-is before.loaded of.stored of.ruled before.map before.site
      of.working.zone)))

  hinders-by : (cause : Hindrance) (work : Work) (text : List ℕ) → IsNoClash cause
      → Hinders seals old.map.atom work 0 text cause
  hinders-by (clashes block digest) work text none = absurd none
  hinders-by (no_number left needed) work text none = tt
  hinders-by (no_room len limit) work text none = tt
  hinders-by no_memory work text none = tt

  pub hindered-on : (cause : Hindrance) → IsNoClash cause
      → Lacks (reading_of sizes) (header_on before.loaded) 2 cause → before.next ≡ SaveFirst
      → new.disk ≡ old.disk → IsHalted before after SaveFirst GivenUp
      → IsHindered (reading_of sizes) seals old new cause
  unfolding work_by
  hindered-on cause none lacks at same stop = record {
    work = unnamed layout before (fetched 0 (part_in before 0));
    first = 0;
    text = part_in before 0;
    part = refl;
    guard = guarded;
    hinders = hinders-by cause (unnamed layout before (fetched 0 (part_in before 0)))
        (part_in before 0) none;
    lacks = λ _. lacks;
    unsaved = λ _. refl;
    rests = same;
    gives_up = record {
      was = was-by sector seals layout before old of SaveFirst at;
      unbroken = of.unbroken;
      some = range-some (needs sector seals layout before old of SaveFirst at);
      phase = tt;
      frees = left SaveFirst GivenUp stop;
    };
  }

  atom-here : (next : NextCall) → before.next ≡ next → IsEarly next
      → before.site.atom ≡ old.map.atom
  atom-here next at early =
      site-atom sector seals layout before old of
      ∙ sym (early-here sector seals layout before old of next at early).atom

  -- a part of which digests don't tell a block
  clash-here : (next : NextCall) → before.next ≡ next → IsEarly next
      → (opened moved : Header (List ℕ)) (phase : Phase) (done block : ℕ) (digest : List ℕ)
      → IsClash seals before done block digest
      → IsFirstClash seals old.map.atom
      (at_hand layout before opened moved phase (fetched done (part_in before done))) done
      (part_in before done) block digest
  clash-here next at early opened moved phase done block digest clash =
      subst (λ a. IsFirstClash seals a
      (at_hand layout before opened moved phase (fetched done (part_in before done))) done
      (part_in before done) block digest) (atom-here next at early)
      (first-clash seals layout before opened moved phase (fetched done (part_in before done)) done
      block digest runs (part-blocks sector seals layout before old of done) clash)

  pub clashes-first-on : (block : ℕ) (digest : List ℕ) → before.next ≡ SaveFirst
      → IsClash seals before 0 block digest → new.disk ≡ old.disk
      → IsHalted before after SaveFirst GivenUp
      → IsHindered (reading_of sizes) seals old new (clashes block digest)
  unfolding work_by
  clashes-first-on block digest at clash same stop = record {
    work = unnamed layout before (fetched 0 (part_in before 0));
    first = 0;
    text = part_in before 0;
    part = refl;
    guard = guarded;
    hinders = clash-here SaveFirst at tt (header_on before.loaded) (header_on before.loaded)
        (saving 0) 0 block digest clash;
    lacks = λ none. absurd none;
    unsaved = λ none. absurd none;
    rests = same;
    gives_up = record {
      was = was-by sector seals layout before old of SaveFirst at;
      unbroken = of.unbroken;
      some = range-some (needs sector seals layout before old of SaveFirst at);
      phase = tt;
      frees = left SaveFirst GivenUp stop;
    };
  }

  pub clashes-on : (done : ℕ) (headers : Headers) (block : ℕ) (digest : List ℕ)
      → before.next ≡ Save done headers → IsClash seals before done block digest
      → new.disk ≡ old.disk → IsHalted before after (Save done headers) GivenUp
      → IsHindered (reading_of sizes) seals old new (clashes block digest)
  unfolding work_by
  clashes-on done headers block digest at clash same stop = record {
    work = led_by layout before headers (saving (saved_at before.site done))
        (fetched done (part_in before done));
    first = done;
    text = part_in before done;
    part = refl;
    guard = guarded;
    hinders = clash-here (Save done headers) at tt (header_by headers.opened)
        (header_by headers.moved.commit) (saving (saved_at before.site done)) done block digest
        clash;
    lacks = λ none. absurd none;
    unsaved = λ none. absurd none;
    rests = same;
    gives_up = record {
      was = was-by sector seals layout before old of (Save done headers) at;
      unbroken = of.unbroken;
      some = range-some
          (let below = (needs sector seals layout before old of (Save done headers) at).0 in
          omega (arith, below));
      phase = tt;
      frees = left (Save done headers) GivenUp stop;
    };
  }

  pub begin-fails-on : before.next ≡ Begin → SyncCall old.disk new.disk failed_call
      → IsHalted before after Begin Failed → Faults seals old new
  unfolding work_by
  begin-fails-on at call stop = record {
    work = between layout before;
    was = was-by sector seals layout before old of Begin at;
    unbroken = of.unbroken;
    phase = saving 0;
    fails = calls.sync_fails (saving 0) (wanted 0) refl call;
    frees = left Begin Failed stop;
  }

  early-read : (next : NextCall) → before.next ≡ next → IsEarly next → (done : ℕ)
      → ReadsPart before done after.buffer old.disk new.disk failed_call
      → ReadCall old.map.atom (before.site.own + done)
      (take (bytes_at before.site done) after.buffer) old.disk new.disk failed_call
  early-read next at early done call =
      subst (λ a. ReadCall a (before.site.own + done)
      (take (bytes_at before.site done) after.buffer) old.disk new.disk failed_call)
      (sym (early-here sector seals layout before old of next at early).atom) call

  pub read-first-fails-on : before.next ≡ ReadFirst
      → ReadsPart before 0 after.buffer old.disk new.disk failed_call
      → IsStopped before after ReadFirst GivenUp → MissesPart old new
  unfolding work_by
  read-first-fails-on at call stop = record {
    work = unnamed layout before (wanted 0);
    first = 0;
    part = refl;
    text = take (bytes_at before.site 0) after.buffer;
    call = early-read ReadFirst at tt 0 call;
    gives_up = record {
      was = was-by sector seals layout before old of ReadFirst at;
      unbroken = of.unbroken;
      some = range-some (needs sector seals layout before old of ReadFirst at);
      phase = tt;
      frees = left-read ReadFirst GivenUp stop;
    };
  }

  pub save-first-fails-on : before.next ≡ SaveFirst → TellsPart seals before 0
      → SavesPart before 0 old.disk new.disk failed_call
      → IsHalted before after SaveFirst Failed → Faults seals old new
  unfolding work_by
  save-first-fails-on at tells call stop =
      let text = part_in before 0 in
      record {
        work = unnamed layout before (fetched 0 text);
        was = was-by sector seals layout before old of SaveFirst at;
        unbroken = of.unbroken;
        phase = saving 0;
        fails = subst (λ n. StepFails seals old.map.atom (unnamed layout before (fetched 0 text))
            old.disk new.disk (saving n) (fetched 0 text) (saving n)) (first-place before.site)
            (save-fault sector seals layout before old of runs (atom-here SaveFirst at tt) new.disk
            failed_call 0 (needs sector seals layout before old of SaveFirst at)
            (first-start before.site (fits-here sector seals layout before old of).known) tells call
            (header_on before.loaded) (header_on before.loaded) (saving 0) (fetched 0 text) refl);
        frees = left SaveFirst Failed stop;
      }

  pub read-fails-on : (done : ℕ) (headers : Headers) → before.next ≡ Read done headers
      → ReadsPart before done after.buffer old.disk new.disk failed_call
      → IsStopped before after (Read done headers) GivenUp → MissesPart old new
  unfolding work_by
  read-fails-on done headers at call stop = record {
    work = led_by layout before headers (saving (saved_at before.site done)) (wanted done);
    first = done;
    part = refl;
    text = take (bytes_at before.site done) after.buffer;
    call = early-read (Read done headers) at tt done call;
    gives_up = record {
      was = was-by sector seals layout before old of (Read done headers) at;
      unbroken = of.unbroken;
      some = range-some
          (let below = (needs sector seals layout before old of (Read done headers) at).0 in
          omega (arith, below));
      phase = tt;
      frees = left-read (Read done headers) GivenUp stop;
    };
  }

  pub save-fails-on : (done : ℕ) (headers : Headers) → before.next ≡ Save done headers
      → TellsPart seals before done → SavesPart before done old.disk new.disk failed_call
      → IsHalted before after (Save done headers) Failed → Faults seals old new
  unfolding work_by
  save-fails-on done headers at tells call stop =
      let text = part_in before done in
      let had = needs sector seals layout before old of (Save done headers) at in
      record {
        work = led_by layout before headers (saving (saved_at before.site done)) (fetched done text);
        was = was-by sector seals layout before old of (Save done headers) at;
        unbroken = of.unbroken;
        phase = saving (saved_at before.site done);
        fails = save-fault sector seals layout before old of runs
            (atom-here (Save done headers) at tt) new.disk failed_call done had.0 had.3 tells call
            (header_by headers.opened) (header_by headers.moved.commit)
            (saving (saved_at before.site done)) (fetched done text) refl;
        frees = left (Save done headers) Failed stop;
      }

  pub keep-fails-on : (headers : Headers) → before.next ≡ Keep headers
      → SyncCall old.disk new.disk failed_call → IsHalted before after (Keep headers) Failed
      → Faults seals old new
  unfolding work_by
  keep-fails-on headers at call stop =
      let count = saved_count before.site in
      record {
        work = led_by layout before headers (saving count) (first_part before);
        was = was-by sector seals layout before old of (Keep headers) at;
        unbroken = of.unbroken;
        phase = saving count;
        fails = calls.sync_fails (saving count) (first_part before) refl call;
        frees = left (Keep headers) Failed stop;
      }

  pub open-fails-on : (headers : Headers) (commit : Prepared) → before.next ≡ Open headers
      → Commits headers.opened old.disk new.disk failed_call → IsBroken headers.opened commit
      → IsHalted before after (Open (opened_by headers commit))
      (InCommit (stage_in headers.opened.copies))
      → Faults seals old new
  unfolding work_by
  open-fails-on headers commit at call broken stop =
      let stage = stage_of (stage_in headers.opened.copies) in
      let here = early-here sector seals layout before old of (Open headers) at tt in
      let had = needs sector seals layout before old of (Open headers) at in
      record {
        work = led_by layout before headers (opening stage) (first_part before);
        was = was-by sector seals layout before old of (Open headers) at;
        unbroken = of.unbroken;
        phase = opening (failed_stage stage);
        fails = calls.open_fails stage (first_part before)
            (commit-put headers.opened before.loaded.copies.used.header.hdr_size old.map.atom
            old.disk.atoms layout old.disk new.disk failed_call here.laid here.atom here.some
            (opened-sized before.loaded (count_of before.site) headers.opened headers.moved
            of.stored had.1.0) call);
        frees = subst (λ h. Frees old new true (Some (at_hand layout before h
            (header_by headers.moved.commit) (opening (failed_stage stage)) (first_part before))))
            (sym (same-headers headers.opened commit broken.same))
            (left (Open (opened_by headers commit)) (InCommit (stage_in headers.opened.copies))
            stop);
      }

  -- ---- of an open zone
  pub read-again-fails-on : (done : ℕ) (headers : Headers) → before.next ≡ ReadAgain done headers
      → ReadsPart before done after.buffer old.disk new.disk failed_call
      → IsStopped before after (ReadAgain done headers) Failed → Faults seals old new
  unfolding work_by
  read-again-fails-on done headers at call stop =
      let had = needs sector seals layout before old of (ReadAgain done headers) at in
      let here =
      late-here sector seals layout before old of (ReadAgain done headers) at headers refl had.1.0
      in
      record {
        work = led_by layout before headers (writing done) (wanted done);
        was = was-by sector seals layout before old of (ReadAgain done headers) at;
        unbroken = of.unbroken;
        phase = writing done;
        fails = calls.read_fails (writing done) done
            (take (bytes_at before.site done) after.buffer) tt
            (subst (λ a. ReadCall a (before.site.own + done)
            (take (bytes_at before.site done) after.buffer) old.disk new.disk failed_call)
            (sym here.atom) call);
        frees = left-read (ReadAgain done headers) Failed stop;
      }

  pub write-fails-on : (done : ℕ) (headers : Headers) → before.next ≡ Write done headers
      → WritesPart seals before done old.disk new.disk failed_call
      → IsStopped before after (Write done headers) Failed
      → part_in after done
      ≡ resealed seals (before.site.blocks.start + done) (part_in before done)
      → Faults seals old new
  unfolding work_by
  write-fails-on done headers at call stop kept =
      let had = needs sector seals layout before old of (Write done headers) at in
      let here =
      late-here sector seals layout before old of (Write done headers) at headers refl had.1.0 in
      let text = part_in before done in
      let first = before.site.blocks.start + done in
      let anew = resealed seals first text in
      let atom : before.site.atom ≡ old.map.atom =
      site-atom sector seals layout before old of ∙ sym here.atom in
      let told : take (bytes_at before.site done) after.buffer ≡ anew =
      sym (ap (λ (v : Worker C). take (bytes_at v.site done) v.buffer) stop.is) ∙ kept in
      let again : unsealed seals first (take (bytes_at before.site done) after.buffer) ≡ text =
      ap (unsealed seals first) told
      ∙ unseals before.site.atom seals runs back first (part_at before.site done) text
      (part-blocks sector seals layout before old of done) in
      record {
        work = led_by layout before headers (writing done) (fetched done text);
        was = was-by sector seals layout before old of (Write done headers) at;
        unbroken = of.unbroken;
        phase = writing done;
        fails = calls.write_fails done (part_at before.site done) text anew
            (some-part done had.0)
            (part-resealed sector seals layout before old of runs done old.map.atom atom)
            (subst (λ a. WriteCall a (before.site.own + done) anew old.disk new.disk failed_call)
            (sym here.atom) call);
        frees = subst (λ t. Frees old new true (Some (led_by layout before headers (writing done)
            (fetched done t)))) again (left-read (Write done headers) Failed stop);
      }

  pub settle-fails-on : (headers : Headers) → before.next ≡ Settle headers
      → SyncCall old.disk new.disk failed_call → IsHalted before after (Settle headers) Failed
      → Faults seals old new
  unfolding work_by
  settle-fails-on headers at call stop =
      let count = count_of before.site in
      record {
        work = led_by layout before headers (writing count) (wanted count);
        was = was-by sector seals layout before old of (Settle headers) at;
        unbroken = of.unbroken;
        phase = writing count;
        fails = calls.sync_fails (writing count) (wanted count) refl call;
        frees = left (Settle headers) Failed stop;
      }

  pub move-fails-on : (headers : Headers) (commit : Prepared) → before.next ≡ Move headers
      → Commits headers.moved.commit old.disk new.disk failed_call
      → IsBroken headers.moved.commit commit
      → IsHalted before after (Move (moved_by headers commit))
      (InCommit (stage_in headers.moved.commit.copies))
      → Faults seals old new
  unfolding work_by
  move-fails-on headers commit at call broken stop =
      let stage = stage_of (stage_in headers.moved.commit.copies) in
      let had = needs sector seals layout before old of (Move headers) at in
      let here = late-here sector seals layout before old of (Move headers) at headers refl had.1 in
      let count = count_of before.site in
      record {
        work = led_by layout before headers (moving stage) (wanted count);
        was = was-by sector seals layout before old of (Move headers) at;
        unbroken = of.unbroken;
        phase = moving (failed_stage stage);
        fails = calls.move_fails stage (wanted count)
            (commit-put headers.moved.commit before.loaded.copies.used.header.hdr_size old.map.atom
            old.disk.atoms layout old.disk new.disk failed_call here.laid here.atom here.some
            (moved-sized before.loaded count headers.opened headers.moved of.stored had.1) call);
        frees = subst (λ h. Frees old new true (Some (at_hand layout before
            (header_by headers.opened) h (moving (failed_stage stage)) (wanted count))))
            (sym (same-headers headers.moved.commit commit broken.same))
            (left (Move (moved_by headers commit))
            (InCommit (stage_in headers.moved.commit.copies)) stop);
      }

  -- ---- of the end
  pub unfinished-on : (cause : Hindrance)
      → Lacks (reading_of sizes) (header_on before.loaded) 1 cause → before.next ≡ Finish
      → IsHalted before after Finish GivenUp → IsUnfinished (reading_of sizes) old new cause
  unfolding work_by
  unfinished-on cause lacks at stop =
      let map = early-map sector seals layout before old of Finish at tt in
      let here = early-here sector seals layout before old of Finish at tt in
      record {
        layout = layout;
        header = header_on before.loaded;
        was = was-by sector seals layout before old of Finish at;
        unbroken = of.unbroken;
        converted = all-new sector layout before old of.working of.stored of.ruled map here.laid
            (fits-by sector seals layout before old of map) (needs sector seals layout before old of Finish at);
        lane = (of.free at).lane;
        last = (of.free at).last;
        free = (of.free at).free;
        lacks = lacks;
        same = left Finish GivenUp stop;
      }

  pub finish-fails-on : (ending : Ending) (commit : Prepared) → before.next ≡ Finish
      → IsEnding before.loaded ending → Commits ending.commit old.disk new.disk failed_call
      → IsBroken ending.commit commit
      → IsHalted before after (End (ended_by ending commit))
      (InCommit (stage_in ending.commit.copies))
      → MissesConclusion (reading_of sizes) old new
  unfolding work_by
  finish-fails-on ending commit at are call broken stop =
      let map = early-map sector seals layout before old of Finish at tt in
      let here = early-here sector seals layout before old of Finish at tt in
      let areas = areas_behind before.site.atom 0 ending in
      record {
        layout = layout;
        header = header_on before.loaded;
        next = header_by ending.commit;
        areas = areas;
        may = may-conclude sector layout before old of.working of.stored of.ruled map here.laid
            (fits-by sector seals layout before old of map) (needs sector seals layout before old of Finish at) ending are
            of.salts.0 (of.free at) (was-by sector seals layout before old of Finish at) of.unbroken;
        call = subst (λ s. PutsCopy old.map.atom layout (header_by ending.commit) s old.disk
            new.disk failed_call) (ap stage_of are.begun)
            (commit-put ending.commit before.loaded.copies.used.header.hdr_size old.map.atom
            old.disk.atoms layout old.disk new.disk failed_call here.laid here.atom here.some
            (ending-sized sector seals layout before old of ending
            (ending.commit, are, same-self ending.commit)) call);
        frees = subst (λ h. Frees old new true (Some (closing layout (header_on before.loaded) h
            first_written areas))) (sym (same-headers ending.commit commit broken.same))
            (subst (λ s. Frees old new true (Some (closing layout (header_on before.loaded)
            (header_by commit) (failed_stage (stage_of s)) areas))) are.begun
            (left (End (ended_by ending commit)) (InCommit (stage_in ending.commit.copies)) stop));
      }

  pub end-fails-on : (ending : Ending) (commit : Prepared) → before.next ≡ End ending
      → Commits ending.commit old.disk new.disk failed_call → IsBroken ending.commit commit
      → IsHalted before after (End (ended_by ending commit))
      (InCommit (stage_in ending.commit.copies))
      → Faults seals old new
  unfolding work_by
  end-fails-on ending commit at call broken stop =
      let stage = stage_of (stage_in ending.commit.copies) in
      let here = early-here sector seals layout before old of (End ending) at tt in
      let had = needs sector seals layout before old of (End ending) at in
      let areas = areas_behind before.site.atom 0 ending in
      record {
        work = closing layout (header_on before.loaded) (header_by ending.commit) stage areas;
        was = was-by sector seals layout before old of (End ending) at;
        unbroken = of.unbroken;
        phase = moving (failed_stage stage);
        fails = calls.move_fails stage (wanted 0)
            (commit-put ending.commit before.loaded.copies.used.header.hdr_size old.map.atom
            old.disk.atoms layout old.disk new.disk failed_call here.laid here.atom here.some
            (ending-sized sector seals layout before old of ending had.0) call);
        frees = subst (λ h. Frees old new true (Some (closing layout (header_on before.loaded) h
            (failed_stage stage) areas))) (sym (same-headers ending.commit commit broken.same))
            (left (End (ended_by ending commit)) (InCommit (stage_in ending.commit.copies)) stop);
      }

  pub wipe-fails-on : (done : ℕ) (ending : Ending) → before.next ≡ Wipe done ending
      → WipesArea done ending.wipes old.disk new.disk failed_call
      → IsHalted before after (Wipe done ending) Failed → MissesWipe old new
  unfolding work_by
  wipe-fails-on done ending at call stop =
      let had = needs sector seals layout before old of (Wipe done ending) at in
      record {
        layout = layout;
        header = header_by ending.commit;
        area = area_on before.site.atom (area_at ending.wipes done);
        areas = areas_behind before.site.atom (done + 1) ending;
        was = wiping-was sector seals layout before old of done ending at had.0;
        unbroken = of.unbroken;
        call = wipe-call sector seals layout before old of done ending new.disk failed_call at
            had.0 had.1 call;
        frees = subst (λ k. Frees old new true k)
            (sym (was-by sector seals layout before old of (Wipe done ending) at))
            (left (Wipe done ending) Failed stop);
      }

  pub rest-fails-on : (ending : Ending) → before.next ≡ Rest ending
      → SyncCall old.disk new.disk failed_call → IsHalted before after (Rest ending) Failed
      → Faults seals old new
  unfolding work_by
  rest-fails-on ending at call stop = record {
    work = resting layout (header_by ending.commit) (wiping []);
    was = was-by sector seals layout before old of (Rest ending) at;
    unbroken = of.unbroken;
    phase = saving 0;
    fails = calls.sync_fails (saving 0) (wanted 0) refl call;
    frees = left (Rest ending) Failed stop;
  }
