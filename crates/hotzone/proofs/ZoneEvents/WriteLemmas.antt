-- The steps of a zone from its first commit on.
use Rattle.std.proofs.Common.{◌≡◌, ◌≢◌, ◌∙◌, ℕ, ◌+◌, ◌<◌}
use Rattle.std.proofs.Common.{◌==◌, Bool, true, false, List, length, take, None, cond}
use Rattle.std.proofs.Common.{refl, sym, ap, ap₂, subst, arith}
use Rattle.std.proofs.lemmas.Bool.{eqb-true}
use Rattle.crash_laws.specs.HeaderAreas.Commits.{begun, next_stage}
use Rattle.crash_laws.specs.HeaderAreas.Headers.{Layout}
use Rattle.base_terms.specs.declared.disk_sizes.Sizes.{Sizes}
use Rattle.crash_laws.specs.HotZones.Zones.{from_of, moving, opening, writing}
use Rattle.hotzone.proofs.KnownLemmas.{SealRuns, each-resealed, part-some}
use Rattle.hotzone.proofs.HeadingLemmas.{moved-sizes}
use Rattle.hotzone.specs.Headings.{AreOf}
use Rattle.hotzone.specs.Known.{header_by}
use Rattle.hotzone.specs.Sites.{bytes_at, count_of, part_at}
use Rattle.hotzone.specs.Steps.{Commits, HasMoved, HasRead, IsCommitted, ReadsPart, WritesPart}
use Rattle.hotzone.specs.Steps.{after_open, after_write, moved_by, opened_by, part_in, resealed}
use Rattle.hotzone.specs.declared.worker.Headers.{Headers}
use Rattle.hotzone.specs.declared.worker.NextCall.{NextCall}
use Rattle.hotzone.specs.declared.worker.NextCall.TheVariants.{Open, ReadAgain, Write, Settle}
use Rattle.hotzone.specs.declared.worker.NextCall.TheVariants.{Move}
use Rattle.hotzone.specs.declared.worker.Worker.{Worker}
use Rattle.luks_store.specs.Copying.Held.{primary_of, secondary_of, stage_in}
use Rattle.luks_store.specs.Copying.Seen.{stage_of}
use Rattle.luks_store.specs.Copying.Steps.{CopyCall}
use Rattle.luks_store.specs.declared.header_copies.commit.Stage.TheVariants.{SecondWritten, Ended}
use Rattle.luks_store.specs.declared.commit.Prepared.{Prepared}
use Rattle.luks_store.specs.declared.copies.Copies.{Copies}
use Rattle.luks_store.specs.declared.loaded.Stored.{Stored}
use Rattle.sector_disk.specs.Devices.{ReadCall, SyncCall, WriteCall, succeeded}
use Rattle.segment_map.specs.declared.Side.TheVariants.{Old}
use Rattle.volume_machine.specs.Seals.{Seals}
use Rattle.volume_machine.specs.States.{State}
use Rattle.volume_machine.specs.WorkCalls.{IsResealed}
use Rattle.volume_machine.specs.WorkCalls as calls
use Rattle.volume_machine.specs.WorkSteps.{EndsZone, OpensZone, Proceeds, StepsOn}
use Rattle.volume_machine.specs.Works.{converting, fetched, resting, wanted}
use Rattle.volume_machine.specs.declared.keys.Keys.{Keys}
use Rattle.hotzone.proofs.ZoneEvents.CallLemmas.{commit-put, moved-sized, opened-sized, part-is}
use Rattle.hotzone.proofs.ZoneEvents.CallLemmas.{part-long}
use Rattle.hotzone.proofs.ZoneEvents.CallLemmas.{most-atoms, stage-far, stage-on}
use Rattle.hotzone.proofs.ZoneEvents.HeadLemmas.{header-behind}
use Rattle.hotzone.proofs.ZoneEvents.HereLemmas.{becoming, early-here, early-map, first-rests}
use Rattle.hotzone.proofs.ZoneEvents.HereLemmas.{fits-here}
use Rattle.hotzone.proofs.ZoneEvents.HereLemmas.{late-here, late-map, needs, site-atom, staying}
use Rattle.hotzone.proofs.ZoneEvents.HereLemmas.{was-by}
use Rattle.hotzone.proofs.ZoneEvents.HereLemmas.{IsLate}
use Rattle.hotzone.proofs.ZoneEvents.SaveLemmas.{not-at-rest}
use Rattle.hotzone.proofs.ZoneEvents.SavedLemmas.{part-blocks}
use Rattle.hotzone.proofs.ZoneEvents.TurnLemmas.{same-headers}
use Rattle.hotzone.specs.ZoneEvents.Heads.{header_on}
use Rattle.hotzone.specs.ZoneEvents.Promises.{IsOf}
use Rattle.hotzone.specs.ZoneEvents.Readings.{map_of, reading_of}
use Rattle.hotzone.specs.ZoneEvents.Works.{at_hand, first_part, led_by, map_in, work_by, work_of}
use Rattle.crash_laws.specs.HeaderAreas.Headers.{IsHeader}
use Rattle.luks_store.specs.Copying.Meanings.{header_reader}

-- ---- both headers of a zone are valid
pub both-headers : (before : Stored) (blocks : ℕ) (headers : Headers)
    → AreOf before blocks headers.opened headers.moved
    → IsHeader header_reader (header_by headers.opened)
    × IsHeader header_reader (header_by headers.moved.commit)
both-headers before blocks headers are = (
  subst (IsHeader header_reader) (same-headers are.first headers.opened are.same) are.commit.whole,
  subst (IsHeader header_reader)
      (same-headers are.follows.first headers.moved.commit are.follows.same)
      are.follows.commit.whole,
)

-- ---- what comes next
module _ {C : Type 0} (seals : Seals) (layout : Layout) (w : Worker C) where
  -- behind the commit that opens the zone
  pub behind-open : (headers : Headers)
      → work_by seals layout (record w { next = after_open w.site headers })
      (after_open w.site headers) None
      ≡ led_by layout w headers (writing 0) (first_part w)
  unfolding work_by
  behind-open headers =
      go (after_open w.site headers) (part_at w.site 0 == count_of w.site)
    where
      go : (now : NextCall) (b : Bool)
          → work_by seals layout (record w { next = now })
          (cond b (Write 0 headers) (ReadAgain 0 headers)) None
          ≡ led_by layout w headers (writing 0) (cond b (fetched 0 (part_in w 0)) (wanted 0))
      go now true = refl
      go now false = refl

  -- behind a part that was written
  pub behind-write : (buffer : List ℕ) (done : ℕ) (headers : Headers)
      → work_by seals layout
      (record w { buffer = buffer; next = after_write w.site done headers })
      (after_write w.site done headers) None
      ≡ led_by layout w headers (writing (done + part_at w.site done))
      (wanted (done + part_at w.site done))
  unfolding work_by
  behind-write buffer done headers =
      go (after_write w.site done headers) (done + part_at w.site done == count_of w.site) refl
    where
      go : (now : NextCall) (b : Bool) → (done + part_at w.site done == count_of w.site) ≡ b
          → work_by seals layout (record w { buffer = buffer; next = now })
          (cond b (Settle headers) (ReadAgain (done + part_at w.site done) headers)) None
          ≡ led_by layout w headers (writing (done + part_at w.site done))
          (wanted (done + part_at w.site done))
      go now true is =
          ap (λ n. led_by layout w headers (writing n) (wanted n))
          (sym (eqb-true (done + part_at w.site done) (count_of w.site) is))
      go now false is = refl

-- ---- a part at hand
module _ {C : Type 0} (sector : C → ℕ) (seals : Seals) (layout : Layout) (before : Worker C)
    (old : State (Keys C)) (of : IsOf sector seals layout before old)
    (runs : SealRuns before.site.atom seals) where
  -- a part that is sealed anew
  pub part-resealed : (done atom : ℕ) → before.site.atom ≡ atom
      → IsResealed seals atom (before.site.blocks.start + done) (part_at before.site done)
      (part_in before done)
      (resealed seals (before.site.blocks.start + done) (part_in before done))
  part-resealed done atom is =
      let blocks = part-blocks sector seals layout before old of done in
      let first = before.site.blocks.start + done in
      let plain = runs.lawful.keeps_opened Old first _ _ blocks in
      subst (λ a. IsResealed seals a first (part_at before.site done) (part_in before done)
      (resealed seals first (part_in before done))) is
      (record {
        old_size = blocks.size;
        size = (runs.keeps first _ _ plain).size;
        each = λ k below. each-resealed before.site.atom seals first _ (part_in before done) k runs
            blocks below;
      })

-- ---- the steps
module _ {C : Type 0} (sector : C → ℕ) (seals : Seals) (layout : Layout) (before after : Worker C)
    (old new : State (Keys C)) (of : IsOf sector seals layout before old)
    (runs : SealRuns before.site.atom seals)
    (becomes : Proceeds old new (map_in seals layout after) (work_of seals layout after) false)
  where
    abbrev sizes : Sizes
    sizes = before.loaded.valid.sizes

    some-part : (done : ℕ) → done < count_of before.site → 0 < part_at before.site done
    some-part done below =
        part-some before.site done
        (most-atoms before.site.atom (fits-here sector seals layout before old of).known) below

    pub opens-on : (headers : Headers) (commit : Prepared) → before.next ≡ Open headers
        → Commits headers.opened old.disk new.disk succeeded → IsCommitted headers.opened commit
        → stage_in headers.opened.copies ≢ SecondWritten
        → after ≡ record before { next = Open (opened_by headers commit) }
        → StepsOn (reading_of sizes) seals old new
    unfolding work_by
    opens-on headers commit at call on far to =
        let map = early-map sector seals layout before old of (Open headers) at tt in
        let had = needs sector seals layout before old of (Open headers) at in
        let here = early-here sector seals layout before old of (Open headers) at tt in
        let stage = stage_in headers.opened.copies in
        let ended : stage ≢ Ended = had.2 of.runs in
        let part = first_part before in
        record {
          work = led_by layout before headers (opening (stage_of stage)) part;
          was = was-by sector seals layout before old of (Open headers) at;
          unbroken = of.unbroken;
          at_hand = not-at-rest layout before (header_by headers.opened)
              (header_by headers.moved.commit) (opening (stage_of stage)) part had.0;
          opened = header_by headers.opened;
          moved = header_by headers.moved.commit;
          phase = opening (next_stage (stage_of stage));
          part = part;
          names = record {
            stay = λ other. (refl, refl);
            is = both-headers before.loaded (count_of before.site) headers had.1.0;
            leads = λ first other. absurd first;
            keeps = λ first other. absurd first;
          };
          step = calls.opens (stage_of stage) part (stage-far stage far ended)
              (commit-put headers.opened before.loaded.copies.used.header.hdr_size old.map.atom
              old.disk.atoms layout old.disk new.disk succeeded here.laid here.atom here.some
              (opened-sized before.loaded (count_of before.site) headers.opened headers.moved
              of.stored had.1.0) call);
          goes = staying seals layout after old new becomes
              (record before { next = Open (opened_by headers commit) }) to of.runs
              (Open (opened_by headers commit)) refl
              (led_by layout before headers (opening (next_stage (stage_of stage))) part)
              (ap₂ (λ h s. at_hand layout before h (header_by headers.moved.commit) (opening s) part)
              (sym (same-headers headers.opened commit on.same))
              (ap stage_of on.stage ∙ stage-on stage far ended)) map;
        }

    pub opened-on : (headers : Headers) (commit : Prepared) → before.next ≡ Open headers
        → Commits headers.opened old.disk new.disk succeeded → IsCommitted headers.opened commit
        → stage_in headers.opened.copies ≡ SecondWritten
        → after ≡ record before { next = after_open before.site (opened_by headers commit) }
        → OpensZone (reading_of sizes) old new
    unfolding work_by
    opened-on headers commit at call on last to =
        record {
          work = led_by layout before headers (opening (stage_of (stage_in headers.opened.copies)))
              (first_part before);
          was = was-by sector seals layout before old of (Open headers) at;
          unbroken = of.unbroken;
          phase = ap (λ s. opening (stage_of s)) last;
          call = subst (λ s. CopyCall s (primary_of headers.opened.copies)
              (secondary_of headers.opened.copies) headers.opened.header.hdr_size old.disk new.disk
              succeeded) last call;
          goes = becoming seals layout after old new becomes
              (record before { next = after_open before.site (opened_by headers commit) }) to of.runs
              (after_open before.site (opened_by headers commit)) refl
              (led_by layout before headers (writing 0) (first_part before))
              (behind-open seals layout before (opened_by headers commit)
              ∙ ap (λ h. at_hand layout before h (header_by headers.moved.commit) (writing 0)
              (first_part before)) (sym (same-headers headers.opened commit on.same)));
        }

    -- ---- of an open zone
    read-again-call : (next : NextCall) → before.next ≡ next → (headers : Headers)
        → (late : IsLate next headers)
        → AreOf before.loaded (count_of before.site) headers.opened headers.moved
        → (done : ℕ) → ReadsPart before done after.buffer old.disk new.disk succeeded
        → ReadCall old.map.atom (before.site.own + done)
        (take (bytes_at before.site done) after.buffer) old.disk new.disk succeeded
    read-again-call next at headers late are done call =
        subst (λ a. ReadCall a (before.site.own + done)
        (take (bytes_at before.site done) after.buffer) old.disk new.disk succeeded)
        (sym (late-here sector seals layout before old of next at headers late are).atom) call

    pub reads-again-on : (done : ℕ) (headers : Headers) → before.next ≡ ReadAgain done headers
        → ReadsPart before done after.buffer old.disk new.disk succeeded
        → HasRead before after (Write done headers) → StepsOn (reading_of sizes) seals old new
    unfolding work_by
    reads-again-on done headers at call read =
        let had = needs sector seals layout before old of (ReadAgain done headers) at in
        let map =
        late-map sector seals layout before old of (ReadAgain done headers) at headers refl had.1.0 in
        let here =
        late-here sector seals layout before old of (ReadAgain done headers) at headers refl had.1.0
        in
        let below = had.0 in
        let text = take (bytes_at before.site done) after.buffer in
        let atom : before.site.atom ≡ old.map.atom =
        site-atom sector seals layout before old of ∙ sym here.atom in
        record {
          work = led_by layout before headers (writing done) (wanted done);
          was = was-by sector seals layout before old of (ReadAgain done headers) at;
          unbroken = of.unbroken;
          at_hand = not-at-rest layout before (header_by headers.opened)
              (header_by headers.moved.commit) (writing done) (wanted done) (omega (arith, below));
          opened = header_by headers.opened;
          moved = header_by headers.moved.commit;
          phase = writing done;
          part = fetched done text;
          names = record {
            stay = λ other. (refl, refl);
            is = both-headers before.loaded (count_of before.site) headers had.1.0;
            leads = λ first other. absurd first;
            keeps = λ first other. absurd first;
          };
          step = calls.reads (writing done) done (part_at before.site done) text refl
              (part-is before.site old.map.atom done atom) (some-part done below)
              (part-long before.site after.buffer old.map.atom done atom
              (let room = of.working.room in let long = read.long in omega (arith, room, long)))
              (read-again-call (ReadAgain done headers) at headers refl had.1.0 done call);
          goes = staying seals layout after old new becomes
              (record before { buffer = after.buffer; next = Write done headers }) read.is of.runs
              (Write done headers) refl
              (led_by layout before headers (writing done) (fetched done text)) refl map;
        }

    pub writes-on : (done : ℕ) (headers : Headers) → before.next ≡ Write done headers
        → WritesPart seals before done old.disk new.disk succeeded
        → HasRead before after (after_write before.site done headers)
        → StepsOn (reading_of sizes) seals old new
    unfolding work_by
    writes-on done headers at call read =
        let had = needs sector seals layout before old of (Write done headers) at in
        let map =
        late-map sector seals layout before old of (Write done headers) at headers refl had.1.0 in
        let here =
        late-here sector seals layout before old of (Write done headers) at headers refl had.1.0 in
        let below = had.0 in
        let text = part_in before done in
        let many = part_at before.site done in
        let anew = resealed seals (before.site.blocks.start + done) text in
        let atom : before.site.atom ≡ old.map.atom =
        site-atom sector seals layout before old of ∙ sym here.atom in
        record {
          work = led_by layout before headers (writing done) (fetched done text);
          was = was-by sector seals layout before old of (Write done headers) at;
          unbroken = of.unbroken;
          at_hand = not-at-rest layout before (header_by headers.opened)
              (header_by headers.moved.commit) (writing done) (fetched done text)
              (omega (arith, below));
          opened = header_by headers.opened;
          moved = header_by headers.moved.commit;
          phase = writing (done + many);
          part = wanted (done + many);
          names = record {
            stay = λ other. (refl, refl);
            is = both-headers before.loaded (count_of before.site) headers had.1.0;
            leads = λ first other. absurd first;
            keeps = λ first other. absurd first;
          };
          step = calls.writes done many text anew (some-part done below)
              (part-resealed sector seals layout before old of runs done old.map.atom atom)
              (subst (λ a. WriteCall a (before.site.own + done) anew old.disk new.disk succeeded)
              (sym here.atom) call);
          goes = staying seals layout after old new becomes
              (record before {
                buffer = after.buffer;
                next = after_write before.site done headers;
              })
              read.is of.runs (after_write before.site done headers) refl
              (led_by layout before headers (writing (done + many)) (wanted (done + many)))
              (behind-write seals layout before after.buffer done headers) map;
        }

    pub settles-on : (headers : Headers) → before.next ≡ Settle headers
        → SyncCall old.disk new.disk succeeded → after ≡ record before { next = Move headers }
        → StepsOn (reading_of sizes) seals old new
    unfolding work_by
    settles-on headers at call to =
        let had = needs sector seals layout before old of (Settle headers) at in
        let map =
        late-map sector seals layout before old of (Settle headers) at headers refl had.1.0 in
        let count = count_of before.site in
        record {
          work = led_by layout before headers (writing count) (wanted count);
          was = was-by sector seals layout before old of (Settle headers) at;
          unbroken = of.unbroken;
          at_hand = not-at-rest layout before (header_by headers.opened)
              (header_by headers.moved.commit) (writing count) (wanted count) had.0;
          opened = header_by headers.opened;
          moved = header_by headers.moved.commit;
          phase = moving begun;
          part = wanted count;
          names = record {
            stay = λ other. (refl, refl);
            is = both-headers before.loaded count headers had.1.0;
            leads = λ first other. absurd first;
            keeps = λ first other. absurd first;
          };
          step = calls.settles (wanted count) call;
          goes = staying seals layout after old new becomes (record before { next = Move headers })
              to of.runs (Move headers) refl
              (led_by layout before headers (moving begun) (wanted count))
              (ap (λ s. led_by layout before headers (moving s) (wanted count))
              (ap stage_of had.1.1)) map;
        }

    pub moves-on : (headers : Headers) (commit : Prepared) → before.next ≡ Move headers
        → Commits headers.moved.commit old.disk new.disk succeeded
        → IsCommitted headers.moved.commit commit
        → stage_in headers.moved.commit.copies ≢ SecondWritten
        → after ≡ record before { next = Move (moved_by headers commit) }
        → StepsOn (reading_of sizes) seals old new
    unfolding work_by
    moves-on headers commit at call on far to =
        let had = needs sector seals layout before old of (Move headers) at in
        let map = late-map sector seals layout before old of (Move headers) at headers refl had.1 in
        let here = late-here sector seals layout before old of (Move headers) at headers refl had.1 in
        let stage = stage_in headers.moved.commit.copies in
        let ended : stage ≢ Ended = had.2 of.runs in
        let count = count_of before.site in
        record {
          work = led_by layout before headers (moving (stage_of stage)) (wanted count);
          was = was-by sector seals layout before old of (Move headers) at;
          unbroken = of.unbroken;
          at_hand = not-at-rest layout before (header_by headers.opened)
              (header_by headers.moved.commit) (moving (stage_of stage)) (wanted count) had.0;
          opened = header_by headers.opened;
          moved = header_by headers.moved.commit;
          phase = moving (next_stage (stage_of stage));
          part = wanted count;
          names = record {
            stay = λ other. (refl, refl);
            is = both-headers before.loaded count headers had.1;
            leads = λ first other. absurd first;
            keeps = λ first other. absurd first;
          };
          step = calls.moves (stage_of stage) (wanted count) (stage-far stage far ended)
              (commit-put headers.moved.commit before.loaded.copies.used.header.hdr_size old.map.atom
              old.disk.atoms layout old.disk new.disk succeeded here.laid here.atom here.some
              (moved-sized before.loaded count headers.opened headers.moved of.stored had.1) call);
          goes = staying seals layout after old new becomes
              (record before { next = Move (moved_by headers commit) }) to of.runs
              (Move (moved_by headers commit)) refl
              (led_by layout before headers (moving (next_stage (stage_of stage))) (wanted count))
              (ap₂ (λ h s. at_hand layout before (header_by headers.opened) h (moving s)
              (wanted count))
              (sym (same-headers headers.moved.commit commit on.same))
              (ap stage_of on.stage ∙ stage-on stage far ended)) map;
        }

    -- ---- the last one
    pub ends-on : (headers : Headers) → before.next ≡ Move headers
        → Commits headers.moved.commit old.disk new.disk succeeded
        → stage_in headers.moved.commit.copies ≡ SecondWritten
        → HasMoved before after headers.moved.loaded → EndsZone (reading_of sizes) old new
    unfolding work_by
    ends-on headers at call last has =
        let had = needs sector seals layout before old of (Move headers) at in
        let are = had.1 in
        let count = count_of before.site in
        let salt : length are.between.copies.secondary.salt ≡ 64 =
        ap (λ (c : Copies). length c.secondary.salt) are.loaded.copies
        ∙ ap length are.commit.second_salt ∙ of.salts.1 in
        let header : header_on after.loaded ≡ header_by headers.moved.commit =
        ap header_on has.loaded
        ∙ header-behind are.between headers.moved.loaded.valid.meta are.follows.first
        headers.moved.loaded are.loaded.stored are.follows.commit are.follows.loaded salt
        headers.moved.commit are.follows.same in
        let same : after.loaded.valid.sizes ≡ before.loaded.valid.sizes =
        ap (λ (s : Stored). s.valid.sizes) has.loaded
        ∙ moved-sizes before.loaded count headers.opened headers.moved are in
        let rests : work_of seals layout after
        ≡ resting layout (header_by headers.moved.commit) converting =
        first-rests seals layout after (count_of after.site == 0) has.next (has.halted ∙ of.runs)
        ∙ ap (λ h. resting layout h converting) header in
        record {
          work = led_by layout before headers
              (moving (stage_of (stage_in headers.moved.commit.copies))) (wanted count);
          was = was-by sector seals layout before old of (Move headers) at;
          unbroken = of.unbroken;
          last = ap stage_of last;
          call = subst (λ s. CopyCall s (primary_of headers.moved.commit.copies)
              (secondary_of headers.moved.commit.copies) headers.moved.commit.header.hdr_size
              old.disk new.disk succeeded) last call;
          goes = subst (λ s. Proceeds old new (map_of s (header_by headers.moved.commit).means)
              (resting layout (header_by headers.moved.commit) converting) false) same
              (subst (λ k. Proceeds old new
              (map_of after.loaded.valid.sizes (from_of k.zone k.phase).means) k false) rests
              becomes);
        }
