-- The steps of a zone up to its first commit.
use Rattle.std.proofs.Common.{◌≡◌, ◌∙◌, ℕ, ◌+◌, ◌<◌}
use Rattle.std.proofs.Common.{◌≤◌, false, List, take}
use Rattle.std.proofs.Common.{refl, sym, ap, subst, arith}
use Rattle.crash_laws.specs.HeaderAreas.Commits.{begun}
use Rattle.crash_laws.specs.HeaderAreas.Headers.{Header, Layout}
use Rattle.base_terms.specs.declared.disk_sizes.Sizes.{Sizes}
use Rattle.crash_laws.specs.HotZones.Zones.{Phase, opening, saving}
use Rattle.hotzone.proofs.GuardLemmas.{first-place, first-start, saved-some, saved_part}
use Rattle.hotzone.proofs.KnownLemmas.{SealRuns, part-some}
use Rattle.hotzone.specs.Headings.{AreOf}
use Rattle.hotzone.specs.Known.{header_by}
use Rattle.hotzone.specs.Sites.{bytes_at, count_of, kind_of, part_at, saved_at, saved_count}
use Rattle.hotzone.specs.Steps.{HasRead, ReadsPart, SavesPart, TellsPart, after_save, part_in}
use Rattle.hotzone.specs.declared.worker.Headers.{Headers}
use Rattle.hotzone.specs.declared.worker.NextCall.{NextCall}
use Rattle.hotzone.specs.declared.worker.NextCall.TheVariants.{Begin, ReadFirst, SaveFirst, Read}
use Rattle.hotzone.specs.declared.worker.NextCall.TheVariants.{Save, Keep, Open}
use Rattle.hotzone.specs.declared.worker.Worker.{Worker}
use Rattle.luks_store.specs.Copying.Held.{stage_in}
use Rattle.luks_store.specs.Copying.Seen.{stage_of}
use Rattle.sector_disk.specs.Devices.{ReadCall, SyncCall, succeeded}
use Rattle.sector_disk.specs.Geometry.{IsAtom}
use Rattle.volume_machine.specs.Courses.{IsAtRest}
use Rattle.volume_machine.specs.Seals.{Seals}
use Rattle.volume_machine.specs.States.{State}
use Rattle.volume_machine.specs.Saved.{saved_before}
use Rattle.volume_machine.specs.WorkCalls.{ZoneStep, after_saving}
use Rattle.volume_machine.specs.WorkCalls as calls
use Rattle.volume_machine.specs.WorkSteps.{Begins, Proceeds, StepsOn}
use Rattle.volume_machine.specs.Works.{Part, Work, fetched, wanted}
use Rattle.volume_machine.specs.declared.keys.Keys.{Keys}
use Rattle.hotzone.proofs.ZoneEvents.CallLemmas.{most-atoms, part-is, part-long}
use Rattle.hotzone.proofs.ZoneEvents.HereLemmas.{early-header, early-here, early-map, fits-by}
use Rattle.hotzone.proofs.ZoneEvents.HereLemmas.{fits-here, needs}
use Rattle.hotzone.proofs.ZoneEvents.HereLemmas.{site-atom, staying, was-by, IsEarly}
use Rattle.hotzone.proofs.ZoneEvents.PlanLemmas.{is-planned}
use Rattle.hotzone.proofs.ZoneEvents.SavedLemmas.{behind-first, behind-later, save-step, saved-far}
use Rattle.hotzone.proofs.ZoneEvents.TurnLemmas.{both-lead, both-lead-on, move-header, open-header}
use Rattle.hotzone.specs.ZoneEvents.Heads.{header_on}
use Rattle.hotzone.specs.ZoneEvents.Promises.{IsLater, IsOf}
use Rattle.hotzone.specs.ZoneEvents.Readings.{reading_of}
use Rattle.hotzone.specs.ZoneEvents.Works.{at_hand, first_part, led_by, map_in, unnamed, work_by}
use Rattle.hotzone.specs.ZoneEvents.Works.{work_of}

-- ---- a zone at hand isn't at rest
pub not-at-rest : {C : Type 0} (layout : Layout) (w : Worker C) (opened moved : Header (List ℕ))
    (phase : Phase) (part : Part) → 0 < count_of w.site
    → IsAtRest (at_hand layout w opened moved phase part) → ⊥
not-at-rest layout w opened moved phase part some is =
    let end : w.site.blocks.end ≡ 0 = ap (λ (k : Work). k.range.end) is in
    absurd (omega (arith, end, some))

-- ---- the steps
module _ {C : Type 0} (sector : C → ℕ) (seals : Seals) (layout : Layout) (before after : Worker C)
    (old new : State (Keys C)) (of : IsOf sector seals layout before old)
    (runs : SealRuns before.site.atom seals)
    (becomes : Proceeds old new (map_in seals layout after) (work_of seals layout after) false)
  where
    abbrev sizes : Sizes
    sizes = before.loaded.valid.sizes

    abbrev before_header : Header (List ℕ)
    before_header = header_on before.loaded

    -- a part has atoms
    some-part : (done : ℕ) → done < count_of before.site → 0 < part_at before.site done
    some-part done below =
        part-some before.site done
        (most-atoms before.site.atom (fits-here sector seals layout before old of).known) below

    atom-here : (next : NextCall) → before.next ≡ next → IsEarly next
        → before.site.atom ≡ old.map.atom
    atom-here next at early =
        site-atom sector seals layout before old of
        ∙ sym (early-here sector seals layout before old of next at early).atom

    read-call : (next : NextCall) → before.next ≡ next → IsEarly next → (done : ℕ)
        → ReadsPart before done after.buffer old.disk new.disk succeeded
        → ReadCall old.map.atom (before.site.own + done)
        (take (bytes_at before.site done) after.buffer) old.disk new.disk succeeded
    read-call next at early done call =
        subst (λ a. ReadCall a (before.site.own + done)
        (take (bytes_at before.site done) after.buffer) old.disk new.disk succeeded)
        (sym (early-here sector seals layout before old of next at early).atom) call

    -- what is saved of the parts before one
    before-read : (next : NextCall) → before.next ≡ next → IsEarly next → (done : ℕ)
        → saved_at before.site done ≡ saved_before (kind_of before.site.guard) old.map.atom done
    before-read next at early done =
        ap (λ a. saved_before (kind_of before.site.guard) a done) (atom-here next at early)

    known : IsAtom before.site.atom
    known = (fits-here sector seals layout before old of).known

    pub begins-on : before.next ≡ Begin → SyncCall old.disk new.disk succeeded
        → after ≡ record before { next = ReadFirst } → Begins (reading_of sizes) old new
    unfolding work_by
    begins-on at call to =
        let map = early-map sector seals layout before old of Begin at tt in
        record {
          layout = layout;
          header = before_header;
          was = was-by sector seals layout before old of Begin at;
          unbroken = of.unbroken;
          work = unnamed layout before (wanted 0);
          planned = is-planned sector layout before old of.working of.stored of.ruled of.sizes map
              (early-here sector seals layout before old of Begin at tt).laid
              (needs sector seals layout before old of Begin at);
          held = of.held at;
          call = call;
          goes = staying seals layout after old new becomes (record before { next = ReadFirst }) to
              of.runs ReadFirst refl (unnamed layout before (wanted 0)) refl map;
        }

    pub reads-first-on : before.next ≡ ReadFirst
        → ReadsPart before 0 after.buffer old.disk new.disk succeeded
        → HasRead before after SaveFirst → StepsOn (reading_of sizes) seals old new
    unfolding work_by
    reads-first-on at call read =
        let map = early-map sector seals layout before old of ReadFirst at tt in
        let header = early-header sector seals layout before old of ReadFirst at tt in
        let some = needs sector seals layout before old of ReadFirst at in
        let text = take (bytes_at before.site 0) after.buffer in
        let atom = atom-here ReadFirst at tt in
        record {
          work = unnamed layout before (wanted 0);
          was = was-by sector seals layout before old of ReadFirst at;
          unbroken = of.unbroken;
          at_hand = not-at-rest layout before before_header before_header (saving 0) (wanted 0) some;
          opened = before_header;
          moved = before_header;
          phase = saving 0;
          part = fetched 0 text;
          names = record {
            stay = λ far. (refl, refl);
            is = (header, header);
            leads = λ first far. absurd (far refl);
            keeps = λ first far. absurd (far refl);
          };
          step = calls.reads (saving 0) 0 (part_at before.site 0) text
              (sym (first-place before.site) ∙ before-read ReadFirst at tt 0)
              (part-is before.site old.map.atom 0 atom) (some-part 0 some)
              (part-long before.site after.buffer old.map.atom 0 atom
              (let room = of.working.room in let long = read.long in omega (arith, room, long)))
              (read-call ReadFirst at tt 0 call);
          goes = staying seals layout after old new becomes
              (record before { buffer = after.buffer; next = SaveFirst }) read.is of.runs SaveFirst
              refl (unnamed layout before (fetched 0 text)) refl map;
        }

    pub saves-first-on : before.next ≡ SaveFirst → TellsPart seals before 0
        → SavesPart before 0 old.disk new.disk succeeded
        → (headers : Headers) → AreOf before.loaded (count_of before.site) headers.opened headers.moved
        → after ≡ record before { next = after_save before.site 0 headers }
        → StepsOn (reading_of sizes) seals old new
    unfolding work_by
    saves-first-on at tells call headers are to =
        let map = early-map sector seals layout before old of SaveFirst at tt in
        let some = needs sector seals layout before old of SaveFirst at in
        let text = part_in before 0 in
        let many = part_at before.site 0 in
        let saved = saved_at before.site 0 + saved_part before.site 0 in
        record {
          work = unnamed layout before (fetched 0 text);
          was = was-by sector seals layout before old of SaveFirst at;
          unbroken = of.unbroken;
          at_hand =
              not-at-rest layout before before_header before_header (saving 0) (fetched 0 text) some;
          opened = header_by headers.opened;
          moved = header_by headers.moved.commit;
          phase = saving saved;
          part = after_saving (count_of before.site) 0 many text;
          names = record {
            stay = λ far. absurd (far refl);
            is = (
              open-header sector before old of.working of.stored of.ruled map (fits-by sector seals layout before old of map) headers
                  are,
              move-header sector before old of.working of.stored of.ruled map (fits-by sector seals layout before old of map) headers
                  are,
            );
            leads = λ first far.
                both-lead sector before old of.working of.stored of.ruled map (fits-by sector seals layout before old of map) headers
                are of.salts.0 layout (fetched 0 text);
            keeps = λ first far.
                both-lead-on sector before old of.working of.stored of.ruled map (fits-by sector seals layout before old of map) headers
                are layout (fetched 0 text);
          };
          step = subst (λ n. ZoneStep seals old.map.atom
              (at_hand layout before (header_by headers.opened) (header_by headers.moved.commit)
              (saving 0) (fetched 0 text)) old.disk new.disk (saving n) (fetched 0 text)
              (saving saved) (after_saving (count_of before.site) 0 many text))
              (first-place before.site)
              (save-step sector seals layout before old of runs (atom-here SaveFirst at tt) new.disk
              succeeded 0 some (first-start before.site known) tells call (header_by headers.opened)
              (header_by headers.moved.commit) (saving 0) (fetched 0 text) refl);
          goes = staying seals layout after old new becomes
              (record before { next = after_save before.site 0 headers }) to of.runs
              (after_save before.site 0 headers) refl
              (led_by layout before headers (saving saved)
              (after_saving (count_of before.site) 0 many text))
              (behind-first seals layout before headers known) map;
        }

    pub reads-on : (done : ℕ) (headers : Headers) → before.next ≡ Read done headers
        → ReadsPart before done after.buffer old.disk new.disk succeeded
        → HasRead before after (Save done headers) → StepsOn (reading_of sizes) seals old new
    unfolding work_by
    reads-on done headers at call read =
        let map = early-map sector seals layout before old of (Read done headers) at tt in
        let had = needs sector seals layout before old of (Read done headers) at in
        let far : part_at before.site 0 ≤ done = subst (IsLater before.site) at of.later in
        let some = some-part 0 (omega (arith, had.0)) in
        let text = take (bytes_at before.site done) after.buffer in
        let atom = atom-here (Read done headers) at tt in
        record {
          work = led_by layout before headers (saving (saved_at before.site done)) (wanted done);
          was = was-by sector seals layout before old of (Read done headers) at;
          unbroken = of.unbroken;
          at_hand = not-at-rest layout before (header_by headers.opened)
              (header_by headers.moved.commit) (saving (saved_at before.site done)) (wanted done)
              (let below = had.0 in omega (arith, below));
          opened = header_by headers.opened;
          moved = header_by headers.moved.commit;
          phase = saving (saved_at before.site done);
          part = fetched done text;
          names = record {
            stay = λ other. (refl, refl);
            is = (
              open-header sector before old of.working of.stored of.ruled map (fits-by sector seals layout before old of map) headers
                  had.1.0,
              move-header sector before old of.working of.stored of.ruled map (fits-by sector seals layout before old of map) headers
                  had.1.0,
            );
            leads = λ first other. absurd (other first);
            keeps = λ first other. absurd (other first);
          };
          step = calls.reads (saving (saved_at before.site done)) done (part_at before.site done)
              text (before-read (Read done headers) at tt done)
              (part-is before.site old.map.atom done atom) (some-part done had.0)
              (part-long before.site after.buffer old.map.atom done atom
              (let room = of.working.room in let long = read.long in omega (arith, room, long)))
              (read-call (Read done headers) at tt done call);
          goes = staying seals layout after old new becomes
              (record before { buffer = after.buffer; next = Save done headers }) read.is of.runs
              (Save done headers) refl (led_by layout before headers (saving (saved_at before.site done)) (fetched done text))
              refl map;
        }

    pub saves-on : (done : ℕ) (headers : Headers) → before.next ≡ Save done headers
        → TellsPart seals before done → SavesPart before done old.disk new.disk succeeded
        → after ≡ record before { next = after_save before.site done headers }
        → StepsOn (reading_of sizes) seals old new
    unfolding work_by
    saves-on done headers at tells call to =
        let map = early-map sector seals layout before old of (Save done headers) at tt in
        let had = needs sector seals layout before old of (Save done headers) at in
        let far : part_at before.site 0 ≤ done = subst (IsLater before.site) at of.later in
        let below = had.0 in
        let some = some-part 0 (omega (arith, below)) in
        let text = part_in before done in
        let many = part_at before.site done in
        let saved = saved_at before.site done + saved_part before.site done in
        let begun = saved-far before.site done known far below in
        record {
          work = led_by layout before headers (saving (saved_at before.site done)) (fetched done text);
          was = was-by sector seals layout before old of (Save done headers) at;
          unbroken = of.unbroken;
          at_hand = not-at-rest layout before (header_by headers.opened)
              (header_by headers.moved.commit) (saving (saved_at before.site done)) (fetched done text)
              (omega (arith, below));
          opened = header_by headers.opened;
          moved = header_by headers.moved.commit;
          phase = saving saved;
          part = after_saving (count_of before.site) done many text;
          names = record {
            stay = λ other. (refl, refl);
            is = (
              open-header sector before old of.working of.stored of.ruled map (fits-by sector seals layout before old of map) headers
                  had.1.0,
              move-header sector before old of.working of.stored of.ruled map (fits-by sector seals layout before old of map) headers
                  had.1.0,
            );
            leads = λ first other. absurd (omega (arith, first, begun));
            keeps = λ first other. absurd (omega (arith, first, begun));
          };
          step = save-step sector seals layout before old of runs
              (atom-here (Save done headers) at tt) new.disk succeeded done below had.3 tells call
              (header_by headers.opened) (header_by headers.moved.commit)
              (saving (saved_at before.site done)) (fetched done text) refl;
          goes = staying seals layout after old new becomes
              (record before { next = after_save before.site done headers }) to of.runs
              (after_save before.site done headers) refl
              (led_by layout before headers (saving saved)
              (after_saving (count_of before.site) done many text))
              (behind-later seals layout before headers known done had.3 some far below) map;
        }

    pub keeps-on : (headers : Headers) → before.next ≡ Keep headers
        → SyncCall old.disk new.disk succeeded → after ≡ record before { next = Open headers }
        → StepsOn (reading_of sizes) seals old new
    unfolding work_by
    keeps-on headers at call to =
        let map = early-map sector seals layout before old of (Keep headers) at tt in
        let had = needs sector seals layout before old of (Keep headers) at in
        let part = first_part before in
        let count = saved_count before.site in
        let any = saved-some before.site.guard before.site.atom (count_of before.site) known had.0 in
        let start : stage_of (stage_in headers.opened.copies) ≡ begun = ap stage_of had.2 in
        record {
          work = led_by layout before headers (saving count) part;
          was = was-by sector seals layout before old of (Keep headers) at;
          unbroken = of.unbroken;
          at_hand = not-at-rest layout before (header_by headers.opened)
              (header_by headers.moved.commit) (saving count) part had.0;
          opened = header_by headers.opened;
          moved = header_by headers.moved.commit;
          phase = opening begun;
          part = part;
          names = record {
            stay = λ other. (refl, refl);
            is = (
              open-header sector before old of.working of.stored of.ruled map (fits-by sector seals layout before old of map) headers
                  had.1.0,
              move-header sector before old of.working of.stored of.ruled map (fits-by sector seals layout before old of map) headers
                  had.1.0,
            );
            leads = λ first other. absurd (omega (arith, first, any));
            keeps = λ first other. absurd (omega (arith, first, any));
          };
          step = calls.keeps part call;
          goes = staying seals layout after old new becomes (record before { next = Open headers })
              to of.runs (Open headers) refl (led_by layout before headers (opening begun) part)
              (ap (λ s. led_by layout before headers (opening s) part) start) map;
        }
