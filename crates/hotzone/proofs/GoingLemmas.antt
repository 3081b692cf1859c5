-- Each step of a zone leads from what is known of it to what is known; the last one leaves it done.
use Rattle.std.proofs.Common.{Some, refl, sym, ap, subst, arith}
use Rattle.std.proofs.Common.{◌≡◌, ◌∙◌, ℕ, ◌+◌, false, List}
use Rattle.crash_laws.specs.HeaderAreas.Commits.{CommitCall}
use Rattle.crash_laws.specs.HeaderAreas.Commits.{begun, second_written, ShowsCommit}
use Rattle.crash_laws.specs.HeaderAreas.Headers.{Header, Layout}
use Rattle.sector_disk.specs.DiskViews.Views.{View}
use Rattle.crash_laws.specs.HotZones.Calls as calls
use Rattle.crash_laws.specs.HotZones.Calls.{ShowsMoved}
use Rattle.crash_laws.specs.HotZones.Promises.{ZoneBegins, ZoneEnds}
use Rattle.crash_laws.specs.HotZones.Zones.{Texts, IsApart, ShowsZone, saving, opening}
use Rattle.crash_laws.specs.HotZones.Zones.{moving}
use Rattle.hotzone.proofs.CallLemmas.{Led, led-on, leads-by, synced-leads}
use Rattle.hotzone.proofs.KnownLemmas.{phase-opened}
use Rattle.hotzone.proofs.KnownLemmas.{phase-saved, phase-written}
use Rattle.hotzone.proofs.GuardLemmas.{first-place, first-start, tell-none}
use Rattle.hotzone.proofs.LawLemmas.{fits-here}
use Rattle.hotzone.specs.Sites.{count_of, kind_of}
use Rattle.volume_machine.specs.Saved.{saved_of}
use Rattle.hotzone.proofs.StepCallLemmas.{tolds, told-on, told-opened, told-written}
use Rattle.hotzone.proofs.LawLemmas.{stage-on, stage-last, named-anew, known-next, known-read}
use Rattle.hotzone.proofs.StepCallLemmas.{IsGiven, zone, Known, Then, here, names, holds, needs, by-call, read-part, save-part, write-part, commit-leads, commit-here, open-room, moved-room, names-saved, holds-first, holds-later, names-opened, holds-opened, names-written, holds-written, open-named, moved-named}
use Rattle.hotzone.specs.Known.{IsAtHand, IsKnown}
use Rattle.hotzone.specs.Known.{header_by}
use Rattle.hotzone.specs.Known.{zone_by}
use Rattle.hotzone.specs.Promises.{IsOver, Leads}
use Rattle.hotzone.specs.Steps.{Goes}
use Rattle.hotzone.specs.Steps.{after_open, after_save, after_write, moved_by}
use Rattle.hotzone.specs.Steps.{begins, reads_first, saves_first, reads, saves, keeps, opens, opened}
use Rattle.hotzone.specs.Steps.{finished, wipes, rests}
use Rattle.hotzone.specs.Steps.{opened_by, resealed}
use Rattle.hotzone.specs.Steps.{reads_again, writes, settles, moves, ends, finishes, finishes_on}
use Rattle.hotzone.specs.declared.worker.NextCall.TheVariants.{Begin, ReadFirst, SaveFirst, Read}
use Rattle.hotzone.specs.declared.worker.NextCall.TheVariants.{Save, Keep, Open, ReadAgain, Write}
use Rattle.hotzone.specs.declared.worker.NextCall.TheVariants.{Settle, Move}
use Rattle.hotzone.specs.declared.worker.NextCall.{NextCall}
use Rattle.hotzone.specs.declared.worker.Stepped.TheVariants.{Went, ZoneDone}
use Rattle.hotzone.specs.declared.worker.Stepped.{Stepped}
use Rattle.hotzone.specs.declared.worker.Worker.{Worker}
use Rattle.luks_store.specs.Copying.Held.{stage_in}
use Rattle.luks_store.specs.Copying.Meanings.{meaning_of}
use Rattle.luks_store.specs.Copying.Seen.{stage_of}
use Rattle.luks_store.specs.declared.copies.Copies.{Copies}
use Rattle.luks_store.specs.declared.loaded.Stored.{Stored}
use Rattle.sector_disk.specs.Devices.{Device, SyncCall, succeeded}
use Rattle.sector_disk.specs.Steps.{Told}
use Rattle.volume_machine.specs.Seals.{Seals}

-- ---- each step
module _ {C : Type 0} {sector : C → ℕ} {seals : Seals} {layout : Layout}
    {first middle moved : Header (List ℕ)} {texts : Texts} {before after : Worker C}
    {old new : Device} {now : Told}
    (given : IsGiven sector seals layout first middle moved texts before after old new now) where
  abbrev over : IsOver sector layout before old
  over = given.over

  abbrev told : new.told ≡ Some now
  told = given.told

  -- ---- each step but the first and the last
  step-on : IsAtHand before.next → Goes seals old new before after Went → Led old now (Then given)
  step-on hand (begins at call to) = absurd (subst IsAtHand at hand)
  step-on hand (reads_first at call read) =
      read-part given ReadFirst SaveFirst 0 at (omega arith) call read refl
      (λ was known i from below. (here given ReadFirst was at known).own.now refl i below)
      (λ was known. tt) (λ was known. tolds given ReadFirst was at known) (λ was known part. part)
  step-on hand (saves_first at tells call headers are fresh to) =
      let start = first-start before.site (fits-here sector layout before old over).known in
      led-on old now (Then given) (save-part given SaveFirst 0 at (needs given SaveFirst at) start
      (ap saving (sym (first-place before.site))) call)
      (λ was is goes_on known.
      let part = holds given SaveFirst was at known in (
        header_by headers.opened,
        header_by headers.moved.commit,
        known-next seals layout first middle moved texts before after was is over.runs known
            (header_by headers.opened) (header_by headers.moved.commit)
            (after_save before.site 0 headers) to
            (names-saved given 0 headers _ _ (refl, refl))
            (told-on given 0 headers was (needs given SaveFirst at) known part
            (tolds given SaveFirst was at known) tells) (holds-first given headers part)
            (subst (λ p. ShowsZone before.site.atom layout
            (zone_by before.site first (header_by headers.opened) (header_by headers.moved.commit))
            texts p false is) (sym (phase-saved before.site 0 headers
            (fits-here sector layout before old over).known start (omega arith)))
            (named-anew layout before.site before.site.atom first middle moved _ _ texts _ false is
            (goes_on known part))),
      ))
  step-on hand (reads done headers at call read) =
      read-part given (Read done headers) (Save done headers) done at
      (let below = (needs given (Read done headers) at).0 in omega (arith, below)) call read refl
      (λ was known i from below. (here given (Read done headers) was at known).own.now refl i below)
      (λ was known. names given (Read done headers) was at known)
      (λ was known. tolds given (Read done headers) was at known)
      (λ was known part. (part, holds given (Read done headers) was at known))
  step-on hand (saves done headers at tells call to) =
      let had = needs given (Save done headers) at in
      led-on old now (Then given)
      (save-part given (Save done headers) done at had.0 had.3 refl call)
      (λ was is goes_on known.
      let held = holds given (Save done headers) was at known in (
        middle,
        moved,
        known-next seals layout first middle moved texts before after was is over.runs known middle moved
            (after_save before.site done headers) to
            (names-saved given done headers _ _ (names given (Save done headers) was at known))
            (told-on given done headers was had.0 known held.0
            (tolds given (Save done headers) was at known) tells)
            (holds-later given done headers held.1)
            (subst (λ p. ShowsZone before.site.atom layout (zone given) texts p false is)
            (sym (phase-saved before.site done headers
            (fits-here sector layout before old over).known had.3
            (let below = had.0 in omega (arith, below)))) (goes_on known held.0)),
      ))
  step-on hand (keeps headers at call to) =
      led-on old now (Then given) (synced-leads old new now call told)
      (λ was is synced known. (
        middle,
        moved,
        known-next seals layout first middle moved texts before after was is over.runs known middle moved
            (Open headers) to (names given (Keep headers) was at known)
            (tolds given (Keep headers) was at known)
            (holds given (Keep headers) was at known)
            (subst (λ s. ShowsZone before.site.atom layout (zone given) texts (opening (stage_of s)) false is)
            (sym (needs given (Keep headers) at).2)
            (by-call given was is _ _ known (calls.keeps synced) (here given (Keep headers) was at known))),
      ))
  step-on hand (opens headers commit at call on far to) =
      let had = needs given (Open headers) at in
      led-on old now (Then given) (commit-leads given headers.opened (open-room given headers had.1.0) call)
      (λ was is called known.
      let named = names given (Open headers) was at known in (
        middle,
        moved,
        known-next seals layout first middle moved texts before after was is over.runs known middle moved
            (Open (opened_by headers commit)) to (open-named given headers commit on.same named)
            (tolds given (Open headers) was at known)
            (holds given (Open headers) was at known)
            (subst (λ s. ShowsZone before.site.atom layout (zone given) texts (opening s) false is)
            (stage-on (stage_in headers.opened.copies) far (had.2 over.runs)
            ∙ ap stage_of (sym on.stage))
            (by-call given was is _ _ known
            (calls.opens _ (stage-last (stage_in headers.opened.copies) far (had.2 over.runs))
            (commit-here given headers.opened middle _ was is named.0 called))
            (here given (Open headers) was at known))),
      ))
  step-on hand (opened headers commit at call on last to) =
      let had = needs given (Open headers) at in
      led-on old now (Then given) (commit-leads given headers.opened (open-room given headers had.1.0) call)
      (λ was is called known.
      let named = names given (Open headers) was at known in (
        middle,
        moved,
        known-next seals layout first middle moved texts before after was is over.runs known middle moved
            (after_open before.site (opened_by headers commit)) to
            (names-opened given (opened_by headers commit) (open-named given headers commit on.same named))
            (told-opened given (opened_by headers commit) (tolds given (Open headers) was at known))
            (holds-opened given (opened_by headers commit) (holds given (Open headers) was at known))
            (subst (λ p. ShowsZone before.site.atom layout (zone given) texts p false is)
            (sym (phase-opened before.site (opened_by headers commit)))
            (by-call given was is _ _ known
            (calls.opened (subst (λ s. CommitCall before.site.atom layout middle (stage_of s) was
            is) last (commit-here given headers.opened middle _ was is named.0 called)))
            (subst (λ s. ShowsZone before.site.atom layout (zone given) texts (opening (stage_of s)) false
            was) last (here given (Open headers) was at known)))),
      ))
  step-on hand (reads_again done headers at call read) =
      read-part given (ReadAgain done headers) (Write done headers) done at
      (let below = (needs given (ReadAgain done headers) at).0 in omega (arith, below)) call read refl
      (λ was known i from below.
      ((here given (ReadAgain done headers) was at known).own.now refl i below).1 from)
      (λ was known. names given (ReadAgain done headers) was at known)
      (λ was known. tolds given (ReadAgain done headers) was at known) (λ was known part. part)
  step-on hand (writes done headers at call read) =
      led-on old now (Then given) (write-part given done headers at (needs given (Write done headers) at).0 call)
      (λ was is goes_on known. (
        middle,
        moved,
        known-read seals layout first middle moved texts before after was is over.runs known
            (after_write before.site done headers) read
            (names-written given done headers (names given (Write done headers) was at known))
            (told-written given done headers (tolds given (Write done headers) was at known))
            (holds-written given done headers)
            (subst (λ p. ShowsZone before.site.atom layout (zone given) texts p false is)
            (sym (phase-written before.site done headers)) (goes_on known)),
      ))
  step-on hand (settles headers at call to) =
      led-on old now (Then given) (synced-leads old new now call told)
      (λ was is synced known. (
        middle,
        moved,
        known-next seals layout first middle moved texts before after was is over.runs known middle moved
            (Move headers) to (names given (Settle headers) was at known)
            (tolds given (Settle headers) was at known) tt
            (subst (λ s. ShowsZone before.site.atom layout (zone given) texts (moving (stage_of s)) false is)
            (sym (needs given (Settle headers) at).1.1)
            (by-call given was is _ _ known (calls.settles synced) (here given (Settle headers) was at known))),
      ))
  step-on hand (moves headers commit at call on far to) =
      let had = needs given (Move headers) at in
      led-on old now (Then given) (commit-leads given headers.moved.commit (moved-room given headers had.1) call)
      (λ was is called known.
      let named = names given (Move headers) was at known in (
        middle,
        moved,
        known-next seals layout first middle moved texts before after was is over.runs known middle moved
            (Move (moved_by headers commit)) to (moved-named given headers commit on.same named)
            (tolds given (Move headers) was at known) tt
            (subst (λ s. ShowsZone before.site.atom layout (zone given) texts (moving s) false is)
            (stage-on (stage_in headers.moved.commit.copies) far (had.2 over.runs)
            ∙ ap stage_of (sym on.stage))
            (by-call given was is _ _ known
            (calls.moves _ (stage-last (stage_in headers.moved.commit.copies) far (had.2 over.runs))
            (commit-here given headers.moved.commit moved _ was is named.1 called))
            (here given (Move headers) was at known))),
      ))
  step-on hand (finishes ending commit at are call on to) = absurd (subst IsAtHand at hand)
  step-on hand (finishes_on ending commit at call on far to) = absurd (subst IsAtHand at hand)
  step-on hand (finished ending commit at call on last to) = absurd (subst IsAtHand at hand)
  step-on hand (wipes done areas at call to) = absurd (subst IsAtHand at hand)

  pub step-goes : IsAtHand before.next → Goes seals old new before after Went
      → Leads old now (Then given)
  step-goes hand made = leads-by old now (Then given) (step-on hand made)

  -- ---- the last one
  abbrev Ended_by : View → View → Type 0
  Ended_by was is =
      Known given was
      → ShowsMoved before.site.atom layout (zone given) texts (zone given).own is
      × (moved.means ≡ meaning_of after.loaded.copies.used.bytes)

  pub step-ends : ZoneEnds → Goes seals old new before after ZoneDone
      → Leads old now Ended_by
  step-ends ending (ends headers at call last has) =
      let had = needs given (Move headers) at in
      let are = had.1 in
      leads-by old now Ended_by (led-on old now Ended_by
      (commit-leads given headers.moved.commit (moved-room given headers are) call)
      (λ was is called known.
      let named = (names given (Move headers) was at known).1 in (
        ending before.site.atom layout (zone given) texts (moving second_written) was is refl
            (subst (λ s. ShowsZone before.site.atom layout (zone given) texts (moving (stage_of s)) false was)
            last (here given (Move headers) was at known))
            (subst (λ s. CommitCall before.site.atom layout moved (stage_of s) was is) last
            (commit-here given headers.moved.commit moved _ was is named called)),
        ap (λ (h : Header (List ℕ)). h.means) named
            ∙ ap meaning_of (are.follows.same.primary
            ∙ sym (ap (λ (c : Copies). c.used.bytes) are.follows.loaded.copies)
            ∙ sym (ap (λ (s : Stored). s.copies.used.bytes) has.loaded)),
      )))

  -- ---- the first one
  abbrev BeginsBy : NextCall → Type 0
  BeginsBy Begin = SyncCall old new succeeded × (after ≡ record before { next = ReadFirst })
  BeginsBy _ = Unit {0}

  begins-by : (stepped : Stepped) → Goes seals old new before after stepped → BeginsBy before.next
  begins-by stepped (begins at call to) = subst BeginsBy (sym at) (call, to)
  begins-by stepped (reads_first at call read) = subst BeginsBy (sym at) tt
  begins-by stepped (saves_first at tells call headers are fresh to) = subst BeginsBy (sym at) tt
  begins-by stepped (reads done headers at call read) = subst BeginsBy (sym at) tt
  begins-by stepped (saves done headers at tells call to) = subst BeginsBy (sym at) tt
  begins-by stepped (keeps headers at call to) = subst BeginsBy (sym at) tt
  begins-by stepped (opens headers commit at call on far to) = subst BeginsBy (sym at) tt
  begins-by stepped (opened headers commit at call on last to) = subst BeginsBy (sym at) tt
  begins-by stepped (reads_again done next at call read) = subst BeginsBy (sym at) tt
  begins-by stepped (writes done next at call read) = subst BeginsBy (sym at) tt
  begins-by stepped (settles next at call to) = subst BeginsBy (sym at) tt
  begins-by stepped (moves next commit at call on far to) = subst BeginsBy (sym at) tt
  begins-by stepped (ends next at call last has) = subst BeginsBy (sym at) tt
  begins-by stepped (finishes ending commit at are call on to) = subst BeginsBy (sym at) tt
  begins-by stepped (finishes_on ending commit at call on far to) = subst BeginsBy (sym at) tt
  begins-by stepped (finished ending commit at call on last to) = subst BeginsBy (sym at) tt
  begins-by stepped (wipes done areas at call to) = subst BeginsBy (sym at) tt
  begins-by stepped (rests ending at call to) = subst BeginsBy (sym at) tt

  -- the atoms that a table holds now, and what they become
  abbrev texts_in : View → Texts
  texts_in was = record {
    old = λ i. was.current (before.site.own + i);
    new = λ i. resealed seals (before.site.blocks.start + i) (was.current (before.site.own + i));
    saved = saved_of (kind_of before.site.guard) before.site.atom (count_of before.site)
        (λ i. was.current (before.site.own + i));
  }

  abbrev Begun_by : View → View → Type 0
  Begun_by was is =
      ((to : Header (List ℕ)) → ShowsCommit before.site.atom layout first to begun false was)
      → (atoms : Texts) × IsKnown seals layout first first first atoms after is

  pub step-begins : ZoneBegins → (stepped : Stepped) → before.next ≡ Begin
      → first.means ≡ meaning_of before.loaded.copies.used.bytes
      → IsApart layout (zone_by before.site first first first)
      → Goes seals old new before after stepped
      → Leads old now Begun_by
  step-begins beginning stepped at means apart made =
      let by = subst BeginsBy at (begins-by stepped made) in
      leads-by old now Begun_by (led-on old now Begun_by (synced-leads old new now by.0 told)
      (λ was is synced shown. (
        texts_in was,
        subst (λ w. IsKnown seals layout first first first (texts_in was) w is) (sym by.1) (record {
          means = means;
          headers = tt;
          apart = apart;
          texts_are = record { new = λ i below. refl; saved = λ i. refl };
          told = tell-none before.site.guard (texts_in was);
          part = tt;
          shows =
              beginning before.site.atom layout (zone_by before.site first first first)
              (texts_in was) (saving 0) was is refl (λ i below. refl) (shown first) synced;
        }),
      )))
