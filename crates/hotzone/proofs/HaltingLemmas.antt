-- A step that isn't made, or has failed, leaves what a stop may leave of the zone.
use Rattle.std.proofs.Common.{Some, refl, sym, ap, subst, arith}
use Rattle.std.proofs.Common.{◌≡◌, ◌∙◌, ℕ, ◌+◌, ◌*◌, ◌<◌, ◌≤◌, true, false, List}
use Rattle.crash_laws.specs.HeaderAreas.Commits.{CommitFails}
use Rattle.crash_laws.specs.HeaderAreas.Commits.{Stage as CommitStage}
use Rattle.crash_laws.specs.HeaderAreas.Headers.{Header, Layout}
use Rattle.sector_disk.specs.DiskViews.Views.{View, IsTried, view_of_cells}
use Rattle.crash_laws.specs.HotZones.Calls as calls
use Rattle.crash_laws.specs.HotZones.Calls.{ZoneFault}
use Rattle.crash_laws.specs.HotZones.Promises.{ZoneGoes}
use Rattle.crash_laws.specs.HotZones.Zones.{Phase, Texts, ShowsZone, saving}
use Rattle.crash_laws.specs.HotZones.Zones.{writing}
use Rattle.hotzone.proofs.CallLemmas.{Led, led-on, leads-by}
use Rattle.hotzone.proofs.CallLemmas.{thinned-leads, tried-if, unread-leads}
use Rattle.hotzone.proofs.KnownLemmas.{SealRuns}
use Rattle.hotzone.proofs.KnownLemmas.{tries-part, tries-save}
use Rattle.hotzone.proofs.GuardLemmas.{first-place, first-start, saved_part}
use Rattle.hotzone.proofs.LawLemmas.{fits-here, some-here, some-part, text-long}
use Rattle.hotzone.proofs.StepCallLemmas.{IsGiven, zone, Known, here, names, holds, needs, open-room, moved-room, open-named, moved-named}
use Rattle.hotzone.proofs.WorkingLemmas.{halted-as}
use Rattle.hotzone.specs.Known.{HoldsPart, IsAtHand}
use Rattle.hotzone.specs.Known.{NamesHeaders, halted_in, header_by, part_of, phase_in}
use Rattle.hotzone.specs.Known.{phase_of, zone_by}
use Rattle.hotzone.specs.Promises.{IsOver, Leads}
use Rattle.hotzone.specs.Sites.{IsPartStart, count_of, part_at, saved_at}
use Rattle.hotzone.specs.Steps.{Commits, ReadsPart, SavesPart, Stops, WritesPart}
use Rattle.hotzone.specs.Steps.{IsStopped, moved_by}
use Rattle.hotzone.specs.Steps.{finish_refuses, finish_fails, end_fails, wipe_fails, rest_fails}
use Rattle.hotzone.specs.Steps.{opened_by, resealed}
use Rattle.hotzone.specs.Steps.{read_again_fails, write_fails, settle_fails, move_fails}
use Rattle.hotzone.specs.Steps.{clashes_first, clashes, refuses, begin_fails, read_first_fails}
use Rattle.hotzone.specs.Steps.{save_first_fails, read_fails, save_fails, keep_fails, open_fails}
use Rattle.hotzone.specs.declared.worker.Halt.TheVariants.{Failed, GivenUp}
use Rattle.hotzone.specs.declared.worker.Halt.{Halt}
use Rattle.hotzone.specs.declared.worker.Headers.{Headers}
use Rattle.hotzone.specs.declared.worker.NextCall.TheVariants.{ReadFirst, SaveFirst, Read}
use Rattle.hotzone.specs.declared.worker.NextCall.TheVariants.{Save, Keep, Open, ReadAgain, Write}
use Rattle.hotzone.specs.declared.worker.NextCall.TheVariants.{Settle, Move}
use Rattle.hotzone.specs.declared.worker.NextCall.{NextCall}
use Rattle.hotzone.specs.declared.worker.Worker.{Worker}
use Rattle.hotzone.specs.declared.worker.ZoneFault.{ZoneFault as ZoneFailure}
use Rattle.luks_store.specs.Copying.Held.{primary_of, secondary_of, stage_in}
use Rattle.luks_store.specs.Copying.Seen.{CallsAreSeen, HasRoomFor, stage_of}
use Rattle.luks_store.specs.declared.commit.Prepared.{Prepared}
use Rattle.sector_disk.specs.Devices.{Device, SyncCall, failed_call}
use Rattle.sector_disk.specs.Steps.{Told}
use Rattle.segment_map.specs.declared.Side.TheVariants.{Old}
use Rattle.volume_machine.specs.Seals.{Seals}

-- ---- each step
module _ {C : Type 0} {sector : C → ℕ} {seals : Seals} {layout : Layout}
    {first middle moved : Header (List ℕ)} {texts : Texts} {before after : Worker C}
    {old new : Device} {now : Told}
    (given : IsGiven sector seals layout first middle moved texts before after old new now) where
  abbrev goes : ZoneGoes
  goes = given.goes

  abbrev seen : CallsAreSeen
  seen = given.seen

  abbrev over : IsOver sector layout before old
  over = given.over

  abbrev told : new.told ≡ Some now
  told = given.told

  abbrev runs : SealRuns before.site.atom seals
  runs = given.runs

  -- ---- one that isn't made, or has failed
  -- what is left of the zone by a worker
  abbrev Leaves : Worker C → View → Type 0
  Leaves w is =
      ShowsZone w.site.atom layout (zone_by w.site first middle moved) texts (phase_of w) true is
      × NamesHeaders w.next middle moved

  abbrev Stopped : View → View → Type 0
  Stopped was is = Known given was → Leaves after is

  stops-by : (next : NextCall) (halt : Halt) (is : View) → IsStopped before after next halt
      → ShowsZone before.site.atom layout (zone given) texts (halted_in before.site next (Some halt)) true is
      → NamesHeaders next middle moved → Leaves after is
  stops-by next halt is stop shows named =
      subst (λ w. Leaves w is) (sym stop.is) (shows, named)

  by-fault : (was is : View) (phase next : Phase) → Known given was
      → ZoneFault before.site.atom layout (zone given) texts was is phase next
      → ShowsZone before.site.atom layout (zone given) texts phase false was
      → ShowsZone before.site.atom layout (zone given) texts next true is
  by-fault was is phase next known call shows =
      (goes before.site.atom layout (zone given) texts phase next was is known.apart shows).1 call

  -- of any call but a commit's the zone is as far as it was
  abbrev IsAsFar : NextCall → Halt → Type 0
  IsAsFar next halt = halted_in before.site next (Some halt) ≡ phase_in before.site next

  as-far : (next : NextCall) (halt : Halt) (was is : View) → before.next ≡ next
      → IsStopped before after next halt → IsAsFar next halt → Known given was
      → ShowsZone before.site.atom layout (zone given) texts (phase_in before.site next) true is
      → Leaves after is
  as-far next halt was is at stop same known shows =
      stops-by next halt is stop
      (subst (λ p. ShowsZone before.site.atom layout (zone given) texts p true is) (sym same) shows)
      (names given next was at known)

  sync-stops : (next : NextCall) (halt : Halt) → before.next ≡ next
      → IsStopped before after next halt → IsAsFar next halt
      → SyncCall old new failed_call → Led old now Stopped
  sync-stops next halt at stop same call =
      led-on old now Stopped (thinned-leads old new now call told)
      (λ was is thinned known.
      as-far next halt was is at stop same known
      (by-fault was is _ _ known (calls.sync_fails _ thinned) (here given next was at known)))

  -- a read leaves all as it was, also one that failed
  read-stops : (next : NextCall) (halt : Halt) (done : ℕ) → before.next ≡ next
      → IsStopped before after next halt → IsAsFar next halt
      → ReadsPart before done after.buffer old new failed_call → Led old now Stopped
  read-stops next halt done at stop same call =
      led-on old now Stopped (unread-leads old new now _ _ failed_call call told)
      (λ was is kept known.
      as-far next halt was is at stop same known
      (by-fault was is _ _ known (calls.sync_fails _ kept.candidates) (here given next was at known)))

  save-stops : (next : NextCall) (done : ℕ) → before.next ≡ next
      → IsStopped before after next Failed → IsAsFar next Failed → done < count_of before.site
      → IsPartStart before.site done → phase_in before.site next ≡ saving (saved_at before.site done)
      → ((was : View) → Known given was → HoldsPart before.site before.buffer texts done)
      → SavesPart before done old new failed_call → Led old now Stopped
  save-stops next done at stop same below start phase held call =
      let fits = fits-here sector layout before old over in
      let some = some-part sector layout before old over done below in
      let within : done ≤ count_of before.site = omega (arith, below) in
      led-on old now Stopped
      (tried-if old new now (before.site.store + saved_at before.site done)
      (saved_part before.site done) call.text (some-here sector layout before old over) call.call told)
      (λ was is tried known.
      as-far next Failed was is at stop same known
      (subst (λ p. ShowsZone before.site.atom layout (zone given) texts p true is) (sym phase)
      (by-fault was is (saving (saved_at before.site done)) (saving (saved_at before.site done)) known
      (calls.save_fails (saved_at before.site done) (saved_part before.site done)
      (tries-save seals layout first middle moved texts before.site before.buffer done call.text was is
      fits.known start some within known.texts_are (held was known) call.is
      (subst (λ a. IsTried a (before.site.store + saved_at before.site done)
      (saved_part before.site done) call.text was is) (sym fits.size)
      (tried (text-long sector layout before old over done call.text call.is)))))
      (subst (λ p. ShowsZone before.site.atom layout (zone given) texts p false was) phase
      (here given next was at known)))))

  -- no call is made
  unmade-stops : (next : NextCall) (halt : Halt) → before.next ≡ next
      → IsStopped before after next halt → IsAsFar next halt → new ≡ old → Led old now Stopped
  unmade-stops next halt at stop far same =
      let view = view_of_cells now.now in
      record {
        was = now;
        told = sym (ap (λ (d : Device). d.told) same) ∙ told;
        step = λ known. as-far next halt view view at stop far known
            (by-fault view view _ _ known (calls.sync_fails _ (λ place value has. has))
            (here given next view at known));
      }

  write-stops : (done : ℕ) (headers : Headers) → before.next ≡ Write done headers
      → IsStopped before after (Write done headers) Failed
      → done < count_of before.site → WritesPart seals before done old new failed_call
      → Led old now Stopped
  write-stops done headers at stop below call =
      let fits = fits-here sector layout before old over in
      let some = some-part sector layout before old over done below in
      let within : done ≤ count_of before.site = omega (arith, below) in
      let bytes = part_of before.site before.buffer done in
      let start = before.site.blocks.start + done in
      led-on old now Stopped
      (tried-if old new now (before.site.own + done) (part_at before.site done) _
      (some-here sector layout before old over) call told)
      (λ was is tried known.
      let part = holds given (Write done headers) was at known in
      as-far (Write done headers) Failed was is at stop refl known
      (by-fault was is (writing done) (writing done) known
      (calls.write_fails done (part_at before.site done)
      (tries-part seals layout first middle moved texts before.site before.buffer done was is runs
      some within known.texts_are part
      (subst (λ a. IsTried a (before.site.own + done) (part_at before.site done)
      (resealed seals start bytes) was is) (sym fits.size)
      (tried ((runs.keeps start _ _ (runs.lawful.keeps_opened Old start _ bytes part.blocks)).size
      ∙ ap (λ a. part_at before.site done * a) fits.size)))))
      (here given (Write done headers) was at known)))

  fail-here : (commit : Prepared) (header : Header (List ℕ)) (stage : CommitStage)
      (was is : View) → header ≡ header_by commit
      → CommitFails old.size layout (header_by commit) stage was is
      → CommitFails before.site.atom layout header stage was is
  fail-here commit header stage was is same call =
      subst (λ h. CommitFails before.site.atom layout h stage was is) (sym same)
      (subst (λ a. CommitFails a layout (header_by commit) stage was is)
      (sym (fits-here sector layout before old over).size) call)

  fail-leads : (commit : Prepared)
      → HasRoomFor commit.header.hdr_size (primary_of commit.copies) (secondary_of commit.copies)
      layout old
      → Commits commit old new failed_call
      → Led old now
      (CommitFails old.size layout (header_by commit) (stage_of (stage_in commit.copies)))
  fail-leads commit room call =
      let led = (seen (stage_in commit.copies) _ _ _ layout old new now room told).1 call in
      record { was = led.0; told = led.1; step = led.2 }

  stops-on : (fault : ZoneFailure) → IsAtHand before.next → Stops seals old new before after fault
      → Led old now Stopped
  stops-on fault hand (clashes_first _ _ at clash same stop) =
      unmade-stops SaveFirst GivenUp at (halted-as before after _ _ stop) refl same
  stops-on fault hand (clashes done headers _ _ at clash same stop) =
      unmade-stops (Save done headers) GivenUp at (halted-as before after _ _ stop) refl same
  stops-on fault hand (refuses _ at tells unmade same stop) =
      unmade-stops SaveFirst GivenUp at (halted-as before after _ _ stop) refl same
  stops-on fault hand (begin_fails at call stop) = absurd (subst IsAtHand at hand)
  stops-on fault hand (read_first_fails at call stop) =
      read-stops ReadFirst GivenUp 0 at stop refl call
  stops-on fault hand (save_first_fails at tells call stop) =
      save-stops SaveFirst 0 at (halted-as before after _ _ stop) refl (needs given SaveFirst at)
      (first-start before.site (fits-here sector layout before old over).known)
      (ap saving (sym (first-place before.site)))
      (λ was known. holds given SaveFirst was at known) call
  stops-on fault hand (read_fails done headers at call stop) =
      read-stops (Read done headers) GivenUp done at stop refl call
  stops-on fault hand (save_fails done headers at tells call stop) =
      save-stops (Save done headers) done at (halted-as before after _ _ stop) refl
      (needs given (Save done headers) at).0 (needs given (Save done headers) at).3 refl
      (λ was known. (holds given (Save done headers) was at known).0) call
  stops-on fault hand (keep_fails headers at call stop) =
      sync-stops (Keep headers) Failed at (halted-as before after _ _ stop) refl call
  stops-on fault hand (open_fails headers commit at call on stop) =
      let had = needs given (Open headers) at in
      led-on old now Stopped (fail-leads headers.opened (open-room given headers had.1.0) call)
      (λ was is called known.
      let named = names given (Open headers) was at known in
      stops-by (Open (opened_by headers commit)) _ is (halted-as before after _ _ stop)
      (by-fault was is _ _ known
      (calls.open_fails _ (fail-here headers.opened middle _ was is named.0 called))
      (here given (Open headers) was at known))
      (open-named given headers commit on.same named))
  stops-on fault hand (read_again_fails done headers at call stop) =
      read-stops (ReadAgain done headers) Failed done at stop refl call
  stops-on fault hand (write_fails done headers at call stop sealed) =
      write-stops done headers at stop (needs given (Write done headers) at).0 call
  stops-on fault hand (settle_fails headers at call stop) =
      sync-stops (Settle headers) Failed at (halted-as before after _ _ stop) refl call
  stops-on fault hand (move_fails headers commit at call on stop) =
      let had = needs given (Move headers) at in
      led-on old now Stopped (fail-leads headers.moved.commit (moved-room given headers had.1) call)
      (λ was is called known.
      let named = names given (Move headers) was at known in
      stops-by (Move (moved_by headers commit)) _ is (halted-as before after _ _ stop)
      (by-fault was is _ _ known
      (calls.move_fails _ (fail-here headers.moved.commit moved _ was is named.1 called))
      (here given (Move headers) was at known))
      (moved-named given headers commit on.same named))
  stops-on fault hand (finish_refuses _ at unmade same stop) = absurd (subst IsAtHand at hand)
  stops-on fault hand (finish_fails ending commit at are call on stop) =
      absurd (subst IsAtHand at hand)
  stops-on fault hand (end_fails ending commit at call on stop) = absurd (subst IsAtHand at hand)
  stops-on fault hand (wipe_fails done ending at call stop) = absurd (subst IsAtHand at hand)
  stops-on fault hand (rest_fails ending at call stop) = absurd (subst IsAtHand at hand)

  pub step-stops : (fault : ZoneFailure) → IsAtHand before.next
      → Stops seals old new before after fault → Leads old now Stopped
  step-stops fault hand made = leads-by old now Stopped (stops-on fault hand made)
