-- Each step by which a zone is written again leads from what is known of it to what is known.
use Rattle.std.proofs.Common.{◌≡◌, ◌≢◌, ◌∙◌, ℕ, ◌+◌, ◌*◌, ◌<◌, ◌≤◌, ◌==◌, Bool, true, false}
use Rattle.std.proofs.Common.{List, length, Result, Some, refl, sym, ap, subst, arith, cond}
use Rattle.base_terms.specs.declared.failed.Failed.{Failed as Failure}
use Rattle.crash_laws.specs.HeaderAreas.Commits.{CommitCall, CommitFails, second_written}
use Rattle.crash_laws.specs.HeaderAreas.Headers.{Header, IsHeader, Layout}
use Rattle.sector_disk.specs.DiskViews.Parts.{AreBlocks, block_at}
use Rattle.sector_disk.specs.DiskViews.Views.{View, IsSynced, IsTried, IsWritten, view_of_cells}
use Rattle.crash_laws.specs.HotZones.Calls.{CallBeside, IsSettled, ZoneCall, ZoneFault}
use Rattle.crash_laws.specs.HotZones.Calls as calls
use Rattle.crash_laws.specs.HotZones.Promises.{ZoneEnds, ZoneGoes, ZoneStays}
use Rattle.crash_laws.specs.HotZones.Standing.{IsKept}
use Rattle.crash_laws.specs.HotZones.Zones.{Hotzone, Is, Phase, Texts, IsApart, ShowsZone, found_by}
use Rattle.crash_laws.specs.HotZones.Zones.{mending, moving}
use Rattle.hotzone.proofs.CallLemmas.{HasGot, Led, led-on, leads-by, read-leads, synced-leads}
use Rattle.hotzone.proofs.CallLemmas.{thinned-leads, tried-if, unread-leads, written-if}
use Rattle.hotzone.proofs.GuardLemmas.{saved-within, saved_part}
use Rattle.hotzone.proofs.KnownLemmas.{SealRuns, got-part, part-fits}
use Rattle.hotzone.proofs.LawLemmas.{room-for, stage-last, stage-on}
use Rattle.hotzone.specs.Headings.{IsSame}
use Rattle.hotzone.specs.Known.{HoldsPart, header_by, part_of}
use Rattle.hotzone.specs.Promises.{Leads}
use Rattle.hotzone.specs.Sites.{bytes_at, count_of, kind_of, part_at, saved_at}
use Rattle.hotzone.specs.Steps.{Commits}
use Rattle.hotzone.specs.declared.site.Guard.{Guard}
use Rattle.hotzone.specs.declared.site.Guard.TheVariants as guards
use Rattle.hotzone.specs.declared.site.Site.{Site}
use Rattle.luks_store.specs.Copying.Held.{primary_of, secondary_of, stage_in}
use Rattle.luks_store.specs.Copying.Meanings.{header_of, header_reader, meaning_of}
use Rattle.luks_store.specs.Copying.Seen.{CallsAreSeen, HasRoomFor, stage_of}
use Rattle.luks_store.specs.Copying.Steps.{next_of}
use Rattle.luks_store.specs.declared.header_copies.commit.Stage.{Stage}
use Rattle.luks_store.specs.declared.header_copies.commit.Stage.TheVariants.{SecondWritten}
use Rattle.luks_store.specs.declared.commit.Prepared.{Prepared}
use Rattle.luks_store.specs.declared.copies.Copies.{Copies}
use Rattle.sector_disk.specs.Devices.{Device, ReadCall, failed_call, succeeded}
use Rattle.sector_disk.specs.Steps.{Told}
use Rattle.volume_machine.specs.Saved.{saved_hash}
use Rattle.volume_machine.specs.Seals.{Seals}
use Rattle.zone_mending.proofs.ElsewhereLemmas.{stays-committed, stays-synced, stays-thinned}
use Rattle.zone_mending.proofs.ElsewhereLemmas.{stays-torn, stays-tried, stays-unchanged}
use Rattle.zone_mending.proofs.ElsewhereLemmas.{stays-written}
use Rattle.zone_mending.proofs.FoundLemmas.{anew-block, anew-long, found-either, holds-digests}
use Rattle.zone_mending.proofs.FoundLemmas.{tell-by}
use Rattle.zone_mending.proofs.MenderLemmas.{all-saved, atoms-fit, digests-long, fits-disk}
use Rattle.zone_mending.proofs.MenderLemmas.{own-fits, part-long, phase-written, some-here}
use Rattle.zone_mending.proofs.MenderLemmas.{some-part, store-fits}
use Rattle.zone_mending.specs.Elsewhere.{StaysElsewhere}
use Rattle.zone_mending.specs.Known.{HasTexts, HoldsBy, HoldsFor, HoldsFound, IsKnown}
use Rattle.zone_mending.specs.Known.{IsThrough}
use Rattle.zone_mending.specs.Known.{failed_by, failed_in, mended_zone, phase_by, zone_in}
use Rattle.zone_mending.specs.Menders.{FitsDisk, Needs, after_write, stage_of_move}
use Rattle.zone_mending.specs.Promises.{IsOver}
use Rattle.zone_mending.specs.Steps.{Fails, Goes, HasFilled, HasLaid, ReadsDigests, ReadsOwn}
use Rattle.zone_mending.specs.Steps.{ReadsSaved, WritesAgain, committed_to, digests_of}
use Rattle.zone_mending.specs.Steps.{reads, lays, finds, writes, settles, moves, ends, read_fails}
use Rattle.zone_mending.specs.Steps.{lay_fails, find_fails, write_fails, settle_fails, move_fails}
use Rattle.zone_mending.specs.declared.mender.MendCall.{MendCall}
use Rattle.zone_mending.specs.declared.mender.MendCall.TheVariants.{ReadSaved, ReadOwn, Write}
use Rattle.zone_mending.specs.declared.mender.MendCall.TheVariants.{Settle, Move}
use Rattle.zone_mending.specs.declared.mender.Mender.{Mender}

-- a commit with one call more is of the same header
pub same-header : (one two : Prepared) → IsSame one two → header_by two ≡ header_by one
same-header one two same = λ i. header_of (same.primary i) (same.secondary i)

-- ---- by journal each old atom is saved
old-saved : (g : Guard) (zone : Hotzone (List ℕ)) (texts : Texts) (i : ℕ) → g ≡ guards.Journal
    → IsKept (kind_of g) saved_hash zone texts → i < zone.own.count → texts.saved i ≡ texts.old i
old-saved guards.Journal zone texts i by kept below = kept.are i below
old-saved guards.Checksum zone texts i by kept below = absurd cc

by-journal : (g : Guard) (site : Site) (buffer digests : List ℕ) (texts : Texts) (done : ℕ)
    → g ≡ guards.Journal → HoldsPart site buffer texts done
    → HoldsBy g site buffer digests texts done
by-journal guards.Journal site buffer digests texts done by part = part
by-journal guards.Checksum site buffer digests texts done by part = absurd cc

by-checksum : (g : Guard) (site : Site) (buffer digests : List ℕ) (texts : Texts) (done : ℕ)
    → g ≡ guards.Checksum → HoldsFound site buffer digests texts done
    → HoldsBy g site buffer digests texts done
by-checksum guards.Journal site buffer digests texts done by part = absurd cc
by-checksum guards.Checksum site buffer digests texts done by part = part

-- ---- each step
module _ {C : Type 0} (sector : C → ℕ) (seals : Seals) (goes : ZoneGoes) (stays : ZoneStays)
    (seen : CallsAreSeen) (layout : Layout) (opened : Header (List ℕ)) (texts : Texts)
    (before after : Mender C) (old new : Device) (now : Told)
    (over : IsOver sector layout before old) (told : new.told ≡ Some now)
    (runs : SealRuns before.site.atom seals) where
  abbrev zone : Hotzone (List ℕ)
  zone = zone_in before opened

  abbrev count : ℕ
  count = count_of before.site

  abbrev guard : Guard
  guard = before.site.guard

  abbrev stage : Stage
  stage = stage_of_move before

  abbrev Known : View → Type 0
  Known was = IsKnown seals layout opened texts before was

  abbrev Stays : Bool → View → View → Type 0
  Stays broken was is = StaysElsewhere layout zone broken was is

  abbrev Then : View → View → Type 0
  Then was is = Known was → IsKnown seals layout opened texts after is × Stays false was is

  abbrev Shown : Phase → Bool → View → Type 0
  Shown phase broken was = ShowsZone before.site.atom layout zone texts phase broken was

  fits : FitsDisk sector before old
  fits = fits-disk sector before old over.mends over.sizes

  -- what is known by the call that comes next
  here : (next : MendCall) (was : View) → before.next ≡ next → Known was
      → Shown (phase_by count stage next) false was
  here next was at known = subst (λ n. Shown (phase_by count stage n) false was) at known.shows

  needs : (next : MendCall) → before.next ≡ next → Needs before.site stage next
  needs next at = subst (Needs before.site stage) at over.mends.next

  holds-for : (next : MendCall) (was : View) → before.next ≡ next → Known was
      → HoldsFor before.site before.buffer before.digests texts next
  holds-for next was at known =
      subst (HoldsFor before.site before.buffer before.digests texts) at known.part

  by-call : (was is : View) (phase next : Phase) → Known was
      → ZoneCall before.site.atom layout zone texts was is phase next
      → Shown phase false was → Shown next false is
  by-call was is phase next known call shows =
      (goes before.site.atom layout zone texts phase next was is known.apart shows).0 call

  by-fault : (was is : View) (phase next : Phase) → Known was
      → ZoneFault before.site.atom layout zone texts was is phase next
      → Shown phase false was → Shown next true is
  by-fault was is phase next known call shows =
      (goes before.site.atom layout zone texts phase next was is known.apart shows).1 call

  -- the buffer has other bytes
  known-filled : (next : MendCall) (was is : View) → HasFilled before after next → Known was
      → HoldsFor before.site after.buffer before.digests texts next
      → Shown (phase_by count stage next) false is
      → IsKnown seals layout opened texts after is
  known-filled next was is filled known part shows =
      subst (λ m. IsKnown seals layout opened texts m is) (sym filled.is) (record {
        means = known.means;
        is_header = known.is_header;
        next_header = known.next_header;
        apart = known.apart;
        texts_are = known.texts_are;
        part = part;
        shows = shows;
      })

  -- the digests are others
  known-laid : (next : MendCall) (was is : View) → HasLaid before after next → Known was
      → HoldsFor before.site before.buffer after.digests texts next
      → Shown (phase_by count stage next) false is
      → IsKnown seals layout opened texts after is
  known-laid next was is laid known part shows =
      subst (λ m. IsKnown seals layout opened texts m is) (sym laid.is) (record {
        means = known.means;
        is_header = known.is_header;
        next_header = known.next_header;
        apart = known.apart;
        texts_are = known.texts_are;
        part = part;
        shows = shows;
      })

  -- a part is read by journal: what is saved are the old atoms
  held-part : (done : ℕ) (was : View) → guard ≡ guards.Journal → done ≤ count
      → before.next ≡ ReadSaved done → Known was
      → HasGot old.size (before.site.store + done) (part_at before.site done)
      (part_of before.site after.buffer done) was
      → HoldsPart before.site after.buffer texts done
  held-part done was by within at known got =
      let all = all-saved guard before.site.atom count by in
      let part = got-part (record before.site { own = before.site.store }) after.buffer texts done
      was
      (subst (λ a. HasGot a (before.site.store + done) (part_at before.site done)
      (part_of before.site after.buffer done) was) (sym fits.size) got)
      (λ i from below.
      (here (ReadSaved done) was at known).store.now refl i (omega (arith, below, all))
      ∙ old-saved guard zone texts i by known.texts_are.kept below) within in
      record { blocks = part.blocks; each = part.each }

  read-on : (done : ℕ) → guard ≡ guards.Journal → before.next ≡ ReadSaved done
      → ReadsSaved before.site done after.buffer old new succeeded
      → HasFilled before after (Write done) → Led old now Then
  read-on done by at call filled =
      let below = (needs (ReadSaved done) at).0 in
      let within : done ≤ count = omega (arith, below) in
      let room : bytes_at before.site 0 ≤ length after.buffer =
      (let had = fits.room in let long = filled.long in omega (arith, had, long)) in
      led-on old now Then
      (read-leads old new now (before.site.store + done) (part_at before.site done) _ over.tells
      (part-long sector before old fits after.buffer done room)
      (atoms-fit sector before old fits done by within) call told)
      (λ was is got known. (
        known-filled (Write done) was is filled known
            (by-journal guard before.site after.buffer before.digests texts done by
            (held-part done was by within at known got.1))
            (stays before.site.atom layout zone texts (mending done) false was is
            (calls.reads got.0) (here (ReadSaved done) was at known)),
        stays-unchanged layout zone was is got.0,
      ))

  -- its digests are, by checksum
  lay-on : (done : ℕ) → guard ≡ guards.Checksum → before.next ≡ ReadSaved done
      → ReadsDigests before.site done after.digests old new succeeded
      → HasLaid before after (ReadOwn done) → Led old now Then
  lay-on done by at call laid =
      let had = needs (ReadSaved done) at in
      let below = had.0 in
      let within : done ≤ count = omega (arith, below) in
      led-on old now Then
      (read-leads old new now (before.site.store + saved_at before.site done)
      (saved_part before.site done) _ over.tells
      (digests-long sector before old fits after.digests done by laid.long)
      (store-fits sector before old fits done within had.2) call told)
      (λ was is got known. (
        known-laid (ReadOwn done) was is laid known
            (holds-digests before.site zone after.digests texts done fits.known had.2 within by refl
            refl known.texts_are.kept (known.texts_are.whole by)
            (subst (λ a. AreBlocks a (saved_part before.site done)
            (digests_of before.site after.digests done)) (sym fits.size) got.1.blocks)
            (λ j few.
            subst (λ a. block_at a (digests_of before.site after.digests done) j
            ≡ was.current (before.site.store + saved_at before.site done + j)) (sym fits.size)
            (got.1.each j few)
            ∙ ap (λ n. was.current n)
            (let e : before.site.store + saved_at before.site done + j
            ≡ before.site.store + (saved_at before.site done + j) = omega arith in e)
            ∙ (here (ReadSaved done) was at known).store.now refl
            (saved_at before.site done + j)
            (let inside = saved-within before.site done fits.known had.2 within in
            omega (arith, few, inside))))
            (stays before.site.atom layout zone texts (mending done) false was is
            (calls.reads got.0) (here (ReadSaved done) was at known)),
        stays-unchanged layout zone was is got.0,
      ))

  -- the part is, as it stands in the zone
  find-on : (done : ℕ) → before.next ≡ ReadOwn done
      → ReadsOwn before.site done after.buffer old new succeeded
      → HasFilled before after (Write done) → Led old now Then
  find-on done at call filled =
      let had = needs (ReadOwn done) at in
      let by = had.3 in
      let below = had.0 in
      let within : done ≤ count = omega (arith, below) in
      let inside = part-fits before.site done within in
      let room : bytes_at before.site 0 ≤ length after.buffer =
      (let had = fits.room in let long = filled.long in omega (arith, had, long)) in
      led-on old now Then
      (read-leads old new now (before.site.own + done) (part_at before.site done) _ over.tells
      (part-long sector before old fits after.buffer done room)
      (own-fits sector before old fits done within) call told)
      (λ was is got known. (
        known-filled (Write done) was is filled known
            (by-checksum guard before.site after.buffer before.digests texts done by (record {
              blocks = subst (λ a. AreBlocks a (part_at before.site done)
                  (part_of before.site after.buffer done)) (sym fits.size) got.1.blocks;
              each = λ k few.
                  found-either guard texts (done + k)
                  (block_at before.site.atom (part_of before.site after.buffer done) k) by
                  (subst (λ v. Is (found_by (kind_of guard)) texts (done + k) v)
                  (sym (subst (λ a. block_at a (part_of before.site after.buffer done) k
                  ≡ was.current (before.site.own + done + k)) (sym fits.size) (got.1.each k few)
                  ∙ ap (λ n. was.current n)
                  (let e : before.site.own + done + k ≡ before.site.own + (done + k) =
                  omega arith in e)))
                  (((here (ReadOwn done) was at known).own.now refl (done + k)
                  (omega (arith, inside, few))).1 (omega arith)));
              told = holds-for (ReadOwn done) was at known;
            }))
            (stays before.site.atom layout zone texts (mending done) false was is
            (calls.reads got.0) (here (ReadOwn done) was at known)),
        stays-unchanged layout zone was is got.0,
      ))

  abbrev Again : ℕ → Result (Unit {0}) Failure → Type 0
  Again done result =
      WritesAgain seals before.site done before.digests before.buffer old new result

  -- the bytes that a part becomes
  again-long : (done : ℕ) (result : Result (Unit {0}) Failure) (is : Again done result) (was : View)
      → done + part_at before.site done ≤ count → before.next ≡ Write done → Known was
      → length is.text ≡ part_at before.site done * old.size
  again-long done result is was inside at known =
      anew-long seals layout opened opened (header_by before.moved.commit) texts before.site
      before.buffer before.digests is.text done runs known.texts_are.new inside guard is.is
      (holds-for (Write done) was at known)
      ∙ ap (λ a. part_at before.site done * a) fits.size

  again-block : (done : ℕ) (result : Result (Unit {0}) Failure) (is : Again done result) (was : View)
      → done + part_at before.site done ≤ count → before.next ≡ Write done → Known was
      → (k : ℕ) → k < part_at before.site done
      → block_at before.site.atom is.text k ≡ texts.new (done + k)
  again-block done result is was inside at known k few =
      anew-block seals layout opened opened (header_by before.moved.commit) texts before.site
      before.buffer before.digests is.text done runs known.texts_are.new inside guard k is.is
      (holds-for (Write done) was at known)
      (tell-by guard zone texts known.texts_are.kept) few

  holds-written : (done : ℕ)
      → HoldsFor before.site after.buffer before.digests texts (after_write before.site done)
  holds-written done = go (done + part_at before.site done == count)
    where
      go : (b : Bool) → HoldsFor before.site after.buffer before.digests texts
          (cond b Settle (ReadSaved (done + part_at before.site done)))
      go true = tt
      go false = tt

  write-on : (done : ℕ) → before.next ≡ Write done
      → Again done succeeded → HasFilled before after (after_write before.site done)
      → Led old now Then
  write-on done at again filled =
      let below = (needs (Write done) at).0 in
      let within : done ≤ count = omega (arith, below) in
      let inside = part-fits before.site done within in
      led-on old now Then
      (written-if old new now (before.site.own + done) (part_at before.site done) _ over.tells
      (some-here sector before old fits) (own-fits sector before old fits done within) again.call
      told)
      (λ was is wrote known.
      let written = wrote (again-long done succeeded again was inside at known) in (
        known-filled (after_write before.site done) was is filled known (holds-written done)
            (subst (λ p. Shown p false is) (sym (phase-written before.site stage done))
            (by-call was is (mending done) _ known (calls.mends done (part_at before.site done)
            (record {
              some = some-part sector before old fits done below;
              within = inside;
              text = again.text;
              each = again-block done succeeded again was inside at known;
              call = subst (λ a. IsWritten a (before.site.own + done) (part_at before.site done)
                  again.text was is) (sym fits.size) written;
            })) (here (Write done) was at known))),
        stays-written layout zone old.size done (part_at before.site done) again.text was is
            inside written,
      ))

  -- the commit
  room-here : HasRoomFor before.moved.commit.header.hdr_size
      (primary_of before.moved.commit.copies) (secondary_of before.moved.commit.copies) layout old
  room-here =
      let follows = over.mends.moves.follows in
      room-for before.loaded _ follows.first before.moved.commit layout old
      (some-here sector before old fits) over.tells over.mends.stored follows.commit follows.same
      over.laid

  commit-on : Commits before.moved.commit old new succeeded
      → Led old now (CommitCall before.site.atom layout zone.moved (stage_of stage))
  commit-on call =
      let led = (seen stage _ _ _ layout old new now room-here told).0 call in
      record {
        was = led.0;
        told = led.1;
        step = subst (λ a. CommitCall a layout zone.moved (stage_of stage)
            (view_of_cells led.0.now) (view_of_cells now.now)) (sym fits.size) led.2;
      }

  moved-on : (commit : Prepared) → before.next ≡ Move
      → Commits before.moved.commit old new succeeded → IsSame before.moved.commit commit
      → stage_in commit.copies ≡ next_of stage → stage ≢ SecondWritten
      → after ≡ committed_to before commit Move → Led old now Then
  moved-on commit at call same next far to =
      let far-on = needs Move at in
      led-on old now Then (commit-on call)
      (λ was is called known.
      let header = sym (same-header before.moved.commit commit same) in (
        subst (λ m. IsKnown seals layout opened texts m is) (sym to) (record {
          means = known.means;
          is_header = known.is_header;
          next_header = subst (IsHeader header_reader) header known.next_header;
          apart = subst (λ h. IsApart layout (mended_zone before.site opened h)) header known.apart;
          texts_are = subst (λ h. HasTexts seals before.site (mended_zone before.site opened h) texts)
              header known.texts_are;
          part = tt;
          shows = subst (λ h. ShowsZone before.site.atom layout (mended_zone before.site opened h)
              texts (moving (stage_of (stage_in commit.copies))) false is) header
              (subst (λ s. Shown (moving s) false is)
              (stage-on stage far far-on ∙ ap stage_of (sym next))
              (by-call was is _ _ known (calls.moves _ (stage-last stage far far-on) called)
              (here Move was at known)));
        }),
        stays-committed layout zone before.site.atom zone.moved (stage_of stage) was is called,
      ))

  -- ---- each step but the last
  step-on : Goes seals old new before after false → Led old now Then
  step-on (reads done by at call filled) = read-on done by at call filled
  step-on (lays done by at call laid) = lay-on done by at call laid
  step-on (finds done at call filled) = find-on done at call filled
  step-on (writes done at again filled) = write-on done at again filled
  step-on (settles at call to) =
      led-on old now Then (synced-leads old new now call told)
      (λ was is synced known. (
        subst (λ m. IsKnown seals layout opened texts m is) (sym to) (record {
          means = known.means;
          is_header = known.is_header;
          next_header = known.next_header;
          apart = known.apart;
          texts_are = known.texts_are;
          part = tt;
          shows = subst (λ s. Shown (moving (stage_of s)) false is) (sym (needs Settle at))
              (by-call was is _ _ known (calls.recovers synced) (here Settle was at known));
        }),
        stays-synced layout zone was is synced,
      ))
  step-on (moves commit at call on far to) = moved-on commit at call on.same on.stage far to

  pub step-goes : Goes seals old new before after false → Leads old now Then
  step-goes made = leads-by old now Then (step-on made)

  -- ---- the last one
  abbrev Ended_by : View → View → Type 0
  Ended_by was is = Known was → IsThrough layout opened texts before after was is

  pub step-ends : ZoneEnds → Goes seals old new before after true → Leads old now Ended_by
  step-ends ending (ends commit at call on last to) =
      let follows = over.mends.moves.follows in
      leads-by old now Ended_by (led-on old now Ended_by (commit-on call)
      (λ was is called known.
      let synced : IsSynced was is =
      subst (λ s. CommitCall before.site.atom layout zone.moved (stage_of s) was is) last called in
      record {
        shows = ending before.site.atom layout zone texts (moving second_written) was is refl
            (subst (λ s. Shown (moving (stage_of s)) false was) last (here Move was at known))
            synced;
        means = ap meaning_of (follows.same.primary
            ∙ sym (ap (λ (c : Copies). c.used.bytes) follows.loaded.copies)
            ∙ sym (ap (λ (m : Mender C). m.moved.loaded.copies.used.bytes) to));
        is_header = known.next_header;
        settled = λ area i below value has.
            synced.candidates _ value has ∙ sym (synced.current (area.start + i));
        elsewhere = stays-synced layout zone was is synced;
      }))

  -- ---- one that failed
  abbrev Failed_by : View → View → Type 0
  Failed_by was is = Known was → Shown (failed_in before) true is × Stays true was is

  named : (next : MendCall) (is : View) → before.next ≡ next
      → Shown (failed_by count stage next) true is → Shown (failed_in before) true is
  named next is at shows = subst (λ n. Shown (failed_by count stage n) true is) (sym at) shows

  read-fails : (done place : ℕ) (bytes : List ℕ) → before.next ≡ ReadSaved done
      → ReadCall old.size place bytes old new failed_call → Led old now Failed_by
  read-fails done place bytes at call =
      led-on old now Failed_by (unread-leads old new now place bytes failed_call call told)
      (λ was is kept known. (
        named (ReadSaved done) is at (by-fault was is _ _ known (calls.sync_fails _ kept.candidates)
            (here (ReadSaved done) was at known)),
        stays-thinned layout zone was is kept.candidates,
      ))

  find-fails : (done : ℕ) → before.next ≡ ReadOwn done
      → ReadsOwn before.site done after.buffer old new failed_call → Led old now Failed_by
  find-fails done at call =
      led-on old now Failed_by (unread-leads old new now _ _ failed_call call told)
      (λ was is kept known. (
        named (ReadOwn done) is at (by-fault was is _ _ known (calls.sync_fails _ kept.candidates)
            (here (ReadOwn done) was at known)),
        stays-thinned layout zone was is kept.candidates,
      ))

  write-fails : (done : ℕ) → before.next ≡ Write done
      → Again done failed_call → Led old now Failed_by
  write-fails done at again =
      let below = (needs (Write done) at).0 in
      let within : done ≤ count = omega (arith, below) in
      let inside = part-fits before.site done within in
      led-on old now Failed_by
      (tried-if old new now (before.site.own + done) (part_at before.site done) _
      (some-here sector before old fits) again.call told)
      (λ was is tried known.
      let torn = tried (again-long done failed_call again was inside at known) in (
        named (Write done) is at (by-fault was is (mending done) (mending done) known
            (calls.mend_fails done (part_at before.site done) (record {
              some = some-part sector before old fits done below;
              within = inside;
              text = again.text;
              each = again-block done failed_call again was inside at known;
              call = subst (λ a. IsTried a (before.site.own + done) (part_at before.site done)
                  again.text was is) (sym fits.size) torn;
            })) (here (Write done) was at known)),
        stays-tried layout zone old.size done (part_at before.site done) again.text was is inside
            torn,
      ))

  fails-on : Fails seals old new before after → Led old now Failed_by
  fails-on (read_fails done by at call failed) = read-fails done _ _ at call
  fails-on (lay_fails done by at call failed) = read-fails done _ _ at call
  fails-on (find_fails done at call failed) = find-fails done at call
  fails-on (write_fails done at again failed) = write-fails done at again
  fails-on (settle_fails at call failed) =
      led-on old now Failed_by (thinned-leads old new now call told)
      (λ was is thinned known. (
        named Settle is at (by-fault was is _ _ known (calls.sync_fails _ thinned)
            (here Settle was at known)),
        stays-thinned layout zone was is thinned,
      ))
  fails-on (move_fails at call failed) =
      let led = (seen stage _ _ _ layout old new now room-here told).1 call in
      record {
        was = led.0;
        told = led.1;
        step = λ known.
            let torn : CommitFails before.site.atom layout zone.moved (stage_of stage)
            (view_of_cells led.0.now) (view_of_cells now.now) =
            subst (λ a. CommitFails a layout zone.moved (stage_of stage)
            (view_of_cells led.0.now) (view_of_cells now.now)) (sym fits.size) led.2 in (
              named Move (view_of_cells now.now) at
                  (by-fault (view_of_cells led.0.now) (view_of_cells now.now) _ _ known
                  (calls.move_fails _ torn) (here Move (view_of_cells led.0.now) at known)),
              stays-torn layout zone before.site.atom zone.moved (stage_of stage)
                  (view_of_cells led.0.now) (view_of_cells now.now) torn,
            );
      }

  pub step-fails : Fails seals old new before after → Leads old now Failed_by
  step-fails made = leads-by old now Failed_by (fails-on made)
