-- The device calls of a zone's steps, by what is known of it.
use Rattle.std.proofs.Common.{Some, refl, sym, ap, subst, arith, cond}
use Rattle.std.proofs.Common.{◌≡◌, ◌∙◌, ℕ, ◌+◌, ◌*◌, ◌<◌, ◌≤◌, ◌==◌, Bool, true, false, List, length}
use Rattle.std.proofs.lemmas.Bool.{eqb-false, eqb-true}
use Rattle.crash_laws.specs.HeaderAreas.Commits.{CommitCall}
use Rattle.crash_laws.specs.HeaderAreas.Commits.{Stage as CommitStage}
use Rattle.crash_laws.specs.HeaderAreas.Headers.{Header, IsLaidOut, Layout}
use Rattle.sector_disk.specs.DiskViews.Views.{View, IsUnchanged, IsWritten}
use Rattle.crash_laws.specs.HotZones.Calls as calls
use Rattle.crash_laws.specs.HotZones.Calls.{ZoneCall}
use Rattle.crash_laws.specs.HotZones.Promises.{ZoneGoes, ZoneStays}
use Rattle.crash_laws.specs.HotZones.Zones.{Hotzone, Phase, Texts, ShowsZone, saving}
use Rattle.crash_laws.specs.HotZones.Zones.{writing}
use Rattle.hotzone.proofs.CallLemmas.{HasGot, Led, led-on, read-leads}
use Rattle.hotzone.proofs.CallLemmas.{written-if, written-leads}
use Rattle.hotzone.proofs.KnownLemmas.{SealRuns, got-part, phase-runs}
use Rattle.hotzone.proofs.GuardLemmas.{saved_part}
use Rattle.hotzone.proofs.KnownLemmas.{saves-part, tells-more, told-saved, writes-part}
use Rattle.hotzone.proofs.LawLemmas.{known-read, fits-here, some-here, part-long, own-fits, store-fits, some-part, text-long, room-for, AreCiphers, runs-over}
use Rattle.hotzone.specs.Headings.{AreOf, IsSame}
use Rattle.hotzone.specs.Known.{AreNamed, AreTold, TellBy, HoldsFor, HoldsPart, IsKnown}
use Rattle.hotzone.specs.Known.{IsOnePart, NamesHeaders, halted_in, header_by, part_of, phase_in}
use Rattle.hotzone.specs.Known.{zone_by}
use Rattle.hotzone.specs.Promises.{IsOver, seals_in}
use Rattle.hotzone.specs.Sites.{IsPartStart, bytes_at, count_of, part_at, saved_at}
use Rattle.hotzone.specs.Steps.{TellsPart}
use Rattle.hotzone.specs.Steps.{Commits, HasRead, ReadsPart, SavesPart, WritesPart}
use Rattle.hotzone.specs.Steps.{after_open, after_save, after_write, moved_by}
use Rattle.hotzone.specs.Steps.{opened_by, resealed}
use Rattle.hotzone.specs.Workers.{Needs}
use Rattle.hotzone.specs.declared.worker.Headers.{Headers}
use Rattle.hotzone.specs.declared.worker.NextCall.TheVariants.{Keep, ReadAgain, Write}
use Rattle.hotzone.specs.declared.worker.NextCall.TheVariants.{Read}
use Rattle.hotzone.specs.declared.worker.NextCall.TheVariants.{Settle}
use Rattle.hotzone.specs.declared.worker.NextCall.{NextCall}
use Rattle.hotzone.specs.declared.worker.Worker.{Worker}
use Rattle.luks_bin.specs.declared.header.BinHeader.{BinHeader}
use Rattle.luks_store.specs.Copying.Held.{primary_of, secondary_of, stage_in}
use Rattle.luks_store.specs.Copying.Meanings.{header_of}
use Rattle.luks_store.specs.Copying.Seen.{CallsAreSeen, HasRoomFor, stage_of}
use Rattle.luks_store.specs.declared.commit.Prepared.{Prepared}
use Rattle.luks_store.specs.declared.copies.Copies.{Copies}
use Rattle.sector_disk.specs.Devices.{Device, succeeded}
use Rattle.sector_disk.specs.Steps.{Told}
use Rattle.segment_map.specs.declared.Side.TheVariants.{Old}
use Rattle.volume_machine.specs.Seals.{Seals}

-- ---- what the laws of one step are given: the laws of zones and of commits, a worker that goes on
-- over a disk that tells its table, and its seals
pub record IsGiven {C : Type 0} (sector : C → ℕ) (seals : Seals) (layout : Layout)
    (first middle moved : Header (List ℕ)) (texts : Texts) (before after : Worker C)
    (old new : Device) (now : Told) : Type 0 where
  pub goes : ZoneGoes
  pub stays : ZoneStays
  pub seen : CallsAreSeen
  pub over : IsOver sector layout before old
  pub told : new.told ≡ Some now
  pub runs : SealRuns before.site.atom seals

-- ---- each call
module _ {C : Type 0} {sector : C → ℕ} {seals : Seals} {layout : Layout}
    {first middle moved : Header (List ℕ)} {texts : Texts} {before after : Worker C}
    {old new : Device} {now : Told}
    (given : IsGiven sector seals layout first middle moved texts before after old new now) where
  abbrev goes : ZoneGoes
  goes = given.goes

  abbrev stays : ZoneStays
  stays = given.stays

  abbrev seen : CallsAreSeen
  seen = given.seen

  abbrev over : IsOver sector layout before old
  over = given.over

  abbrev told : new.told ≡ Some now
  told = given.told

  abbrev runs : SealRuns before.site.atom seals
  runs = given.runs

  abbrev pub zone : Hotzone (List ℕ)
  zone = zone_by before.site first middle moved

  abbrev pub Known : View → Type 0
  Known was = IsKnown seals layout first middle moved texts before was

  abbrev pub Then : View → View → Type 0
  Then was is =
      Known was → (other : Header (List ℕ)) × (later : Header (List ℕ))
      × IsKnown seals layout first other later texts after is

  -- what is known by the call that comes next
  pub here : (next : NextCall) (was : View) → before.next ≡ next → Known was
      → ShowsZone before.site.atom layout zone texts (phase_in before.site next) false was
  here next was at known =
      subst (λ n. ShowsZone before.site.atom layout zone texts (phase_in before.site n) false was) at
      (subst (λ p. ShowsZone before.site.atom layout zone texts p false was)
      (ap (λ h. halted_in before.site before.next h) over.runs
      ∙ phase-runs before.site before.next) known.shows)

  pub names : (next : NextCall) (was : View) → before.next ≡ next → Known was
      → NamesHeaders next middle moved
  names next was at known = subst (λ n. NamesHeaders n middle moved) at known.headers

  pub holds : (next : NextCall) (was : View) → before.next ≡ next → Known was
      → HoldsFor before.site before.buffer texts next
  holds next was at known = subst (HoldsFor before.site before.buffer texts) at known.part

  pub tolds : (next : NextCall) (was : View) → before.next ≡ next → Known was
      → AreTold before.site texts next
  tolds next was at known = subst (AreTold before.site texts) at known.told

  pub needs : (next : NextCall) → before.next ≡ next → Needs before next
  needs next at = subst (Needs before) at over.working.next

  pub by-call : (was is : View) (phase next : Phase) → Known was
      → ZoneCall before.site.atom layout zone texts was is phase next
      → ShowsZone before.site.atom layout zone texts phase false was
      → ShowsZone before.site.atom layout zone texts next false is
  by-call was is phase next known call shows =
      (goes before.site.atom layout zone texts phase next was is known.apart shows).0 call

  unread : (was is : View) (phase : Phase) → IsUnchanged was is
      → ShowsZone before.site.atom layout zone texts phase false was
      → ShowsZone before.site.atom layout zone texts phase false is
  unread was is phase same shows =
      stays before.site.atom layout zone texts phase false was is (calls.reads same) shows

  -- a part is read: it is the old atoms
  pub read-part : (next coming : NextCall) (done : ℕ) → before.next ≡ next → done ≤ count_of before.site
      → ReadsPart before done after.buffer old new succeeded → HasRead before after coming
      → phase_in before.site coming ≡ phase_in before.site next
      → ((was : View) → Known was
      → (i : ℕ) → done ≤ i → i < count_of before.site
      → was.current (before.site.own + i) ≡ texts.old i)
      → ((was : View) → Known was → NamesHeaders coming middle moved)
      → ((was : View) → Known was → AreTold before.site texts coming)
      → ((was : View) → Known was → HoldsPart before.site after.buffer texts done
      → HoldsFor before.site after.buffer texts coming)
      → Led old now Then
  read-part next coming done at within call read phase olds named telling holding =
      let fits = fits-here sector layout before old over in
      let room : bytes_at before.site 0 ≤ length after.buffer =
      (let had = fits.room in let long = read.long in omega (arith, had, long)) in
      led-on old now Then
      (read-leads old new now (before.site.own + done) (part_at before.site done) _ over.tells
      (part-long sector layout before old over after.buffer done room)
      (own-fits sector layout before old over done within) call told)
      (λ was is got known. (
        middle,
        moved,
        known-read seals layout first middle moved texts before after was is over.runs known coming read
            (named was known) (telling was known)
            (holding was known
            (got-part before.site after.buffer texts done was
            (subst (λ a. HasGot a (before.site.own + done) (part_at before.site done)
            (part_of before.site after.buffer done) was) (sym fits.size) got.1)
            (olds was known) within))
            (subst (λ p. ShowsZone before.site.atom layout zone texts p false is) (sym phase)
            (unread was is _ got.0 (here next was at known))),
      ))

  abbrev Saved : ℕ → View → View → Type 0
  Saved done was is =
      Known was → HoldsPart before.site before.buffer texts done
      → ShowsZone before.site.atom layout zone texts
      (saving (saved_at before.site done + saved_part before.site done)) false is

  -- a part is saved
  pub save-part : (next : NextCall) (done : ℕ) → before.next ≡ next
      → done < count_of before.site → IsPartStart before.site done
      → phase_in before.site next ≡ saving (saved_at before.site done)
      → SavesPart before done old new succeeded
      → Led old now (Saved done)
  save-part next done at below start phase call =
      let fits = fits-here sector layout before old over in
      let some = some-part sector layout before old over done below in
      let within : done ≤ count_of before.site = omega (arith, below) in
      led-on old now (Saved done)
      (written-leads old new now (before.site.store + saved_at before.site done)
      (saved_part before.site done) call.text over.tells (some-here sector layout before old over)
      (text-long sector layout before old over done call.text call.is)
      (store-fits sector layout before old over done start within) call.call told)
      (λ was is wrote known part.
      by-call was is (saving (saved_at before.site done)) _ known
      (saves-part seals layout first middle moved texts before.site before.buffer done call.text was is
      fits.known start some within known.texts_are part call.is
      (subst (λ a. IsWritten a (before.site.store + saved_at before.site done)
      (saved_part before.site done) call.text was is) (sym fits.size) wrote))
      (subst (λ p. ShowsZone before.site.atom layout zone texts p false was) phase
      (here next was at known)))

  -- its digests tell its blocks
  pub told-on : (done : ℕ) (headers : Headers) (was : View) → done < count_of before.site
      → Known was → HoldsPart before.site before.buffer texts done
      → TellBy before.site.guard done texts → TellsPart seals before done
      → AreTold before.site texts (after_save before.site done headers)
  told-on done headers was below known part told tells =
      told-saved before.site texts done headers
      (tells-more seals layout first middle moved texts before.site before.buffer done runs
      (omega (arith, below)) known.texts_are part told tells)

  abbrev Written : ℕ → View → View → Type 0
  Written done was is =
      Known was
      → ShowsZone before.site.atom layout zone texts (writing (done + part_at before.site done))
      false is

  -- a part is written anew
  pub write-part : (done : ℕ) (headers : Headers) → before.next ≡ Write done headers
      → done < count_of before.site → WritesPart seals before done old new succeeded
      → Led old now (Written done)
  write-part done headers at below call =
      let fits = fits-here sector layout before old over in
      let some = some-part sector layout before old over done below in
      let within : done ≤ count_of before.site = omega (arith, below) in
      let bytes = part_of before.site before.buffer done in
      let start = before.site.blocks.start + done in
      led-on old now (Written done)
      (written-if old new now (before.site.own + done) (part_at before.site done) _ over.tells
      (some-here sector layout before old over)
      (own-fits sector layout before old over done within) call told)
      (λ was is wrote known.
      let part = holds (Write done headers) was at known in
      by-call was is (writing done) _ known
      (writes-part seals layout first middle moved texts before.site before.buffer done was is runs
      some within known.texts_are part
      (subst (λ a. IsWritten a (before.site.own + done) (part_at before.site done)
      (resealed seals start bytes) was is) (sym fits.size)
      (wrote ((runs.keeps start _ _ (runs.lawful.keeps_opened Old start _ bytes part.blocks)).size
      ∙ ap (λ a. part_at before.site done * a) fits.size))))
      (here (Write done headers) was at known))

  -- the next call of a commit
  pub commit-leads : (commit : Prepared)
      → HasRoomFor commit.header.hdr_size (primary_of commit.copies) (secondary_of commit.copies)
      layout old
      → Commits commit old new succeeded
      → Led old now
      (CommitCall old.size layout (header_by commit) (stage_of (stage_in commit.copies)))
  commit-leads commit room call =
      let led = (seen (stage_in commit.copies) _ _ _ layout old new now room told).0 call in
      record { was = led.0; told = led.1; step = led.2 }

  -- so as the zone's header
  pub commit-here : (commit : Prepared) (header : Header (List ℕ)) (stage : CommitStage)
      (was is : View) → header ≡ header_by commit
      → CommitCall old.size layout (header_by commit) stage was is
      → CommitCall before.site.atom layout header stage was is
  commit-here commit header stage was is same call =
      subst (λ h. CommitCall before.site.atom layout h stage was is) (sym same)
      (subst (λ a. CommitCall a layout (header_by commit) stage was is)
      (sym (fits-here sector layout before old over).size) call)

  -- the commits of the zone have room on the disk
  pub open-room : (headers : Headers)
      → AreOf before.loaded (count_of before.site) headers.opened headers.moved
      → HasRoomFor headers.opened.header.hdr_size (primary_of headers.opened.copies)
      (secondary_of headers.opened.copies) layout old
  open-room headers are =
      room-for before.loaded _ are.first headers.opened layout old
      (some-here sector layout before old over) over.tells over.stored are.commit are.same over.laid

  pub moved-room : (headers : Headers)
      → AreOf before.loaded (count_of before.site) headers.opened headers.moved
      → HasRoomFor headers.moved.commit.header.hdr_size (primary_of headers.moved.commit.copies)
      (secondary_of headers.moved.commit.copies) layout old
  moved-room headers are =
      room-for are.between _ are.follows.first headers.moved.commit layout old
      (some-here sector layout before old over) over.tells are.loaded.stored are.follows.commit
      are.follows.same
      (subst (λ n. IsLaidOut old.size old.atoms n layout)
      (sym (ap (λ (c : Copies). c.used.header.hdr_size) are.loaded.copies
      ∙ ap (λ (h : BinHeader). h.hdr_size) are.commit.header)) over.laid)

  -- ---- what is named and held behind a part, and behind the commit that opens the zone
  pub names-saved : (done : ℕ) (headers : Headers) (other later : Header (List ℕ))
      → (other ≡ header_by headers.opened) × (later ≡ header_by headers.moved.commit)
      → NamesHeaders (after_save before.site done headers) other later
  names-saved done headers other later are =
      go (done + part_at before.site done == count_of before.site)
    where
      go : (b : Bool) → NamesHeaders
          (cond b (Keep headers) (Read (done + part_at before.site done) headers)) other later
      go true = are
      go false = are

  pub holds-first : (headers : Headers) → HoldsPart before.site before.buffer texts 0
      → HoldsFor before.site before.buffer texts (after_save before.site 0 headers)
  holds-first headers part = go (0 + part_at before.site 0 == count_of before.site) refl
    where
      go : (b : Bool) → (0 + part_at before.site 0 == count_of before.site) ≡ b
          → HoldsFor before.site before.buffer texts
          (cond b (Keep headers) (Read (0 + part_at before.site 0) headers))
      go true is = λ one. part
      go false is = λ one. eqb-false (0 + part_at before.site 0) (count_of before.site) is
          ((let e : 0 + part_at before.site 0 ≡ part_at before.site 0 = omega arith in e) ∙ one)

  pub holds-later : (done : ℕ) (headers : Headers) → (IsOnePart before.site → ⊥)
      → HoldsFor before.site before.buffer texts (after_save before.site done headers)
  holds-later done headers several = go (done + part_at before.site done == count_of before.site)
    where
      go : (b : Bool) → HoldsFor before.site before.buffer texts
          (cond b (Keep headers) (Read (done + part_at before.site done) headers))
      go true = λ one. absurd (several one)
      go false = several

  pub names-opened : (headers : Headers) → AreNamed headers middle moved
      → NamesHeaders (after_open before.site headers) middle moved
  names-opened headers are = go (part_at before.site 0 == count_of before.site)
    where
      go : (b : Bool) → NamesHeaders (cond b (Write 0 headers) (ReadAgain 0 headers)) middle moved
      go true = are
      go false = are

  pub holds-opened : (headers : Headers)
      → (IsOnePart before.site → HoldsPart before.site before.buffer texts 0)
      → HoldsFor before.site before.buffer texts (after_open before.site headers)
  holds-opened headers part = go (part_at before.site 0 == count_of before.site) refl
    where
      go : (b : Bool) → (part_at before.site 0 == count_of before.site) ≡ b
          → HoldsFor before.site before.buffer texts
          (cond b (Write 0 headers) (ReadAgain 0 headers))
      go true is = part (eqb-true _ _ is)
      go false is = tt

  pub told-opened : (headers : Headers) → TellBy before.site.guard (count_of before.site) texts
      → AreTold before.site texts (after_open before.site headers)
  told-opened headers told = go (part_at before.site 0 == count_of before.site)
    where
      go : (b : Bool) → AreTold before.site texts (cond b (Write 0 headers) (ReadAgain 0 headers))
      go true = told
      go false = told

  pub told-written : (done : ℕ) (headers : Headers)
      → TellBy before.site.guard (count_of before.site) texts
      → AreTold before.site texts (after_write before.site done headers)
  told-written done headers told = go (done + part_at before.site done == count_of before.site)
    where
      go : (b : Bool) → AreTold before.site texts
          (cond b (Settle headers) (ReadAgain (done + part_at before.site done) headers))
      go true = told
      go false = told

  pub names-written : (done : ℕ) (headers : Headers) → AreNamed headers middle moved
      → NamesHeaders (after_write before.site done headers) middle moved
  names-written done headers are = go (done + part_at before.site done == count_of before.site)
    where
      go : (b : Bool) → NamesHeaders
          (cond b (Settle headers) (ReadAgain (done + part_at before.site done) headers)) middle
          moved
      go true = are
      go false = are

  pub holds-written : (done : ℕ) (headers : Headers)
      → HoldsFor before.site after.buffer texts (after_write before.site done headers)
  holds-written done headers = go (done + part_at before.site done == count_of before.site)
    where
      go : (b : Bool) → HoldsFor before.site after.buffer texts
          (cond b (Settle headers) (ReadAgain (done + part_at before.site done) headers))
      go true = tt
      go false = tt

  same-header : (one two : Prepared) → IsSame one two → header_by two ≡ header_by one
  same-header one two same = λ i. header_of (same.primary i) (same.secondary i)

  pub open-named : (headers : Headers) (commit : Prepared) → IsSame headers.opened commit
      → AreNamed headers middle moved → AreNamed (opened_by headers commit) middle moved
  open-named headers commit same are =
      (are.0 ∙ sym (same-header headers.opened commit same), are.1)

  pub moved-named : (headers : Headers) (commit : Prepared) → IsSame headers.moved.commit commit
      → AreNamed headers middle moved → AreNamed (moved_by headers commit) middle moved
  moved-named headers commit same are =
      (are.0, are.1 ∙ sym (same-header headers.moved.commit commit same))

-- ---- what they are given of a cipher
pub given-by : {C : Type 0} (sector : C → ℕ) (seal unseal : C → ℕ → List ℕ → List ℕ)
    → AreCiphers sector seal unseal → ZoneGoes → ZoneStays → CallsAreSeen → (layout : Layout)
    (first middle moved : Header (List ℕ)) (texts : Texts) (before after : Worker C)
    (old new : Device) (now : Told) → IsOver sector layout before old → new.told ≡ Some now
    → IsGiven sector (seals_in seal unseal before) layout first middle moved texts before after old
    new now
given-by sector seal unseal ciphers goes stays seen layout first middle moved texts before after old
    new now over told = record {
      goes = goes;
      stays = stays;
      seen = seen;
      over = over;
      told = told;
      runs = runs-over sector seal unseal ciphers layout before old over;
    }
