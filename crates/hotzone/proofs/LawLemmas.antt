-- What the laws of a zone's steps stand on: stages of commits, what is known behind a step, parts over a
-- disk, and calls of others.
use Rattle.std.proofs.Common.{None, take, inl, inr, refl, sym, ap, subst, arith}
use Rattle.std.proofs.Common.{◌≡◌, ◌≢◌, ◌∙◌, ℕ, ◌+◌, ◌*◌, ◌/◌, ◌%◌, ◌<◌, ◌≤◌, Bool, false, List, length}
use Rattle.std.proofs.Math.Nat.{mul-le-mul_right}
use Rattle.std.proofs.lemmas.List.{length-take-le}
use Rattle.cipher_laws.specs.Laws.{GivesBytes, KeepsLengths, UndoesSectors}
use Rattle.crash_laws.specs.HeaderAreas.Commits.{next_stage}
use Rattle.crash_laws.specs.HeaderAreas.Commits.{second_written}
use Rattle.crash_laws.specs.HeaderAreas.Headers.{primary, secondary, Header, IsLaidOut, Layout}
use Rattle.sector_disk.specs.DiskViews.Views.{View}
use Rattle.crash_laws.specs.HotZones.Calls.{CallBeside}
use Rattle.crash_laws.specs.HotZones.Promises.{ZoneStays}
use Rattle.crash_laws.specs.HotZones.Zones.{Hotzone, Texts, IsApart, ShowsZone, saving}
use Rattle.hotzone.proofs.CallLemmas.{table-long}
use Rattle.hotzone.proofs.GuardLemmas.{saved-long, saved-within, saved_part}
use Rattle.hotzone.proofs.KnownLemmas.{SealRuns, part-fits, part-some, phase-runs}
use Rattle.hotzone.proofs.KnownLemmas.{seal-runs}
use Rattle.hotzone.proofs.WorkingLemmas.{fits-disk}
use Rattle.hotzone.specs.Headings.{IsSame}
use Rattle.hotzone.specs.Known.{AreTold, HoldsFor, IsKnown}
use Rattle.hotzone.specs.Known.{NamesHeaders, halted_in, phase_in}
use Rattle.hotzone.specs.Known.{phase_of, zone_by}
use Rattle.hotzone.specs.Promises.{IsOver, TellsAlike, seals_in}
use Rattle.hotzone.specs.Sites.{IsPartStart, bytes_at, count_of, part_at, saved_at}
use Rattle.hotzone.specs.Steps.{HasRead, IsSavedText, part_in}
use Rattle.hotzone.specs.Workers.{FitsDisk}
use Rattle.hotzone.specs.declared.site.Site.{Site}
use Rattle.hotzone.specs.declared.worker.NextCall.{NextCall}
use Rattle.hotzone.specs.declared.worker.Worker.{Worker}
use Rattle.luks_bin.specs.declared.header.BinHeader.{BinHeader}
use Rattle.luks_store.specs.Copying.Held.{primary_of, secondary_of}
use Rattle.luks_store.specs.Copying.Seen.{HasRoomFor, stage_of}
use Rattle.luks_store.specs.Copying.Steps.{next_of}
use Rattle.luks_store.specs.declared.header_copies.commit.Stage.TheVariants.{Begun, FirstWritten, FirstKept}
use Rattle.luks_store.specs.declared.header_copies.commit.Stage.TheVariants.{SecondWritten, Ended}
use Rattle.luks_store.specs.declared.header_copies.commit.Stage.{Stage}
use Rattle.luks_meta.specs.declared.meta.Parts.{Parts}
use Rattle.luks_store.proofs.GivenLemmas.{sized-by}
use Rattle.luks_store.specs.Commits.{IsNext}
use Rattle.luks_store.specs.Loads.{IsStored}
use Rattle.luks_store.specs.declared.commit.Prepared.{Prepared}
use Rattle.luks_store.specs.declared.copies.Copies.{Copies}
use Rattle.luks_store.specs.declared.loaded.Stored.{Stored}
use Rattle.sector_disk.specs.Devices.{Device}
use Rattle.sector_disk.specs.Geometry.{IsAtom}
use Rattle.segment_map.specs.Maps.{most_bytes}
use Rattle.volume_machine.specs.Seals.{AreLawful, Seals, seals_of}
use Rattle.volume_machine.specs.declared.keys.Keys.{Keys}

-- ---- stages of a commit that goes on
pub stage-on : (s : Stage) → s ≢ SecondWritten → s ≢ Ended
    → next_stage (stage_of s) ≡ stage_of (next_of s)
stage-on Begun last ended = refl
stage-on FirstWritten last ended = refl
stage-on FirstKept last ended = refl
stage-on SecondWritten last ended = absurd (last refl)
stage-on Ended last ended = absurd (ended refl)

pub stage-last : (s : Stage) → s ≢ SecondWritten → s ≢ Ended → stage_of s ≢ second_written
stage-last Begun last ended = λ is. cc
stage-last FirstWritten last ended = λ is. cc
stage-last FirstKept last ended = λ is. cc
stage-last SecondWritten last ended = absurd (last refl)
stage-last Ended last ended = absurd (ended refl)

pub some-atom : (atom : ℕ) → IsAtom atom → 0 < atom
some-atom atom (inl is) = omega (arith, is)
some-atom atom (inr is) = omega (arith, is)

pub most-atoms : (atom : ℕ) → IsAtom atom → 0 < most_bytes / atom
most-atoms atom (inl is) = rw is (omega arith)
most-atoms atom (inr is) = rw is (omega arith)

module _ (layout : Layout) (site : Site) where
  -- areas lie apart whatever the headers are
  apart-as : (first middle moved other later : Header (List ℕ))
      → IsApart layout (zone_by site first middle moved)
      → IsApart layout (zone_by site first other later)
  apart-as first middle moved other later is = record {
    own_store = is.own_store;
    own_target = is.own_target;
    target_store = is.target_store;
    own_header = is.own_header;
    target_header = is.target_header;
    store_header = is.store_header;
    headers = is.headers;
  }

  -- before the first commit no header to come is known
  pub named-anew : (atom : ℕ) (first middle moved other later : Header (List ℕ)) (texts : Texts) (n : ℕ)
      (broken : Bool) (view : View)
      → ShowsZone atom layout (zone_by site first middle moved) texts (saving n) broken view
      → ShowsZone atom layout (zone_by site first other later) texts (saving n) broken view
  named-anew atom first middle moved other later texts n broken view shows = record {
    own = shows.own;
    target = shows.target;
    store = shows.store;
    header = record { first = shows.header.first; second = shows.header.second };
  }

-- ---- what is known behind a step that leaves the header and the zone
module _ {C : Type 0} (seals : Seals) (layout : Layout) (first middle moved : Header (List ℕ))
    (texts : Texts) (before after : Worker C) (was is : View) (runs_on : before.halted ≡ None)
    (known : IsKnown seals layout first middle moved texts before was) where
  -- how far it is then
  runs-shown : (zone : Hotzone (List ℕ)) (next : NextCall)
      → ShowsZone before.site.atom layout zone texts (phase_in before.site next) false is
      → ShowsZone before.site.atom layout zone texts (halted_in before.site next before.halted)
      false is
  runs-shown zone next shows =
      subst (λ p. ShowsZone before.site.atom layout zone texts p false is)
      (sym (ap (λ h. halted_in before.site next h) runs_on ∙ phase-runs before.site next)) shows

  pub known-next : (other later : Header (List ℕ)) (next : NextCall)
      → after ≡ record before { next = next } → NamesHeaders next other later
      → AreTold before.site texts next → HoldsFor before.site before.buffer texts next
      → ShowsZone before.site.atom layout (zone_by before.site first other later) texts
      (phase_in before.site next) false is
      → IsKnown seals layout first other later texts after is
  known-next other later next to names told part shows =
      subst (λ w. IsKnown seals layout first other later texts w is) (sym to) (record {
        means = known.means;
        headers = names;
        apart = apart-as layout before.site first middle moved other later known.apart;
        texts_are = known.texts_are;
        told = told;
        part = part;
        shows = runs-shown _ next shows;
      })

  pub known-read : (next : NextCall) → HasRead before after next → NamesHeaders next middle moved
      → AreTold before.site texts next → HoldsFor before.site after.buffer texts next
      → ShowsZone before.site.atom layout (zone_by before.site first middle moved) texts
      (phase_in before.site next) false is
      → IsKnown seals layout first middle moved texts after is
  known-read next read names told part shows =
      subst (λ w. IsKnown seals layout first middle moved texts w is) (sym read.is) (record {
        means = known.means;
        headers = names;
        apart = known.apart;
        texts_are = known.texts_are;
        told = told;
        part = part;
        shows = runs-shown _ next shows;
      })

-- ---- parts of a worker over a disk
module _ {C : Type 0} (sector : C → ℕ) (layout : Layout) (before : Worker C) (old : Device)
    (over : IsOver sector layout before old) where
  pub fits-here : FitsDisk sector before old
  fits-here = fits-disk sector before old over.working over.sizes

  pub some-here : 0 < old.size
  some-here = subst (λ n. 0 < n) fits-here.size (some-atom before.site.atom fits-here.known)

  part-size : (buffer : List ℕ) (done : ℕ) → bytes_at before.site 0 ≤ length buffer
      → length (take (bytes_at before.site done) buffer) ≡ bytes_at before.site done
  part-size buffer done room =
      let less : part_at before.site done ≤ part_at before.site 0 = omega arith in
      let fewer = mul-le-mul_right before.site.atom less in
      length-take-le (bytes_at before.site done) buffer (omega (arith, fewer, room))

  pub part-long : (buffer : List ℕ) (done : ℕ) → bytes_at before.site 0 ≤ length buffer
      → length (take (bytes_at before.site done) buffer) ≡ part_at before.site done * old.size
  part-long buffer done room =
      part-size buffer done room
      ∙ ap (λ a. part_at before.site done * a) fits-here.size

  -- what lies behind so many atoms of one of its areas lies on the disk
  pub own-fits : (done : ℕ) → done ≤ count_of before.site
      → before.site.own + done + part_at before.site done ≤ old.atoms
  own-fits done within =
      let fits = part-fits before.site done within in
      let own = fits-here.own in omega (arith, fits, own)

  pub store-fits : (done : ℕ) → IsPartStart before.site done → done ≤ count_of before.site
      → before.site.store + saved_at before.site done + saved_part before.site done ≤ old.atoms
  store-fits done start within =
      let fits = saved-within before.site done fits-here.known start within in
      let store = fits-here.store in omega (arith, fits, store)

  -- what is saved of the part at hand
  pub text-long : (done : ℕ) (text : List ℕ)
      → IsSavedText before.site.guard before.site.atom (part_at before.site done)
      (part_in before done) text
      → length text ≡ saved_part before.site done * old.size
  text-long done text is =
      saved-long before.site.guard before.site.atom (part_at before.site done) (part_in before done)
      text is (part-size before.buffer done fits-here.room)
      ∙ ap (λ a. saved_part before.site done * a) fits-here.size

  pub some-part : (done : ℕ) → done < count_of before.site → 0 < part_at before.site done
  some-part done below =
      part-some before.site done (most-atoms before.site.atom fits-here.known) below

-- ---- the commits of a zone
pub room-for : (stored : Stored) (meta : Parts) (start now : Prepared) (layout : Layout) (old : Device)
    → 0 < old.size → TellsAlike old → IsStored stored → IsNext stored meta start
    → IsSame start now
    → IsLaidOut old.size old.atoms stored.copies.used.header.hdr_size layout
    → HasRoomFor now.header.hdr_size (primary_of now.copies) (secondary_of now.copies) layout old
room-for stored meta start now layout old some tells is next same laid =
    let used = stored.copies.used in
    let size : now.header.hdr_size ≡ used.header.hdr_size =
    ap (λ (c : Copies). c.used.header.hdr_size) same.copies
    ∙ ap (λ (h : BinHeader). h.hdr_size) next.header in
    let long = sized-by used.header.hdr_offset used
    (record { whole = is.copies.whole; here = refl }) in
    record {
      some = some;
      laid = subst (λ n. IsLaidOut old.size old.atoms n layout) (sym size) laid;
      first = ap length same.primary ∙ next.whole.size primary ∙ next.follows.1 ∙ long ∙ sym size;
      second =
          ap length same.secondary ∙ next.whole.size secondary ∙ next.follows.1 ∙ long ∙ sym size;
      even = table-long old tells;
    }

-- ---- what is asked of a cipher
pub record AreCiphers {C : Type 0} (sector : C → ℕ) (seal unseal : C → ℕ → List ℕ → List ℕ) : Type
    0 where
  pub lengths : (c : C) → KeepsLengths (sector c) (seal c)
  pub gives : (c : C) → GivesBytes (sector c) (seal c)
  pub undoes : (c : C) → UndoesSectors (sector c) (unseal c) (seal c)
  pub lawful : (keys : Keys C) (atom : ℕ) → IsAtom atom → atom % sector keys.old ≡ 0
      → atom % sector keys.new ≡ 0 → AreLawful atom (seals_of seal unseal atom keys)

pub runs-over : {C : Type 0} (sector : C → ℕ) (seal unseal : C → ℕ → List ℕ → List ℕ)
    → AreCiphers sector seal unseal → (layout : Layout) (before : Worker C) (old : Device)
    → IsOver sector layout before old
    → SealRuns before.site.atom (seals_in seal unseal before)
runs-over sector seal unseal ciphers layout before old over =
    let fits = fits-here sector layout before old over in
    let keys = fits.keys in
    seal-runs sector seal unseal before.keys before.site.atom
    (ciphers.lawful before.keys before.site.atom fits.known keys.old_sector keys.new_sector)
    ciphers.lengths ciphers.gives ciphers.undoes keys.new_sector

-- ---- what others do beside it
pub step-stays : {C : Type 0} → ZoneStays → (seals : Seals) (layout : Layout)
    (first middle moved : Header (List ℕ)) (texts : Texts) (worker : Worker C) (old new : View)
    → CallBeside layout (zone_by worker.site first middle moved) old new false
    → IsKnown seals layout first middle moved texts worker old
    → IsKnown seals layout first middle moved texts worker new
step-stays stays seals layout first middle moved texts worker old new call known = record {
  means = known.means;
  headers = known.headers;
  apart = known.apart;
  texts_are = known.texts_are;
  told = known.told;
  part = known.part;
  shows =
      stays worker.site.atom layout (zone_by worker.site first middle moved) texts
      (phase_of worker) false old new call known.shows;
}
