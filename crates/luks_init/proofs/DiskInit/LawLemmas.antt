-- The tables of a new keyslot's writing, behind the calls of an opening.
use Rattle.std.proofs.Common.{◌≡◌, ◌∙◌, inl, inr, ℕ, ◌*◌, ◌%◌, ◌<◌, ◌≤◌, List, [], length, Option, Some}
use Rattle.std.proofs.Common.{replicate}
use Rattle.std.proofs.Common.{Result}
use Rattle.std.proofs.Common.{refl, sym, ap, subst, arith}
use Rattle.base_terms.specs.Blocks.{joined, lengths}
use Rattle.base_terms.specs.declared.failed.Failed.{Failed}
use Rattle.crash_laws.specs.HeaderAreas.Commits.{Follows, HasPast}
use Rattle.crash_laws.specs.HeaderAreas.Headers.{IsGenuine}
use Rattle.base_terms.specs.declared.disk_sizes.Sizes.{Sizes}
use Rattle.luks_init.proofs.DiskInit.BegunLemmas.{free}
use Rattle.luks_init.proofs.DiskInit.GoodLemmas.{good_stored}
use Rattle.luks_init.proofs.DiskInit.ShadeLemmas.{IsShade, LiesOn, shade, shade_calls, sure_cells}
use Rattle.luks_init.proofs.DiskInit.ShadeLemmas.{sure_content, sure_shade, sure_table}
use Rattle.luks_init.proofs.DiskInit.ImageLemmas.{begins, has_begun, next_meta, stands_on}
use Rattle.luks_init.specs.DiskInit.Laws.{SlotsKeepContents}
use Rattle.luks_init.specs.DiskInit.Makings.{IsMade, draw_of}
use Rattle.luks_init.specs.DiskInit.Tables.{HasBegun, ImagesStand, KeepsNext, TellsOn}
use Rattle.luks_bin.specs.declared.header.BinHeader.{BinHeader}
use Rattle.luks_store.specs.Copying.Held.{primary_of}
use Rattle.luks_store.specs.Copying.Meanings.{header_reader, meaning_of}
use Rattle.luks_store.specs.declared.header_copies.repair.Repair.{Repair}
use Rattle.luks_init.specs.Laws.{MayStartThere}
use Rattle.luks_init.specs.Wishes.{IsWish}
use Rattle.luks_init.specs.declared.wish.Wish.{Wish}
use Rattle.luks_meta.specs.declared.meta.Parts.{Parts}
use Rattle.luks_rules.specs.Areas.{areas_begin}
use Rattle.luks_rules.specs.declared.valid.Checked.{Checked}
use Rattle.luks_slots.specs.Gaps.{IsFree}
use Rattle.luks_slots.specs.NewSlots.{area_len}
use Rattle.luks_store.proofs.CopyLemmas.{Spelt}
use Rattle.luks_store.specs.Commits.{IsNextStored}
use Rattle.luks_store.specs.Devices.{IsCertain, front_of}
use Rattle.luks_store.specs.Promises.{AreasBeginBehind}
use Rattle.luks_store.specs.declared.loaded.Stored.{Stored}
use Rattle.reenc_meta.specs.Placements.{all_atoms}
use Rattle.reenc_meta.specs.declared.placement.Placement.{Placement}
use Rattle.reenc_recovery.specs.Mended.{DiskOpeningsMend, IsMended}
use Rattle.reenc_recovery.specs.Tables.{IsFoundOn, ShowsSizes}
use Rattle.reenc_recovery.proofs.RepairTableLemmas.{certain_now}
use Rattle.sector_disk.specs.Cells.{Cell, content, currents}
use Rattle.sector_disk.specs.Devices.{Device, succeeded}
use Rattle.sector_disk.specs.Geometry.{IsAtom, IsDisk}
use Rattle.sector_disk.specs.Steps.{Told}
use Rattle.luks_store.specs.SlotCommits.Calls.{FitsSlot, WritesSlot, slot_calls}
use Rattle.luks_store.specs.SlotCommits.Images.{IsEither, IsSpared, handed_with, next_header}
use Rattle.luks_store.specs.SlotCommits.Promises.{Continues, EndsKept, IsNextSlot, KeepsHeaders, ShowsCertain}
use Rattle.luks_store.specs.declared.slot_commit.writing.SlotCommit.{SlotCommit}
use Rattle.image_laws.specs.Started.Gaps.{GapsSpareKeys, RunsKeepContents}
use Rattle.image_laws.specs.Started.Starting.{StartedVolumesStand}

some_atom : (atom : ℕ) → IsAtom atom → 0 < atom
some_atom atom (inl is) = rw is (omega arith)
some_atom atom (inr is) = rw is (omega arith)

-- the laws that are put together
pub record Laws : Type 0 where
  pub gaps : RunsKeepContents
  pub spares : GapsSpareKeys
  pub started : StartedVolumesStand
  pub may : MayStartThere
  pub keeps : KeepsHeaders
  pub ends : EndsKept
  pub areas : AreasBeginBehind
  pub spelt : Spelt

module _ (laws : Laws) (sizes : Sizes) (header next : Stored) (w : Wish) (pass seed : List ℕ)
    (slot : SlotCommit) (first : List ℕ) (between : Device)
    (disk : IsDisk sizes.atom (all_atoms sizes)) (wish : IsWish w sizes.atom)
    (shows : ShowsSizes sizes between) (mended : IsMended sizes header first between)
    (p : Placement) (repair : Option Repair) (was : Device)
    (known : IsFoundOn sizes header p repair was) (made : IsMade header w pass seed slot)
    (next_is : IsNextStored slot.commit next) (fits : FitsSlot slot between) where
  abbrev before : Stored
  before = mended.stands.holds.stored

  abbrev now : List ℕ
  now = mended.now

  same_meta : before.valid.meta ≡ header.valid.meta
  same_meta = ap (λ (c : Checked). c.meta) mended.stands.holds.same

  same_size : before.copies.used.header.hdr_size ≡ header.copies.used.header.hdr_size
  same_size =
      let one = laws.areas sizes (front_of sizes now) before mended.stands.holds.held in
      let other = known.begin in
      let same = ap (λ (m : Parts). areas_begin m.config) same_meta in
      omega (arith, one, other, same)

  -- ---- the commit follows the header that is mended
  continues : Continues before slot.commit
  continues = record {
    sizes = made.is.next.sizes ∙ ap (λ (c : Checked). c.sizes) (sym mended.stands.holds.same);
    size = ap (λ (h : BinHeader). h.hdr_size) made.is.next.header ∙ sym same_size;
    whole = made.is.next.whole;
    follows = subst (λ (m : List ℕ). Follows header_reader m
        (meaning_of (primary_of slot.commit.copies))) (sym mended.means) made.is.next.follows;
  }

  free_here : IsFree before.valid.meta [] sizes.atom (area_len (length (draw_of w seed).key))
      made.begun.places.key
  free_here =
      free before.valid.meta sizes w pass (draw_of w seed) made.begun
      (begins laws.gaps laws.spares laws.started laws.may sizes header next w pass seed slot first now disk wish
      mended.stands known.sound known.sizes_are made next_is) made.drawn

  next_slot : IsNextSlot sizes before next slot now
  next_slot = record {
    held = mended.stands.holds.held;
    good = mended.good;
    stored = good_stored laws.spelt sizes (front_of sizes now) before
        (some_atom sizes.atom disk.known) mended.stands.holds.held mended.good;
    sizes_are = ap (λ (c : Checked). c.sizes) mended.stands.holds.same ∙ known.sizes_are;
    commit = continues;
    prepared = made.is.prepared;
    next_stored = next_is;
    whole = subst (λ (n : ℕ). n % sizes.atom ≡ 0) (sym made.is.offset) free_here.whole;
    behind = subst (λ (n : ℕ). areas_begin before.valid.meta.config ≤ n) (sym made.is.offset)
        free_here.behind;
  }

  certain : ShowsCertain sizes now between
  certain = record {
    known = disk.known;
    even = shows.even;
    certain = mended.certain;
  }

  -- ---- the images
  spared : (cells : List Cell) (image : List (List ℕ)) → IsSpared sizes header slot cells image
      → IsSpared sizes before slot cells image
  spared cells image is = record {
    is = is.is;
    handed = is.handed;
    past = subst (λ (m : List ℕ). HasPast header_reader (record {
      means = m;
      first = before.copies.used.bytes;
      second = before.copies.used.bytes;
    }) is.handed) (sym mended.means) is.past;
    genuine = subst (λ (n : ℕ). IsGenuine header_reader n
        (handed_with (next_header slot) is.handed) (front_of sizes (joined image)))
        (sym same_size) is.genuine;
  }

  images : (cells : List Cell) → IsEither sizes before next slot now cells
      → ImagesStand sizes pass header slot first cells
  images cells either image is =
      stands_on laws.gaps laws.spares laws.started laws.may sizes header next w pass seed slot first now disk
      wish mended.stands known.sound known.sizes_are made next_is (joined image)
      (either image (spared cells image is))

  pub tells : (new : Device) (result : Result (Unit {0}) Failed)
      → WritesSlot slot between new result → TellsOn sizes pass header slot first between new
  tells new result writes told told_is =
      let has = laws.keeps sizes before next slot now between new result next_slot fits certain
      writes told told_is in
      let since = has.2 in (
        has.0,
        has.1,
        record {
          more = since.more;
          past = since.past;
          each = λ k d below. images _ (since.each k d below);
          last = images told.now since.last;
        },
      )

  pub ended : (new : Device) → WritesSlot slot between new succeeded → (told : Told)
      → new.told ≡ Some told → HasBegun sizes pass (draw_of w seed).key first (content told.now)
  ended new writes told told_is =
      let kept = laws.ends sizes before next slot now between new next_slot fits certain writes told
      told_is in
      has_begun laws.gaps laws.spares laws.started laws.may sizes header next w pass seed slot first now disk
      wish mended.stands known.sound known.sizes_are made next_is (content told.now)
      (record {
        metadata = record { stored = next; held = kept.held; same = refl };
        area = kept.area;
        rest = kept.rest;
      })

  pub keeps_next : (new : Device) → WritesSlot slot between new succeeded → (told : Told)
      → new.told ≡ Some told → KeepsNext sizes slot made.begun.meta told.now
  keeps_next new writes told told_is =
      let kept = laws.ends sizes before next slot now between new next_slot fits certain writes told
      told_is in
      record {
        certain = kept.certain;
        next = next;
        is = next_is;
        meta_is = next_meta header w pass seed slot next made next_is;
        held = kept.held;
        good = kept.good;
        area = kept.area;
      }

-- ---- a disk that tells its bytes
module _ (laws : Laws) (sizes : Sizes) (header next : Stored) (w : Wish) (pass seed : List ℕ)
    (slot : SlotCommit) (first : List ℕ) (between : Device)
    (disk : IsDisk sizes.atom (all_atoms sizes)) (wish : IsWish w sizes.atom)
    (shows : ShowsSizes sizes between) (mended : IsMended sizes header first between)
    (p : Placement) (repair : Option Repair) (was : Device)
    (known : IsFoundOn sizes header p repair was) (made : IsMade header w pass seed slot)
    (next_is : IsNextStored slot.commit next) (fits : FitsSlot slot between)
    (long : length mended.now ≡ between.atoms * between.size) where
  abbrev start : Told
  start = sure_table between mended.now

  begun : IsShade between start
  begun = sure_shade between mended.now mended.values long

  told_is : (told : Told) → Some start ≡ Some told → start ≡ told
  told_is told is = cc

  shows_too : ShowsSizes sizes (shade between start)
  shows_too = record {
    atom = shows.atom;
    known = shows.known;
    header = shows.header;
    agrees = λ told is. subst (λ (t : Told). between.values ≡ Some (content t.now))
        (told_is told is) begun.agrees;
    even = λ told is. subst (λ (t : Told). lengths (currents t.now)
        ≡ replicate between.atoms between.size) (told_is told is) begun.even;
    whole = shows.whole;
  }

  mended_too : IsMended sizes header first (shade between start)
  mended_too = record {
    now = mended.now;
    values = mended.values;
    stands = mended.stands;
    good = mended.good;
    means = mended.means;
    certain = λ told is. subst (λ (t : Told). IsCertain sizes mended.now t.now) (told_is told is)
        (subst (λ (bytes : List ℕ). IsCertain sizes bytes start.now)
        (sure_content between mended.now long)
        (certain_now sizes (shade between start) start (sure_cells between mended.now) shows_too
        refl refl));
  }

  fits_too : FitsSlot slot (shade between start)
  fits_too = record {
    begun = fits.begun;
    sizes = record {
      atom = fits.sizes.atom;
      header = fits.sizes.header;
      main = fits.sizes.main;
      all = fits.sizes.all;
      alone = fits.sizes.alone;
    };
    area = fits.area;
  }

  is_atom : IsAtom between.size
  is_atom = subst (λ (n : ℕ). IsAtom n) shows.atom shows.known

  lies : LiesOn slot between.size between.atoms
  lies =
      let copies = made.is.fit between fits.sizes is_atom in
      record { area = fits.area; first = copies.first; second = copies.second }

  pub held_on : (new : Device) → WritesSlot slot between new succeeded → (bytes : List ℕ)
      → new.values ≡ Some bytes → HasBegun sizes pass (draw_of w seed).key first bytes
  held_on new writes bytes values =
      let all = shade_calls slot slot_calls between new start (some_atom between.size is_atom) lies
      begun writes in
      let same : content all.next.now ≡ bytes =
      (let e : Some (content all.next.now) ≡ Some bytes = sym all.is.agrees ∙ values in cc) in
      subst (λ (b : List ℕ). HasBegun sizes pass (draw_of w seed).key first b) same
      (ended laws sizes header next w pass seed slot first (shade between start) disk wish shows_too
      mended_too p repair was known made next_is fits_too (shade new all.next) all.calls_are
      all.next refl)

-- ---- all of it
pub slots_keep : Laws → DiskOpeningsMend → SlotsKeepContents
slots_keep laws mend sizes key w pass seed old header repair slot between new result first disk wish
    shows ready run shows_between fits writes is =
    let checked = ready.checked in
    let mended = mend sizes header checked.placement repair old between shows checked.found
    shows_between run first is in
    let loaded = ready.made.is.loaded in
    record {
      tables = tells laws sizes header loaded.0 w pass seed slot first between disk wish
          shows_between mended checked.placement repair old checked.found ready.made
          loaded.1 fits new result writes;
      done = λ same. ended laws sizes header loaded.0 w pass seed slot first between disk wish
          shows_between mended checked.placement repair old checked.found ready.made
          loaded.1 fits new
          (subst (λ (r : Result (Unit {0}) Failed). WritesSlot slot between new r) same writes);
      kept = λ same. keeps_next laws sizes header loaded.0 w pass seed slot first between disk wish
          shows_between mended checked.placement repair old checked.found ready.made
          loaded.1 fits new
          (subst (λ (r : Result (Unit {0}) Failed). WritesSlot slot between new r) same writes);
      held = λ same whole. held_on laws sizes header loaded.0 w pass seed slot first between disk wish
          shows_between mended checked.placement repair old checked.found ready.made
          loaded.1 fits (whole mended.now mended.values) new
          (subst (λ (r : Result (Unit {0}) Failed). WritesSlot slot between new r) same writes);
    }
