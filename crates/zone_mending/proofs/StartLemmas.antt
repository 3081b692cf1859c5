-- What is known of a zone that is written again when it begins, and what calls of others leave.
use Rattle.std.proofs.Common.{◌≡◌, ◌∙◌, ℕ, ◌+◌, ◌<◌, false, List, length, Ok, Some, sym}
use Rattle.std.proofs.Common.{subst, arith}
use Rattle.crash_laws.specs.HeaderAreas.Commits.{begun, ShowsCommit}
use Rattle.crash_laws.specs.HeaderAreas.Headers.{Header, IsHeader, IsLaidOut, Layout}
use Rattle.sector_disk.specs.DiskViews.Parts.{block_at, cell_in}
use Rattle.sector_disk.specs.DiskViews.Views.{View, view_of_cells}
use Rattle.crash_laws.specs.HotZones.Calls.{CallBeside}
use Rattle.crash_laws.specs.HotZones.Promises.{IsFound, ZoneResumes, ZoneStays}
use Rattle.crash_laws.specs.HotZones.Zones.{Is, Texts, ShowsZone, found_by}
use Rattle.hotzone.proofs.CallLemmas.{table-long}
use Rattle.hotzone.specs.Known.{header_by}
use Rattle.hotzone.specs.Sites.{count_of, kind_of}
use Rattle.luks_store.specs.Copying.Meanings.{header_reader, meaning_of}
use Rattle.luks_store.proofs.SettledLemmas.{current_is}
use Rattle.luks_store.specs.Commits.{AreGood}
use Rattle.luks_store.specs.Devices.{IsCertain, front_of}
use Rattle.luks_store.specs.Loads.{stored_in}
use Rattle.luks_store.specs.Promises.{CommitsBegin}
use Rattle.luks_store.specs.declared.loaded.Stored.{Stored}
use Rattle.sector_disk.specs.Devices.{Device}
use Rattle.sector_disk.specs.Steps.{Told}
use Rattle.volume_machine.specs.Seals.{Seals}
use Rattle.zone_mending.proofs.ApartLemmas.{zone-apart}
use Rattle.zone_mending.proofs.MendLemmas.{same-header}
use Rattle.zone_mending.proofs.MenderLemmas.{fits-disk}
use Rattle.zone_mending.specs.Known.{HasTexts, HoldsFor, HoldsZone, IsKnown, phase_by}
use Rattle.zone_mending.specs.Known.{zone_in}
use Rattle.zone_mending.specs.Menders.{IsMending, stage_of_move}
use Rattle.zone_mending.specs.Promises.{IsOver}
use Rattle.zone_mending.specs.declared.mender.MendCall.TheVariants.{ReadSaved}
use Rattle.zone_mending.specs.declared.mender.Mender.{Mender}

-- the header to come is one
next-header : {C : Type 0} (sector : C → ℕ) (m : Mender C) → IsMending sector m
    → IsHeader header_reader (header_by m.moved.commit)
next-header sector m mends =
    let follows = mends.moves.follows in
    subst (IsHeader header_reader)
    (sym (same-header follows.first m.moved.commit follows.same)) follows.commit.whole

-- ---- its beginning, where old atoms and new ones are known
pub mend-resumes : {C : Type 0} (sector : C → ℕ) (seals : Seals) → ZoneResumes → (layout : Layout)
    (opened : Header (List ℕ)) (texts : Texts) (mender : Mender C) (device : Device) (view : View)
    → IsOver sector layout mender device → mender.next ≡ ReadSaved 0
    → opened.means ≡ meaning_of mender.loaded.copies.used.bytes → IsHeader header_reader opened
    → HasTexts seals mender.site (zone_in mender opened) texts
    → IsFound mender.site.atom layout (zone_in mender opened) texts view
    → IsKnown seals layout opened texts mender view
mend-resumes sector seals resumes layout opened texts mender device view over at means header are
    found = record {
      means = means;
      is_header = header;
      next_header = next-header sector mender over.mends;
      apart = zone-apart sector layout mender device over opened;
      texts_are = are;
      part = subst (HoldsFor mender.site mender.buffer mender.digests texts) (sym at) tt;
      shows = subst (λ n. ShowsZone mender.site.atom layout (zone_in mender opened) texts
          (phase_by (count_of mender.site) (stage_of_move mender) n) false view) (sym at)
          (resumes mender.site.atom layout (zone_in mender opened) texts view found);
    }

-- ---- so on a disk that holds its bytes for certain, and in them both copies of the header
pub mend-starts : {C : Type 0} (sector : C → ℕ) (seals : Seals) → ZoneResumes → CommitsBegin
    → (layout : Layout) (mender : Mender C) (device : Device) (now : Told) (bytes : List ℕ)
    (stored : Stored) (texts : Texts) → IsOver sector layout mender device
    → mender.next ≡ ReadSaved 0 → device.told ≡ Some now
    → IsCertain mender.loaded.valid.sizes bytes now.now
    → stored_in mender.loaded.valid.sizes (front_of mender.loaded.valid.sizes bytes) ≡ Ok stored
    → AreGood stored.copies
    → meaning_of stored.copies.used.bytes ≡ meaning_of mender.loaded.copies.used.bytes
    → IsLaidOut mender.loaded.valid.sizes.atom mender.loaded.valid.sizes.header_atoms
    stored.copies.used.header.hdr_size layout
    → HoldsZone mender.site bytes texts
    → ((opened : Header (List ℕ)) → HasTexts seals mender.site (zone_in mender opened) texts)
    → (opened : Header (List ℕ)) × IsKnown seals layout opened texts mender (view_of_cells now.now)
mend-starts sector seals resumes begins layout mender device now bytes stored texts over at told
    certain held good means laid found has =
    let sizes = mender.loaded.valid.sizes in
    let site = mender.site in
    let from = begins sizes bytes now.now stored layout (header_by mender.moved.commit) certain laid
    held good in
    let fits = fits-disk sector mender device over.mends over.sizes in
    let own_fits = fits.own in
    let store_fits = fits.store in
    let many = table-long device over.tells now told in (
      from.0,
      mend-resumes sector seals resumes layout from.0 texts mender device (view_of_cells now.now) over
          at (from.2 ∙ means) from.1 (has from.0) (record {
            own_settled = λ i below value is. certain.only _ value is;
            store_settled = λ i below value is. certain.only _ value is;
            own = λ i below.
                subst (λ v. Is (found_by (kind_of site.guard)) texts i v)
                (sym (now-is fits.size (site.own + i) (omega (arith, below, own_fits, many))))
                (found.own i below);
            store = λ j below.
                now-is fits.size (site.store + j) (omega (arith, below, store_fits, many))
                ∙ found.saved j below;
            header = subst (λ a. ShowsCommit a layout from.0 (header_by mender.moved.commit) begun
                false (view_of_cells now.now)) (over.sizes.atom ∙ sym fits.size) from.4;
          }),
    )
  where
    now-is : mender.site.atom ≡ device.size → (place : ℕ) → place < length now.now
        → (cell_in now.now place).current ≡ block_at mender.site.atom bytes place
    now-is size place below =
        subst (λ a. (cell_in now.now place).current ≡ block_at a bytes place)
        (over.sizes.atom ∙ sym size)
        (current_is mender.loaded.valid.sizes layout stored.copies.used.header.hdr_size bytes now.now
        certain laid place below)

-- ---- what others do beside it
pub mend-stays : {C : Type 0} → ZoneStays → (seals : Seals) (layout : Layout)
    (opened : Header (List ℕ)) (texts : Texts) (mender : Mender C) (old new : View)
    → CallBeside layout (zone_in mender opened) old new false
    → IsKnown seals layout opened texts mender old → IsKnown seals layout opened texts mender new
mend-stays stays seals layout opened texts mender old new call known = record {
  means = known.means;
  is_header = known.is_header;
  next_header = known.next_header;
  apart = known.apart;
  texts_are = known.texts_are;
  part = known.part;
  shows =
      stays mender.site.atom layout (zone_in mender opened) texts
      (phase_by (count_of mender.site) (stage_of_move mender) mender.next) false old new call
      known.shows;
}
