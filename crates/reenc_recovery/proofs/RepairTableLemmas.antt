-- The tables of a repair: each image of each stands for what the disk's bytes stood for.
use Rattle.std.proofs.Common.{◌≡◌, inl, inr, ℕ, suc, ◌+◌, ◌*◌, ◌/◌, ◌<◌, ◌≤◌, List, [], ◌∷◌, Bool}
use Rattle.std.proofs.Common.{true, false}
use Rattle.std.proofs.Common.{length, map, replicate, Option, Some, None, Result, Ok, Err}
use Rattle.std.proofs.Common.{refl, sym, ◌∙◌, ap, subst, arith}
use Rattle.std.proofs.Math.Nat.{le_of_mul-le-mul_right}
use Rattle.std.proofs.lemmas.List.{length-map, length-replicate}
use Rattle.base_terms.specs.Blocks.{joined, lengths}
use Rattle.base_terms.specs.declared.failed.Failed.{Failed}
use Rattle.crash_laws.specs.HeaderAreas.Commits.{HasPast, TriesCopy, WritesCopy}
use Rattle.crash_laws.specs.HeaderAreas.Headers.{Copy, Handed, Header, IsGenuine, IsLaidOut, Layout}
use Rattle.crash_laws.specs.HeaderAreas.Headers.{byte_of, primary, text_of}
use Rattle.base_terms.specs.declared.disk_sizes.Sizes.{Sizes}
use Rattle.sector_disk.proofs.DiskViews.Blockwise.{blocks_end}
use Rattle.sector_disk.proofs.DiskViews.Entries.{length-changed}
use Rattle.sector_disk.proofs.DiskViews.TableEntries.{length-thinned, length-tried, synced_view}
use Rattle.sector_disk.specs.DiskViews.Views.{IsThinned, view_of_cells}
use Rattle.luks_store.specs.Copying.Held.{copy_in, place_in}
use Rattle.luks_store.specs.Copying.Meanings.{header_of, header_reader}
use Rattle.luks_store.specs.Copying.Promises.{MeanTheSame}
use Rattle.luks_store.specs.Copying.Seen.{HasRoomFor, RepairsAreSeen}
use Rattle.luks_store.specs.Copying.Steps.{RepairCall}
use Rattle.luks_store.specs.declared.header_copies.repair.Repair.{Repair}
use Rattle.luks_store.specs.declared.header_copies.repair.RepairStage.TheVariants.{Broken, Written}
use Rattle.luks_rules.specs.Areas.{areas_begin}
use Rattle.luks_store.proofs.PageLemmas.{page-place, size-pages}
use Rattle.luks_store.specs.Devices.{front_of, IsCertain}
use Rattle.luks_store.specs.Loads.{stored_in}
use Rattle.luks_store.specs.Promises.{UsedStands}
use Rattle.luks_store.specs.declared.loaded.Stored.{Stored}
use Rattle.reenc_recovery.specs.Calls.{DiskSyncsAndReads, TellsSized, WritesRepair}
use Rattle.reenc_recovery.specs.Headers.{DiskOpeningsKeepHeaders, FrontsKeep, IsFoundHeader}
use Rattle.reenc_recovery.specs.Images.{HoldsOn, KeepsContents, StandsAs}
use Rattle.reenc_recovery.specs.Promises.{RepairGoesOn, RepairsBegin, RepairsGoOn, RepairsHoldOn}
use Rattle.reenc_recovery.specs.Repairing.{IsLeft, IsRepaired, ShowsRepairOf}
use Rattle.reenc_recovery.specs.Tables.{IsSpared, ShowsSizes, StandsSince, StandsStill, header_in}
use Rattle.reenc_recovery.proofs.ImageLemmas.{same_stored}
use Rattle.reenc_recovery.proofs.TableLemmas.{IsSettledSince, StillSince, currents-synced, settled}
use Rattle.reenc_recovery.proofs.TableLemmas.{disk_reads_keep, stands_later, still_joined, still_none}
use Rattle.reenc_recovery.proofs.TableLemmas.{still_one}
use Rattle.reenc_recovery.proofs.WritingLemmas.{IsWriting, SomeWriting, writing}
use Rattle.sector_disk.specs.Cells.{AreSized, Cell, content, currents, synced}
use Rattle.sector_disk.specs.Devices.{Device, SyncCall, failed_call, succeeded}
use Rattle.sector_disk.specs.Geometry.{IsAtom}
use Rattle.sector_disk.specs.Steps.{Told, then_table}

-- ---- how both copies lie
abbrev pub layout_of : ℕ → ℕ → Layout
layout_of atom size = record {
  first = record { start = 0; count = size / atom };
  second = record { start = size / atom; count = size / atom };
}

twice : (atom count size : ℕ) → count * atom ≡ size → (count + count) * atom ≡ 2 * size
twice atom count size whole =
    let sum = blocks_end atom count count in
    omega (arith, sum, whole)

both_within : (atom size atoms : ℕ) → 0 < atom → size / atom * atom ≡ size
    → 2 * size ≤ atoms * atom → size / atom + size / atom ≤ atoms
both_within atom size atoms some whole room =
    le_of_mul-le-mul_right
    (let both : (size / atom + size / atom) * atom ≡ 2 * size =
    twice atom (size / atom) size whole in
    let within : (size / atom + size / atom) * atom ≤ atoms * atom = omega (arith, both, room) in
    within)
    some

laid_out : (atom size atoms : ℕ) → 0 < atom → size / atom * atom ≡ size
    → 2 * size ≤ atoms * atom → IsLaidOut atom atoms size (layout_of atom size)
laid_out atom size atoms some whole room = record {
  first = refl;
  second = refl;
  same = refl;
  long = whole;
  within = both_within atom size atoms some whole room;
}

some_atom : (atom : ℕ) → IsAtom atom → 0 < atom
some_atom atom (inl is) = rw is (omega arith)
some_atom atom (inr is) = rw is (omega arith)

-- ---- how many atoms a table has
length-lengths : (values : List (List ℕ)) → length (lengths values) ≡ length values
unfolding lengths
length-lengths [] = refl
length-lengths (value ∷ values) = ap (λ n. suc n) (length-lengths values)

length-currents : (cells : List Cell) → length (currents cells) ≡ length cells
unfolding currents
length-currents cells = length-map cells (λ cell. cell.current)

many : (cells : List Cell) (atoms atom : ℕ) → lengths (currents cells) ≡ replicate atoms atom
    → length cells ≡ atoms
many cells atoms atom even =
    sym (length-currents cells) ∙ sym (length-lengths (currents cells)) ∙ ap length even
    ∙ length-replicate atoms atom

-- ---- the repair
module _ (seen : RepairsAreSeen) (begins : RepairsBegin) (goes : RepairsGoOn)
    (each : RepairsHoldOn) (sizes : Sizes) (header : Stored)
    (repair : Repair) (old : Device) (shows : ShowsSizes sizes old)
    (found : IsFoundHeader sizes header (Some repair) old) (first : List ℕ)
    (keeps : (now : List ℕ) → HoldsOn sizes header first now → KeepsContents sizes first now)
    (held : stored_in sizes (front_of sizes first) ≡ Ok header) (bad : Copy) (one two : List ℕ)
    (is : IsWriting header repair first bad one two) where
  abbrev size : ℕ
  size = header.copies.used.header.hdr_size

  abbrev atom : ℕ
  atom = sizes.atom

  abbrev layout : Layout
  layout = layout_of atom size

  abbrev both : Header (List ℕ)
  both = header_of one two

  abbrev Shown : Bool → Bool → List Cell → Type 0
  Shown written broken cells = ShowsRepairOf sizes layout both bad written broken first cells

  some : 0 < atom
  some = some_atom atom shows.known

  whole_atoms : size / atom * atom ≡ size
  whole_atoms =
      page-place atom size shows.known
      (size-pages size found.stored.copies.whole.one_of_nine)

  laid : IsLaidOut atom sizes.header_atoms size layout
  laid = laid_out atom size sizes.header_atoms some whole_atoms found.room

  means_size : header_reader.size both.means ≡ size
  means_size = sym (is.whole.size primary) ∙ is.one_sized

  laid_by_means : IsLaidOut atom sizes.header_atoms (header_reader.size both.means) layout
  laid_by_means =
      subst (λ (n : ℕ). IsLaidOut atom sizes.header_atoms n layout) (sym means_size) laid

  laid_by_first : IsLaidOut atom sizes.header_atoms (length both.first) layout
  laid_by_first =
      subst (λ (n : ℕ). IsLaidOut atom sizes.header_atoms n layout) (sym is.one_sized) laid

  begin_is : areas_begin header.valid.meta.config
      ≡ (layout.second.start + layout.second.count) * sizes.atom
  begin_is =
      found.begin
      ∙ (let whole = whole_atoms in
      let e : 2 * size ≡ (size / atom + size / atom) * atom = grind (arith, whole) in e)

  -- each spared image of what is shown stands for the same
  repaired : (handed : Handed) → HasPast header_reader (header_in header) handed
      → IsRepaired sizes header both layout handed
  repaired handed past = record {
    whole = is.whole;
    means = is.means;
    past = subst (λ (m : List ℕ). HasPast header_reader
        (record { means = m; first = one; second = two }) handed) (sym is.means) past;
    laid = laid_by_means;
    begin = begin_is;
    sizes_are = found.sizes_are;
  }

  left : (cells : List Cell) (image : List (List ℕ)) (spared : IsSpared sizes header cells image)
      → IsLeft sizes both spared.handed cells image
  left cells image spared = record {
    is = spared.is;
    genuine = subst (λ (n : ℕ). IsGenuine header_reader n spared.handed
        (front_of sizes (joined image))) (sym means_size) spared.genuine;
  }

  stands : (written broken : Bool) (cells : List Cell) → AreSized atom cells
      → Shown written broken cells → StandsStill sizes first cells
  stands written broken cells sized shown stored stored_is image spared =
      let same =
      same_stored (stored_in sizes (front_of sizes first)) stored header stored_is held in
      let mine = subst (λ (s : Stored). IsSpared sizes s cells image) same spared in
      let on = each sizes header both layout mine.handed bad written broken first cells image
      (repaired mine.handed mine.past) shown sized (left cells image mine) found.stored held in
      subst (λ (s : Stored). StandsAs sizes s first (joined image)) (sym same)
      (record { holds = on; keeps = keeps (joined image) on })

  -- ---- its calls
  room_for : (device : Device) → device.size ≡ old.size → device.atoms ≡ old.atoms
      → ((told : Told) → device.told ≡ Some told → length told.now ≡ old.atoms)
      → HasRoomFor size one two layout device
  room_for device same_size same_atoms even = record {
    some = subst (λ (n : ℕ). 0 < n) (shows.atom ∙ sym same_size) some;
    laid = subst (λ (n : ℕ). IsLaidOut n device.atoms size layout) (shows.atom ∙ sym same_size)
        (let more = shows.header in
        let l = laid in
        record {
          first = l.first;
          second = l.second;
          same = l.same;
          long = l.long;
          within = omega (arith, l.within, more, same_atoms);
        });
    first = is.one_sized;
    second = is.two_sized;
    even = λ told told_is. even told told_is ∙ sym same_atoms;
  }

  on : (from to : List Cell) → length to ≡ length from
      → RepairGoesOn sizes layout both bad first from to
  on from to count = goes sizes layout both bad first from to laid_by_first count

  same_told : (told : Option Told) (a b : Told) → told ≡ Some a → told ≡ Some b → a ≡ b
  same_told told a b a_is b_is = (let e : Some a ≡ Some b = sym a_is ∙ b_is in cc)

  as_written : (from to : Device) (result : Result (Unit {0}) Failed)
      → WritesRepair repair from to result
      → RepairCall Broken (text_of both bad) (byte_of size bad) from to result
  as_written from to result call =
      subst (λ (n : ℕ). RepairCall Broken (text_of both bad) n from to result) is.at
      (subst (λ (bytes : List ℕ). RepairCall Broken bytes (place_in repair) from to result)
      (sym is.text) call)

  -- the write, done and failed
  by_write : (from to : Device) (mid now : Told) → from.size ≡ old.size → from.atoms ≡ old.atoms
      → ((told : Told) → from.told ≡ Some told → length told.now ≡ old.atoms)
      → WritesRepair repair from to succeeded → from.told ≡ Some mid → to.told ≡ Some now
      → Shown false false mid.now
      → Shown true false now.now × (length now.now ≡ length mid.now)
      × (now ≡ then_table mid now.now)
  by_write from to mid now same_size same_atoms even call mid_is now_is shown =
      let view = (seen one two bad size layout from to now
      (room_for from same_size same_atoms even) now_is).0 (as_written from to succeeded call) in
      let moved = call.told now now_is in
      let one_told = same_told from.told moved.0 mid moved.1 mid_is in
      let other_told = same_told from.told view.0 mid view.1 mid_is in
      let step = subst (λ (t : Told). WritesCopy from.size layout both bad (view_of_cells t.now)
      (view_of_cells now.now)) other_told view.2 in
      let count : length now.now ≡ length mid.now =
      ap length moved.2.step ∙ length-changed _ moved.0.now _ _
      ∙ ap (λ (t : Told). length t.now) one_told in (
        (on mid.now now.now count).written shown
            (subst (λ (n : ℕ). WritesCopy n layout both bad (view_of_cells mid.now)
            (view_of_cells now.now)) (same_size ∙ sym shows.atom) step),
        count,
        subst (λ (t : Told). now ≡ then_table t now.now) one_told moved.2.one,
      )

  by_try : (from to : Device) (mid now : Told) → from.size ≡ old.size → from.atoms ≡ old.atoms
      → ((told : Told) → from.told ≡ Some told → length told.now ≡ old.atoms)
      → WritesRepair repair from to failed_call → from.told ≡ Some mid → to.told ≡ Some now
      → Shown false false mid.now → AreSized atom now.now → StillSince sizes first mid now
  by_try from to mid now same_size same_atoms even call mid_is now_is shown sized =
      let view = (seen one two bad size layout from to now
      (room_for from same_size same_atoms even) now_is).1 (as_written from to failed_call call) in
      let other_told = same_told from.told view.0 mid view.1 mid_is in
      let step = subst (λ (n : ℕ). TriesCopy n layout both bad (view_of_cells mid.now)
      (view_of_cells now.now)) (same_size ∙ sym shows.atom)
      (subst (λ (t : Told). TriesCopy from.size layout both bad (view_of_cells t.now)
      (view_of_cells now.now)) other_told view.2) in
      elim call.told as (λ _. StillSince sizes first mid now) [
        | inl same ↦
            (let one_now = same_told from.told now mid (sym same ∙ now_is) mid_is in
            still_none sizes first mid now one_now
            (stands false false now.now sized
            (subst (λ (t : Told). Shown false false t.now) (sym one_now) shown)))
        | inr moves ↦
            (let moved = moves now now_is in
            let one_told = same_told from.told moved.0 mid moved.1 mid_is in
            let count : length now.now ≡ length mid.now =
            length-tried moved.0.now _ _ now.now moved.2.step
            ∙ ap (λ (t : Told). length t.now) one_told in
            still_one sizes first mid now
            (subst (λ (t : Told). now ≡ then_table t now.now) one_told moved.2.one)
            (stands false true now.now sized ((on mid.now now.now count).tried shown step)))
      ]

  -- the sync behind it, done and failed
  by_sync : (from to : Device) (mid now : Told) → from.size ≡ old.size → from.atoms ≡ old.atoms
      → ((told : Told) → from.told ≡ Some told → length told.now ≡ old.atoms)
      → SyncCall from to succeeded → from.told ≡ Some mid → to.told ≡ Some now
      → Shown true false mid.now → AreSized atom now.now → StillSince sizes first mid now
  by_sync from to mid now same_size same_atoms even call mid_is now_is shown sized =
      let moved = call.told now now_is in
      let one_told = same_told from.told moved.0 mid moved.1 mid_is in
      let cells : now.now ≡ map synced mid.now =
      moved.2.step ∙ ap (λ (t : Told). map synced t.now) one_told in
      let count : length now.now ≡ length mid.now =
      ap length cells ∙ length-map mid.now synced in
      still_one sizes first mid now
      (subst (λ (t : Told). now ≡ then_table t now.now) one_told moved.2.one)
      (stands true false now.now sized ((on mid.now now.now count).synced shown
      (synced_view mid.now now.now cells)))

  by_thin : (from to : Device) (mid now : Told) → from.size ≡ old.size → from.atoms ≡ old.atoms
      → ((told : Told) → from.told ≡ Some told → length told.now ≡ old.atoms)
      → SyncCall from to failed_call → from.told ≡ Some mid → to.told ≡ Some now
      → Shown true false mid.now → AreSized atom now.now → StillSince sizes first mid now
  by_thin from to mid now same_size same_atoms even call mid_is now_is shown sized =
      let view = (seen one two bad size layout from to now
      (room_for from same_size same_atoms even) now_is).3 call in
      let other_told = same_told from.told view.0 mid view.1 mid_is in
      let step = subst (λ (t : Told). IsThinned (view_of_cells t.now) (view_of_cells now.now))
      other_told view.2 in
      elim call.told as (λ _. StillSince sizes first mid now) [
        | inl same ↦
            (let one_now = same_told from.told now mid (sym same ∙ now_is) mid_is in
            still_none sizes first mid now one_now
            (stands true false now.now sized
            (subst (λ (t : Told). Shown true false t.now) (sym one_now) shown)))
        | inr moves ↦
            (let moved = moves now now_is in
            let one_told = same_told from.told moved.0 mid moved.1 mid_is in
            let count : length now.now ≡ length mid.now =
            length-thinned moved.0.now now.now moved.2.step
            ∙ ap (λ (t : Told). length t.now) one_told in
            still_one sizes first mid now
            (subst (λ (t : Told). now ≡ then_table t now.now) one_told moved.2.one)
            (stands true true now.now sized ((on mid.now now.now count).thinned shown step)))
      ]

-- ---- the opening
-- the disk after its sync holds its bytes for certain
certain : (sizes : Sizes) (device : Device) (before now : Told) → ShowsSizes sizes device
    → device.told ≡ Some before → now.now ≡ map synced before.now
    → IsCertain sizes (content before.now) now.now
unfolding content
certain sizes device before now shows is cells =
    let view = synced_view before.now now.now cells in
    let same : currents now.now ≡ currents before.now =
    ap (λ (t : List Cell). currents t) cells ∙ currents-synced before.now in
    let count : length now.now ≡ device.atoms =
    ap length cells ∙ length-map before.now synced
    ∙ many before.now device.atoms device.size (shows.even before is) in
    record {
      only = λ place value has. view.candidates place value has ∙ sym (view.current place);
      even = ap (λ values. lengths values) same ∙ shows.even before is
          ∙ ap (λ n. replicate n device.size) (sym count)
          ∙ ap (λ n. replicate (length now.now) n) (sym shows.atom);
      holds = ap (λ values. joined values) same;
      header_atoms = subst (λ (n : ℕ). sizes.header_atoms ≤ n) (sym count) shows.header;
    }

-- and so does a disk each of whose atoms was synced
pub certain_now : (sizes : Sizes) (device : Device) (now : Told) (cells : List Cell)
    → ShowsSizes sizes device → device.told ≡ Some now → now.now ≡ map synced cells
    → IsCertain sizes (content now.now) now.now
unfolding content
certain_now sizes device now cells shows is same =
    let view = synced_view cells now.now same in
    let count : length now.now ≡ device.atoms =
    many now.now device.atoms device.size (shows.even now is) in
    record {
      only = λ place value has. view.candidates place value has ∙ sym (view.current place);
      even = shows.even now is ∙ ap (λ n. replicate n device.size) (sym count)
          ∙ ap (λ n. replicate (length now.now) n) (sym shows.atom);
      holds = refl;
      header_atoms = subst (λ (n : ℕ). sizes.header_atoms ≤ n) (sym count) shows.header;
    }

many_read : (sizes : Sizes) (old read : Device) → ShowsSizes sizes old
    → DiskSyncsAndReads old read → (told : Told) → read.told ≡ Some told
    → length told.now ≡ old.atoms
many_read sizes old read shows run told is =
    let has = settled old read run told is in
    ap length has.2.cells ∙ length-map has.0.now synced
    ∙ many has.0.now old.atoms old.size (shows.even has.0 has.1)

module _ (seen : RepairsAreSeen) (begins : RepairsBegin) (goes : RepairsGoOn)
    (each : RepairsHoldOn) (mean : MeanTheSame) (used : UsedStands) (sizes : Sizes)
    (header : Stored) (repair : Repair) (old read : Device)
    (shows : ShowsSizes sizes old)
    (found : IsFoundHeader sizes header (Some repair) old)
    (fronts : FrontsKeep sizes header old)
    (run : DiskSyncsAndReads old read) (mid : Told) (mid_is : read.told ≡ Some mid) where
  abbrev device : Device
  device = old

  abbrev was : (before : Told) × (device.told ≡ Some before) × IsSettledSince before mid
  was = settled old read run mid mid_is

  abbrev first : List ℕ
  first = content was.0.now

  held : stored_in sizes (front_of sizes first) ≡ Ok header
  held = found.held first (shows.agrees was.0 was.1)

  keeps : (now : List ℕ) → HoldsOn sizes header first now → KeepsContents sizes first now
  keeps = fronts first (shows.agrees was.0 was.1)

  writes : SomeWriting header repair first
  writes =
      writing mean used sizes header repair first found.stored found.begin found.room held
      found.asked

  begun : ShowsRepairOf sizes
      (layout_of sizes.atom header.copies.used.header.hdr_size) (header_of writes.one writes.two)
      writes.bad false false first mid.now
  begun =
      begins sizes (layout_of sizes.atom header.copies.used.header.hdr_size)
      header.copies.used.header.hdr_size first mid.now (header_of writes.one writes.two) writes.bad
      (certain sizes device was.0 mid shows was.1 was.2.cells)
      (laid seen begins goes each sizes header repair device shows found first keeps held writes.bad
      writes.one writes.two writes.is) writes.is.good

  read_size : read.size ≡ device.size
  read_size = run.unwritten.size ∙ run.sync.size

  read_atoms : read.atoms ≡ device.atoms
  read_atoms = run.unwritten.atoms ∙ run.sync.atoms

  -- the write failed
  sized_at : (to : Device) (now : Told) → to.size ≡ device.size → TellsSized to
      → to.told ≡ Some now → AreSized sizes.atom now.now
  sized_at to now same sized now_is =
      subst (λ (n : ℕ). AreSized n now.now) (same ∙ sym shows.atom) (sized now now_is)

  tried : (new : Device) → WritesRepair repair read new failed_call → TellsSized new
      → (now : Told) → new.told ≡ Some now → StandsSince sizes was.0 now
  tried new call sized now now_is =
      stands_later sizes was.0 mid now was.2
      (by_try seen begins goes each sizes header repair device shows found first keeps held writes.bad
      writes.one writes.two writes.is read new mid now read_size read_atoms
      (many_read sizes old read shows run) call mid_is now_is begun
      (sized_at new now (call.size ∙ read_size) sized now_is))

  -- it was done
  module _ (written : Device) (write : WritesRepair repair read written succeeded)
      (tells : TellsSized written) (late : Told) (late_is : written.told ≡ Some late) where
    after : ShowsRepairOf sizes (layout_of sizes.atom header.copies.used.header.hdr_size)
        (header_of writes.one writes.two) writes.bad true false first late.now
        × (length late.now ≡ length mid.now) × (late ≡ then_table mid late.now)
    after =
        by_write seen begins goes each sizes header repair device shows found first keeps held
        writes.bad writes.one writes.two writes.is read written mid late read_size
        read_atoms (many_read sizes old read shows run) write mid_is late_is begun

    still_late : StillSince sizes first mid late
    still_late =
        still_one sizes first mid late after.2
        (stands seen begins goes each sizes header repair device shows found first keeps held writes.bad
        writes.one writes.two writes.is true false late.now
        (sized_at written late (write.size ∙ read_size) tells late_is) after.0)

    many_written : (told : Told) → written.told ≡ Some told → length told.now ≡ device.atoms
    many_written told told_is =
        let same : told ≡ late = (let e : Some told ≡ Some late = sym told_is ∙ late_is in cc) in
        ap (λ (t : Told). length t.now) same ∙ after.1
        ∙ many_read sizes old read shows run mid mid_is

    by_the_sync : (new : Device) → RepairCall Written (copy_in repair) (place_in repair) written new
        succeeded → TellsSized new → (now : Told) → new.told ≡ Some now
        → StandsSince sizes was.0 now
    by_the_sync new call sized now now_is =
        stands_later sizes was.0 mid now was.2
        (still_joined sizes first mid late now still_late
        (by_sync seen begins goes each sizes header repair device shows found first keeps held
        writes.bad writes.one writes.two writes.is written new late now
        (write.size ∙ read_size) (write.atoms ∙ read_atoms) many_written call late_is now_is
        after.0 (sized_at new now (call.size ∙ write.size ∙ read_size) sized now_is)))

    by_the_thin : (new : Device) → RepairCall Written (copy_in repair) (place_in repair) written new
        failed_call → TellsSized new → (now : Told) → new.told ≡ Some now
        → StandsSince sizes was.0 now
    by_the_thin new call sized now now_is =
        stands_later sizes was.0 mid now was.2
        (still_joined sizes first mid late now still_late
        (by_thin seen begins goes each sizes header repair device shows found first keeps held
        writes.bad writes.one writes.two writes.is written new late now
        (write.size ∙ read_size) (write.atoms ∙ read_atoms) many_written call late_is now_is
        after.0 (sized_at new now (call.size ∙ write.size ∙ read_size) sized now_is)))

-- ---- where a table is told, so was each before it
before_sync : (from to : Device) → SyncCall from to succeeded → (now : Told)
    → to.told ≡ Some now → (mid : Told) × (from.told ≡ Some mid)
before_sync from to call now now_is = (let moved = call.told now now_is in (moved.0, moved.1))

before_thin : (from to : Device) → SyncCall from to failed_call → (now : Told)
    → to.told ≡ Some now → (mid : Told) × (from.told ≡ Some mid)
before_thin from to call now now_is =
    elim call.told as (λ _. (mid : Told) × (from.told ≡ Some mid)) [
      | inl same ↦ (now, sym same ∙ now_is)
      | inr moves ↦ (let moved = moves now now_is in (moved.0, moved.1))
    ]

before_write : (repair : Repair) (from to : Device) → WritesRepair repair from to succeeded
    → (now : Told) → to.told ≡ Some now → (mid : Told) × (from.told ≡ Some mid)
before_write repair from to call now now_is =
    (let moved = call.told now now_is in (moved.0, moved.1))

before_try : (repair : Repair) (from to : Device) → WritesRepair repair from to failed_call
    → (now : Told) → to.told ≡ Some now → (mid : Told) × (from.told ≡ Some mid)
before_try repair from to call now now_is =
    elim call.told as (λ _. (mid : Told) × (from.told ≡ Some mid)) [
      | inl same ↦ (now, sym same ∙ now_is)
      | inr moves ↦ (let moved = moves now now_is in (moved.0, moved.1))
    ]

pub disk_openings_keep : RepairsAreSeen → RepairsBegin → RepairsGoOn → RepairsHoldOn
    → MeanTheSame → UsedStands → DiskOpeningsKeepHeaders
disk_openings_keep seen begins goes each mean used sizes header None old new (Ok done) shows found fronts run
    sized now is =
    disk_reads_keep sizes old run.read run.first now
    (ap (λ (d : Device). d.told) (sym run.run) ∙ is)
disk_openings_keep seen begins goes each mean used sizes header None old new (Err failed) shows found
    fronts run sized now is = absurd run.run
disk_openings_keep seen begins goes each mean used sizes header (Some repair) old new (Ok done) shows
    found fronts run sized now is =
    let last = run.run in
    let late = before_sync last.written new last.sync now is in
    let mid = before_write repair run.read last.written last.write late.0 late.1 in
    let since = settled old run.read run.first mid.0 mid.1 in (
      since.0,
      since.1,
      by_the_sync seen begins goes each mean used sizes header repair old run.read shows found fronts
          run.first mid.0 mid.1 last.written last.write last.sized late.0 late.1 new last.sync sized
          now is,
    )
disk_openings_keep seen begins goes each mean used sizes header (Some repair) old new (Err failed)
    shows found fronts run sized now is =
    elim run.run as (λ _. (before : Told) × (old.told ≡ Some before)
    × StandsSince sizes before now) [
      | inl call ↦
          (let mid = before_try repair run.read new call now is in
          let since = settled old run.read run.first mid.0 mid.1 in (
            since.0,
            since.1,
            tried seen begins goes each mean used sizes header repair old run.read shows found fronts
                run.first mid.0 mid.1 new call sized now is,
          ))
      | inr last ↦
          (let late = before_thin last.written new last.sync now is in
          let mid = before_write repair run.read last.written last.write late.0 late.1
          in
          let since = settled old run.read run.first mid.0 mid.1 in (
            since.0,
            since.1,
            by_the_thin seen begins goes each mean used sizes header repair old run.read shows
                found fronts
                run.first mid.0 mid.1 last.written last.write last.sized late.0 late.1 new last.sync
                sized now is,
          ))
    ]
