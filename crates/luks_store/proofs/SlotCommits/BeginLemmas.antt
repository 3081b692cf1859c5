-- Where a new keyslot lies on a disk that holds its bytes for certain, and what the disk then shows.
use Rattle.std.proofs.Common.{◌≡◌, inl, inr, ℕ, ◌+◌, ◌*◌, ◌/◌, ◌%◌, ◌<◌, ◌≤◌, Bool, false, true}
use Rattle.std.proofs.Common.{List, length, replicate, Some, if◌then◌else◌}
use Rattle.std.proofs.Common.{refl, sym, ◌∙◌, ap, subst, arith}
use Rattle.std.proofs.Math.Nat.{le_of_mul-le-mul_right}
use Rattle.std.proofs.lemmas.List.{length-map, length-replicate}
use Rattle.base_terms.specs.Blocks.{lengths}
use Rattle.crash_laws.specs.HeaderAreas.Commits.{ShowsCommit, begun}
use Rattle.crash_laws.specs.HeaderAreas.Headers.{Header, IsLaidOut, Layout}
use Rattle.base_terms.specs.declared.disk_sizes.Sizes.{Sizes}
use Rattle.sector_disk.proofs.DiskViews.Blockwise.{length-block_at}
use Rattle.sector_disk.specs.DiskViews.Parts.{block_at, cell_in}
use Rattle.sector_disk.specs.DiskViews.Views.{view_of_cells}
use Rattle.luks_rules.specs.Areas.{areas_begin, header_bytes}
use Rattle.luks_store.proofs.PageLemmas.{page-place, size-pages}
use Rattle.luks_store.proofs.SettledLemmas.{current_is}
use Rattle.luks_store.specs.Devices.{IsCertain, header_room}
use Rattle.luks_store.specs.Promises.{AreasBeginBehind}
use Rattle.luks_store.specs.declared.loaded.Stored.{Stored}
use Rattle.base_terms.proofs.BlockLemmas.{length-joined}
use Rattle.sector_disk.specs.Cells.{Cell, currents}
use Rattle.sector_disk.specs.Devices.{Device}
use Rattle.sector_disk.specs.Geometry.{IsAtom}
use Rattle.sector_disk.specs.Steps.{Told}
use Rattle.luks_store.proofs.SlotCommits.AgreeLemmas.{from_atom}
use Rattle.luks_store.proofs.SlotCommits.EvenLemmas.{length-currents}
use Rattle.luks_store.proofs.SlotCommits.RunLemmas.{LiesIn, area_in, end_of_copies, layout_of}
use Rattle.luks_store.proofs.SlotCommits.ShownLemmas.{ShowsSlot, nothing}
use Rattle.luks_store.specs.SlotCommits.Calls.{FitsSlot, copy_size}
use Rattle.luks_store.specs.SlotCommits.Images.{next_header}
use Rattle.luks_store.specs.SlotCommits.Promises.{IsNextSlot, ShowsCertain}
use Rattle.luks_store.specs.declared.slot_commit.writing.SlotCommit.{SlotCommit}

-- ---- atoms
some_atom : (atom : ℕ) → IsAtom atom → 0 < atom
some_atom atom (inl is) = rw is (omega arith)
some_atom atom (inr is) = rw is (omega arith)

whole_again : (n atom : ℕ) → 0 < atom → n % atom ≡ 0 → n ≡ n / atom * atom
whole_again n atom some is = grind (arith, some, is)

twice : (atom count size : ℕ) → count * atom ≡ size → (count + count) * atom ≡ size + size
twice atom count size whole = grind (arith, whole)

laid_out : (atom size atoms : ℕ) → 0 < atom → size / atom * atom ≡ size
    → size + size ≤ atoms * atom → IsLaidOut atom atoms size (layout_of atom size)
laid_out atom size atoms some whole room = record {
  first = refl;
  second = refl;
  same = refl;
  long = whole;
  within = le_of_mul-le-mul_right
      (let both = twice atom (size / atom) size whole in
      let within : (size / atom + size / atom) * atom ≤ atoms * atom = omega (arith, both, room) in
      within)
      some;
}

-- ---- how many atoms a table has
length-lengths : (values : List (List ℕ)) → length (lengths values) ≡ length values
unfolding lengths
length-lengths values = length-map values (λ value. length value)

pub many : (cells : List Cell) (atoms atom : ℕ) → lengths (currents cells) ≡ replicate atoms atom
    → length cells ≡ atoms
many cells atoms atom even =
    sym (length-currents cells) ∙ sym (length-lengths (currents cells)) ∙ ap length even
    ∙ length-replicate atoms atom

-- both copies have room on the header's disk
room_of : (sizes : Sizes) (size : ℕ) (detached : Bool) → sizes.detached ≡ detached
    → (sizes.detached ≡ false → sizes.header_atoms ≡ sizes.main_atoms)
    → 2 * size ≤ header_room sizes → 2 * size ≤ header_bytes sizes
room_of sizes size true is alone room =
    subst (λ (d : Bool). 2 * size ≤ (if d then sizes.header_atoms * sizes.atom
    else sizes.main_atoms * sizes.atom)) is room
room_of sizes size false is alone room =
    subst (λ (n : ℕ). 2 * size ≤ n * sizes.atom) (sym (alone is))
    (subst (λ (d : Bool). 2 * size ≤ (if d then sizes.header_atoms * sizes.atom
    else sizes.main_atoms * sizes.atom)) is room)

module _ (areas : AreasBeginBehind) (sizes : Sizes) (before next : Stored) (slot : SlotCommit)
    (first : List ℕ) (old : Device) (is : IsNextSlot sizes before next slot first)
    (fits : FitsSlot slot old) (shows : ShowsCertain sizes first old) where
  abbrev atom : ℕ
  atom = sizes.atom

  abbrev size : ℕ
  size = copy_size slot

  abbrev layout : Layout
  layout = layout_of atom size

  pub some : 0 < atom
  some = some_atom atom shows.known

  pub sizes_of : slot.commit.sizes ≡ sizes
  sizes_of = is.commit.sizes ∙ is.sizes_are

  pub same_atom : old.size ≡ atom
  same_atom = sym fits.sizes.atom ∙ ap (λ (s : Sizes). s.atom) sizes_of

  pub same_size : before.copies.used.header.hdr_size ≡ size
  same_size = sym is.commit.size

  -- both copies lie in front of the areas
  pub begin : areas_begin before.valid.meta.config ≡ size + size
  begin =
      areas sizes _ before is.held
      ∙ (let same = same_size in
      let e : 2 * before.copies.used.header.hdr_size ≡ size + size = omega (arith, same) in e)

  whole_atoms : size / atom * atom ≡ size
  whole_atoms = page-place atom size shows.known (size-pages size is.prepared.first.whole.one_of_nine)

  pub room : size + size ≤ sizes.header_atoms * atom
  room =
      let all = subst (λ (s : Sizes). 2 * size ≤ header_bytes s) sizes_of
      (room_of slot.commit.sizes size slot.commit.sizes.detached refl fits.sizes.alone
      is.prepared.room) in
      omega (arith, all)

  pub laid : IsLaidOut atom sizes.header_atoms size layout
  laid = laid_out atom size sizes.header_atoms some whole_atoms room

  pub header_within : sizes.header_atoms ≤ old.atoms
  header_within = subst (λ (s : Sizes). s.header_atoms ≤ old.atoms) sizes_of fits.sizes.header

  area_long : length slot.area ≡ length slot.area / atom * atom
  area_long =
      whole_again (length slot.area) atom some
      (subst (λ (n : ℕ). length slot.area % n ≡ 0) same_atom fits.area.whole)

  pub place : slot.area_offset / atom * atom ≡ slot.area_offset
  place = sym (whole_again slot.area_offset atom some is.whole)

  pub lies : LiesIn atom old.atoms slot
  lies =
      let l = laid in
      let more = header_within in
      record {
        some = some;
        laid = record {
          first = l.first;
          second = l.second;
          same = l.same;
          long = l.long;
          within = omega (arith, l.within, more);
        };
        one = is.prepared.first.whole.whole;
        two = is.prepared.second.whole.whole;
        long = area_long;
        behind = from_atom atom (end_of_copies atom slot) slot.area_offset some
            (let both = twice atom (size / atom) size whole_atoms in
            let start = begin in
            let behind = is.behind in
            let e : (size / atom + size / atom) * atom ≤ slot.area_offset =
            omega (arith, both, start, behind) in e);
        within = le_of_mul-le-mul_right
            (let sum : (slot.area_offset / atom + length slot.area / atom) * atom
            ≡ slot.area_offset / atom * atom + length slot.area / atom * atom = grind arith in
            let within : slot.area_offset / atom * atom + length slot.area ≤ old.atoms * atom =
            subst (λ (n : ℕ). slot.area_offset / n * n + length slot.area ≤ old.atoms * n)
            same_atom fits.area.within in
            let long = area_long in
            let e : (slot.area_offset / atom + length slot.area / atom) * atom ≤ old.atoms * atom =
            omega (arith, sum, within, long) in e)
            some;
      }

  -- ---- what the disk shows
  module _ (told : Told) (told_is : old.told ≡ Some told) where
    abbrev cells : List Cell
    cells = told.now

    sure : IsCertain sizes first cells
    sure = shows.certain told told_is

    pub count : length cells ≡ old.atoms
    count = many cells old.atoms old.size (shows.even told told_is)

    pub long : length first ≡ length cells * atom
    long = ap length (sym sure.holds) ∙ length-joined atom (length cells) (currents cells) sure.even

    current : (p : ℕ) → p < length cells → (cell_in cells p).current ≡ block_at atom first p
    current p below = current_is sizes layout size first cells sure laid p below

    current_long : (p : ℕ) → p < length cells → length (cell_in cells p).current ≡ atom
    current_long p below =
        ap length (current p below)
        ∙ length-block_at atom (length cells) first p below
        (let e : length cells * atom ≤ length first = omega (arith, long) in e)

    pub begins : (from : Header (List ℕ))
        → ShowsCommit atom layout from (next_header slot) begun false (view_of_cells cells)
        → ShowsSlot atom (length cells) (end_of_copies atom slot) layout from (next_header slot)
        (area_in atom slot) slot.area first nothing false (view_of_cells cells)
    begins from copies = record {
      copies = copies;
      area_is = tt;
      behind = λ p from_end below outside. record {
        now = λ whole. current p below;
        left = λ value has. sure.only p value has ∙ current p below;
      };
      now = λ whole p below. current_long p below;
      left = λ p below value has. ap length (sure.only p value has) ∙ current_long p below;
      settled = tt;
    }
