-- What a disk shows of both copies of a header, where these stand at their places: by its bytes, and by
-- its table.
use Rattle.std.proofs.Common.{◌≡◌, ◌∙◌, ◌+◌, ◌*◌, ◌≤◌, ◌<◌, ◌∷◌, ℕ, suc, zero, false, List, [], length, take, drop, ap, arith, refl, sym}
use Rattle.crash_laws.specs.HeaderAreas.Areas.{IsOf, Shows}
use Rattle.crash_laws.specs.HeaderAreas.Commits.{ShowsCommit, begun}
use Rattle.crash_laws.specs.HeaderAreas.Headers.{Copy, Header, IsLaidOut, Layout, byte_of, place_of, primary}
use Rattle.crash_laws.specs.HeaderAreas.Headers.{secondary}
use Rattle.base_terms.specs.declared.disk_sizes.Sizes.{Sizes}
use Rattle.sector_disk.proofs.DiskViews.Blockwise.{block_at-part}
use Rattle.sector_disk.proofs.DiskViews.TableEntries.{none_contained}
use Rattle.sector_disk.specs.DiskViews.Parts.{block_at, cell_in, value_in}
use Rattle.sector_disk.specs.DiskViews.Views.{view_of_bytes, view_of_cells}
use Rattle.luks_store.proofs.SettledLemmas.{atom_of_joined}
use Rattle.luks_store.specs.Devices.{IsCertain}
use Rattle.luks_store.specs.declared.loaded.Stored.{Stored}
use Rattle.recovery_laws.proofs.Resumed.StandLemmas.{StandTwice}
use Rattle.sector_disk.specs.Cells.{Cell, currents}
use Rattle.hotzone.specs.ZoneEvents.Heads.{header_on}

-- ---- where a copy begins, and how long it is
begins-at : (atom atoms size : ℕ) (layout : Layout) (copy : Copy) → IsLaidOut atom atoms size layout
    → byte_of size copy ≡ (place_of layout copy).start * atom
begins-at atom atoms size layout primary laid =
    (let e : 0 ≡ 0 * atom = omega arith in e) ∙ ap (λ n. n * atom) (sym laid.first)
begins-at atom atoms size layout secondary laid =
    sym laid.long ∙ ap (λ n. n * atom) (sym laid.second)

takes-up : (atom atoms size : ℕ) (layout : Layout) (copy : Copy) → IsLaidOut atom atoms size layout
    → size ≡ (place_of layout copy).count * atom
takes-up atom atoms size layout primary laid = sym laid.long
takes-up atom atoms size layout secondary laid =
    sym laid.long ∙ ap (λ n. n * atom) (sym laid.same)

lies-in : (atom atoms size : ℕ) (layout : Layout) (copy : Copy) → IsLaidOut atom atoms size layout
    → (place_of layout copy).start + (place_of layout copy).count ≤ atoms
lies-in atom atoms size layout primary laid = omega (arith, laid.first, laid.second, laid.within)
lies-in atom atoms size layout secondary laid = laid.within

-- ---- by the bytes
module _ (atom atoms size : ℕ) (layout : Layout) (laid : IsLaidOut atom atoms size layout)
    (bytes : List ℕ) where
  shows-text : (copy : Copy) (text : List ℕ) → take size (drop (byte_of size copy) bytes) ≡ text
      → Shows (place_of layout copy) (IsOf atom text) (IsOf atom text) false (view_of_bytes atom bytes)
  shows-text copy text stands = record {
    now = λ whole i below.
        (let area = place_of layout copy in
        sym (block_at-part atom area.start area.count bytes i below)
        ∙ ap (λ n. block_at atom (take (area.count * atom) (drop n bytes)) i)
        (sym (begins-at atom atoms size layout copy laid))
        ∙ ap (λ n. block_at atom (take n (drop (byte_of size copy) bytes)) i)
        (sym (takes-up atom atoms size layout copy laid))
        ∙ ap (λ all. block_at atom all i) stands);
    left = λ i below value has. none_contained _ value has;
  }

  pub shows-both : (header : Header (List ℕ))
      → take size (drop (byte_of size primary) bytes) ≡ header.first
      → take size (drop (byte_of size secondary) bytes) ≡ header.second
      → ShowsCommit atom layout header header begun false (view_of_bytes atom bytes)
  shows-both header one two = record {
    first = shows-text primary header.first one;
    second = shows-text secondary header.second two;
  }

-- ---- by a table that holds the bytes for certain
pub current-in : (cells : List Cell) (place : ℕ)
    → value_in (currents cells) place ≡ (cell_in cells place).current
unfolding currents
current-in [] place = refl
current-in (cell ∷ cells) zero = refl
current-in (cell ∷ cells) (suc place) = current-in cells place

module _ (sizes : Sizes) (bytes : List ℕ) (cells : List Cell)
    (certain : IsCertain sizes bytes cells) where
  pub current-of : (place : ℕ) → place < length cells
      → (cell_in cells place).current ≡ block_at sizes.atom bytes place
  current-of place below =
      sym (current-in cells place)
      ∙ sym (atom_of_joined sizes.atom (length cells) (currents cells) place certain.even below)
      ∙ ap (λ all. block_at sizes.atom all place) certain.holds

  module _ (atoms size : ℕ) (layout : Layout) (fits : atoms ≤ length cells)
      (laid : IsLaidOut sizes.atom atoms size layout) where
    -- an atom of a copy
    copy-current : (copy : Copy) (i : ℕ) → i < (place_of layout copy).count
        → (cell_in cells ((place_of layout copy).start + i)).current
        ≡ block_at sizes.atom bytes ((place_of layout copy).start + i)
    copy-current copy i below =
        let within = lies-in sizes.atom atoms size layout copy laid in
        current-of ((place_of layout copy).start + i) (omega (arith, below, within, fits))

    -- what the table shows the bytes show
    shown-text : (copy : Copy) (text : List ℕ)
        → Shows (place_of layout copy) (IsOf sizes.atom text) (IsOf sizes.atom text) false
        (view_of_cells cells)
        → Shows (place_of layout copy) (IsOf sizes.atom text) (IsOf sizes.atom text) false
        (view_of_bytes sizes.atom bytes)
    shown-text copy text shows = record {
      now = λ whole i below. sym (copy-current copy i below) ∙ shows.now refl i below;
      left = λ i below value has. none_contained _ value has;
    }

    pub shown-both : (header : Header (List ℕ))
        → ShowsCommit sizes.atom layout header header begun false (view_of_cells cells)
        → ShowsCommit sizes.atom layout header header begun false (view_of_bytes sizes.atom bytes)
    shown-both header shows = record {
      first = shown-text primary header.first shows.first;
      second = shown-text secondary header.second shows.second;
    }

    -- and what the bytes show it shows
    told-text : (copy : Copy) (text : List ℕ)
        → Shows (place_of layout copy) (IsOf sizes.atom text) (IsOf sizes.atom text) false
        (view_of_bytes sizes.atom bytes)
        → Shows (place_of layout copy) (IsOf sizes.atom text) (IsOf sizes.atom text) false
        (view_of_cells cells)
    told-text copy text shows =
        let now : (i : ℕ) → i < (place_of layout copy).count
        → (cell_in cells ((place_of layout copy).start + i)).current ≡ block_at sizes.atom text i =
        λ i below. copy-current copy i below ∙ shows.now refl i below in
        record {
          now = λ whole i below. now i below;
          left = λ i below value has.
              certain.only ((place_of layout copy).start + i) value has ∙ now i below;
        }

    pub told-both : (header : Header (List ℕ))
        → ShowsCommit sizes.atom layout header header begun false (view_of_bytes sizes.atom bytes)
        → ShowsCommit sizes.atom layout header header begun false (view_of_cells cells)
    told-both header shows = record {
      first = told-text primary header.first shows.first;
      second = told-text secondary header.second shows.second;
    }

-- both copies of a header that was loaded
pub shows-loaded : (atom atoms : ℕ) (layout : Layout) (header : Stored) (bytes : List ℕ)
    → IsLaidOut atom atoms header.copies.used.header.hdr_size layout → StandTwice header bytes
    → ShowsCommit atom layout (header_on header) (header_on header) begun false
    (view_of_bytes atom bytes)
shows-loaded atom atoms layout header bytes laid stand =
    shows-both atom atoms header.copies.used.header.hdr_size layout laid bytes (header_on header)
    stand.first stand.second
