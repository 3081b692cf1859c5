-- The copies of a header in an image of a table.
use Rattle.std.proofs.Common.{◌≡◌, ℕ, ◌+◌, ◌-◌, ◌*◌, ◌≤◌, Bool, List, length, take, replicate}
use Rattle.std.proofs.Common.{Some, sym, ◌∙◌, ap, subst, arith}
use Rattle.base_terms.specs.Blocks.{joined, lengths}
use Rattle.crash_laws.proofs.HeaderAreas.HeadersGiven.{certain}
use Rattle.crash_laws.specs.HeaderAreas.Areas.{IsOf, IsWhole, Shows, content_of}
use Rattle.crash_laws.specs.HeaderAreas.Headers.{Copy, Header, IsHeader, IsLaidOut, IsReader, Layout, byte_of}
use Rattle.crash_laws.specs.HeaderAreas.Headers.{found, place_of, text_of}
use Rattle.crash_laws.specs.HeaderAreas.Promises.{ImageTaken, IsImageOf}
use Rattle.base_terms.specs.declared.disk_sizes.Sizes.{Sizes}
use Rattle.sector_disk.specs.DiskViews.Parts.{value_in}
use Rattle.sector_disk.specs.DiskViews.Views.{view_of_cells}
use Rattle.luks_store.specs.Copying.Meanings.{header_reader}
use Rattle.luks_store.specs.Devices.{front_of}
use Rattle.image_laws.proofs.Opened.AtomLemmas.{front-text}
use Rattle.sector_disk.specs.Cells.{Cell, IsImage}

module _ (taken : ImageTaken) (sizes : Sizes) (size : ℕ) (layout : Layout) (cells : List Cell)
    (image : List (List ℕ)) (is : IsImage cells image)
    (even : lengths image ≡ replicate (length cells) sizes.atom)
    (laid : IsLaidOut sizes.atom sizes.header_atoms size layout)
    (more : sizes.header_atoms ≤ length cells) where
  laid_in_all : IsLaidOut sizes.atom (length cells) size layout
  laid_in_all =
      let fits = laid.within in
      record {
        first = laid.first;
        second = laid.second;
        same = laid.same;
        long = laid.long;
        within = omega (arith, fits, more);
      }

  taken_here : IsImageOf sizes.atom (length cells) size layout (view_of_cells cells) (value_in image)
      × (content_of (length cells) (value_in image) ≡ joined image)
  taken_here = taken sizes.atom size layout cells image is even laid_in_all

  whole_in : IsWhole sizes.atom sizes.header_atoms (value_in image)
  whole_in place below = taken_here.0.whole place (omega (arith, below, more))

  front_is : content_of sizes.header_atoms (value_in image) ≡ front_of sizes (joined image)
  front_is =
      let rest = length cells - sizes.header_atoms in
      let all : sizes.header_atoms + rest ≡ length cells = omega (arith, more) in
      sym (front-text sizes.atom 0 sizes.header_atoms rest (value_in image)
      (λ place start below. taken_here.0.whole place (omega (arith, below, more))))
      ∙ ap (λ n. take (sizes.header_atoms * sizes.atom) (content_of n (value_in image))) all
      ∙ ap (λ text. take (sizes.header_atoms * sizes.atom) text) taken_here.1

  -- a copy that is certain stands there
  pub certain-in : IsReader header_reader → (copy : Copy) (header : Header (List ℕ))
      (Now : ℕ → List ℕ → Type 0) (broken : Bool) → IsHeader header_reader header
      → header_reader.size header.means ≡ size
      → Shows (place_of layout copy) Now (IsOf sizes.atom (text_of header copy)) broken
      (view_of_cells cells)
      → found header_reader (front_of sizes (joined image)) (byte_of size copy) ≡ Some header.means
  certain-in is_reader copy header Now broken whole long shows =
      subst (λ (text : List ℕ). found header_reader text (byte_of size copy) ≡ Some header.means)
      front_is
      (certain sizes.atom sizes.header_atoms size header_reader layout copy header Now
      (value_in image) is_reader whole long laid whole_in (taken_here.0.takes copy) shows)
