-- Each image during a repair holds the metadata that the disk's bytes held before it, and what they
-- had behind both copies.
use Rattle.std.proofs.Common.{◌≡◌, ℕ, ◌+◌, ◌-◌, ◌*◌, ◌≤◌, Bool, List, length, take, drop, Ok}
use Rattle.std.proofs.Common.{replicate}
use Rattle.std.proofs.Common.{sym, ◌∙◌, ap, subst, arith}
use Rattle.base_terms.specs.Blocks.{joined, lengths}
use Rattle.crash_laws.specs.HeaderAreas.Areas.{content_of}
use Rattle.crash_laws.specs.HeaderAreas.Headers.{Copy, Gives, Handed, Header, IsGenuine, IsLaidOut, IsReader}
use Rattle.crash_laws.specs.HeaderAreas.Headers.{Layout}
use Rattle.crash_laws.specs.HeaderAreas.Promises.{ImageTaken, IsImageOf, RepairGives}
use Rattle.base_terms.specs.declared.disk_sizes.Sizes.{Sizes}
use Rattle.sector_disk.proofs.DiskViews.Entries.{image_in}
use Rattle.sector_disk.specs.DiskViews.Parts.{value_in}
use Rattle.sector_disk.specs.DiskViews.Views.{view_of_cells}
use Rattle.luks_store.specs.Copying.Meanings.{header_reader, meaning_of}
use Rattle.luks_rules.specs.Areas.{areas_begin}
use Rattle.luks_store.specs.Devices.{front_of}
use Rattle.luks_store.specs.Loads.{stored_in, IsStored}
use Rattle.luks_store.specs.Promises.{LoadsByMeaning}
use Rattle.luks_store.specs.declared.loaded.Stored.{Stored}
use Rattle.reenc_recovery.specs.Images.{HoldsOn}
use Rattle.reenc_recovery.specs.Repairing.{IsLeft, IsRepaired, ShowsRepairOf}
use Rattle.luks_store.proofs.SettledLemmas.{atom_of_joined}
use Rattle.reenc_recovery.proofs.JoinedLemmas.{even_image, front_text, long_joined, same_behind}
use Rattle.sector_disk.specs.Cells.{AreSized, Cell}

module _ (sizes : Sizes) (stored : Stored) (header : Header (List ℕ)) (layout : Layout)
    (handed : Handed) (bad : Copy) (written broken : Bool) (first : List ℕ) (cells : List Cell)
    (image : List (List ℕ)) (repaired : IsRepaired sizes stored header layout handed)
    (shows : ShowsRepairOf sizes layout header bad written broken first cells)
    (sized : AreSized sizes.atom cells) (left : IsLeft sizes header handed cells image) where
  even : lengths image ≡ replicate (length cells) sizes.atom
  even = even_image sizes.atom cells image sized left.is

  laid_in_all : IsLaidOut sizes.atom (length cells) (header_reader.size header.means) layout
  laid_in_all =
      let laid = repaired.laid in
      let more = shows.header_atoms in
      record {
        first = laid.first;
        second = laid.second;
        same = laid.same;
        long = laid.long;
        within = omega (arith, laid.within, more);
      }

  -- the image of the header's disk alone
  front_image : ImageTaken
      → IsImageOf sizes.atom sizes.header_atoms (header_reader.size header.means) layout
      (view_of_cells cells) (value_in image)
  front_image taken =
      let all = taken sizes.atom (header_reader.size header.means) layout cells image left.is
      even laid_in_all in
      let more = shows.header_atoms in
      record {
        laid = repaired.laid;
        whole = λ place below. all.0.whole place (omega (arith, below, more));
        takes = all.0.takes;
      }

  -- and its bytes
  front_is : ImageTaken
      → content_of sizes.header_atoms (value_in image) ≡ front_of sizes (joined image)
  front_is taken =
      let all = taken sizes.atom (header_reader.size header.means) layout cells image left.is
      even laid_in_all in
      let more = shows.header_atoms in
      let rest = length cells - sizes.header_atoms in
      let whole : sizes.header_atoms + rest ≡ length cells = omega (arith, more) in
      sym (front_text sizes.atom 0 sizes.header_atoms rest (value_in image)
      (λ place from below. all.0.whole place (omega (arith, below, more))))
      ∙ ap (λ n. take (sizes.header_atoms * sizes.atom) (content_of n (value_in image))) whole
      ∙ ap (λ bytes. take (sizes.header_atoms * sizes.atom) bytes) all.1

  header_stays : IsReader header_reader → ImageTaken → RepairGives
      → Gives header_reader (front_of sizes (joined image)) (meaning_of stored.copies.used.bytes)
  header_stays is_reader taken gives =
      let front = front_is taken in
      let given = gives sizes.atom sizes.header_atoms header_reader layout header bad handed
      (value_in image) written broken (view_of_cells cells) is_reader repaired.whole repaired.past
      (front_image taken)
      (subst (λ (bytes : List ℕ). IsGenuine header_reader (header_reader.size header.means) handed
      bytes) (sym front) left.genuine) shows.copies in
      subst (λ (m : List ℕ). Gives header_reader (front_of sizes (joined image)) m) repaired.means
      (subst (λ (bytes : List ℕ). Gives header_reader bytes header.means) front given)

  rest_stays : drop (areas_begin stored.valid.meta.config) (joined image)
      ≡ drop (areas_begin stored.valid.meta.config) first
  rest_stays =
      let n = layout.second.start + layout.second.count in
      let within : n ≤ length cells = laid_in_all.within in
      subst (λ (k : ℕ). drop k (joined image) ≡ drop k first) (sym repaired.begin)
      (same_behind sizes.atom (length cells) n (joined image) first within
      (long_joined sizes.atom (length cells) image even) shows.long
      (λ place from below. atom_of_joined sizes.atom (length cells) image place even below
      ∙ shows.behind place from below (value_in image place)
      (image_in cells image place left.is below)))

  pub repair_holds : IsReader header_reader → ImageTaken → RepairGives → LoadsByMeaning
      → IsStored stored → stored_in sizes (front_of sizes first) ≡ Ok stored
      → HoldsOn sizes stored first (joined image)
  repair_holds is_reader taken gives loads is_stored held =
      let found = loads (front_of sizes (joined image)) stored is_stored
      (header_stays is_reader taken gives) in
      record {
        was = held;
        stored = found.0;
        held = subst (λ (s : Sizes). stored_in s (front_of sizes (joined image)) ≡ Ok found.0)
            repaired.sizes_are found.1;
        same = found.2;
        behind = rest_stays;
      }
