-- Behind the last call the disk holds the next header for certain, and the keyslot's area.
use Rattle.std.proofs.Common.{◌≡◌, ℕ, ◌+◌, ◌*◌, ◌/◌, ◌≤◌, false, List, ◌++◌, length, take, drop}
use Rattle.std.proofs.Common.{replicate, Ok, refl, sym, ◌∙◌, ap, subst, arith}
use Rattle.base_terms.specs.Blocks.{joined, lengths}
use Rattle.crash_laws.specs.HeaderAreas.Headers.{Header}
use Rattle.base_terms.specs.declared.disk_sizes.Sizes.{Sizes}
use Rattle.sector_disk.specs.DiskViews.Parts.{cell_in, value_in}
use Rattle.sector_disk.specs.DiskViews.Views.{view_of_cells}
use Rattle.luks_rules.specs.Areas.{header_bytes}
use Rattle.luks_store.proofs.CopyLemmas.{front-part}
use Rattle.luks_store.specs.Commits.{AreGood, IsNextStored}
use Rattle.luks_store.specs.Devices.{IsCertain, front_of}
use Rattle.luks_store.specs.Loads.{stored_in}
use Rattle.luks_store.specs.declared.copies.Copies.{Copies}
use Rattle.luks_store.specs.declared.loaded.Stored.{Stored}
use Rattle.sector_disk.specs.Cells.{Cell, content, currents}
use Rattle.luks_store.proofs.SlotCommits.BytesLemmas.{agrees, part_is, two_in_front}
use Rattle.luks_store.proofs.SlotCommits.EvenLemmas.{current_in, even_currents}
use Rattle.luks_store.proofs.SlotCommits.RunLemmas.{LiesIn, area_in, end_of_copies, layout_of}
use Rattle.luks_store.proofs.SlotCommits.ShownLemmas.{ShowsSlot, all_kept}
use Rattle.luks_store.specs.SlotCommits.Agreements.{AgreesBut}
use Rattle.luks_store.specs.SlotCommits.Calls.{copy_size, primary_in, secondary_in}
use Rattle.luks_store.specs.SlotCommits.Images.{next_header}
use Rattle.luks_store.specs.declared.slot_commit.writing.SlotCommit.{SlotCommit}

-- both copies of what a commit leaves are good
pub good_copies : (slot : SlotCommit) (next : Stored) → IsNextStored slot.commit next
    → AreGood next.copies
good_copies slot next is =
    subst (λ (c : Copies). AreGood c) (sym is.copies) (record { primary = refl; secondary = refl })

module _ (slot : SlotCommit) (atom n : ℕ) (from : Header (List ℕ)) (first : List ℕ)
    (cells : List Cell) (count : length cells ≡ n) (lies : LiesIn atom n slot)
    (long : length first ≡ n * atom)
    (shows : ShowsSlot atom n (end_of_copies atom slot) (layout_of atom (copy_size slot)) from
    (next_header slot) (area_in atom slot) slot.area first all_kept false (view_of_cells cells))
  where
    abbrev size : ℕ
    size = copy_size slot

    abbrev bytes : List ℕ
    bytes = joined (currents cells)

    even : lengths (currents cells) ≡ replicate n atom
    even =
        subst (λ (k : ℕ). lengths (currents cells) ≡ replicate k atom) count
        (even_currents atom cells (λ place below. shows.now refl place (omega (arith, below, count))))

    pub certain : (sizes : Sizes) → sizes.atom ≡ atom → sizes.header_atoms ≤ n
        → IsCertain sizes (content cells) cells
    unfolding content
    certain sizes same more = record {
      only = λ place value has. shows.settled place value has;
      even = subst (λ (a : ℕ). lengths (currents cells) ≡ replicate (length cells) a) (sym same)
          (even ∙ ap (λ k. replicate k atom) (sym count));
      holds = refl;
      header_atoms = omega (arith, more, count);
    }

    value_at : (place : ℕ) → value_in (currents cells) place ≡ (cell_in cells place).current
    value_at place = current_in cells place

    rest_of : AgreesBut (end_of_copies atom slot * atom) (slot.area_offset / atom * atom)
        (length slot.area / atom * atom) first bytes
    rest_of =
        agrees atom n (currents cells) even (end_of_copies atom slot) (slot.area_offset / atom)
        (length slot.area / atom) first lies.some long
        (λ place from_end below outside.
        value_at place ∙ (shows.behind place from_end below outside).now refl)

    area_of : take (length slot.area / atom * atom) (drop (slot.area_offset / atom * atom) bytes)
        ≡ slot.area
    area_of =
        part_is atom n (currents cells) even (slot.area_offset / atom) (length slot.area / atom)
        slot.area lies.within lies.long
        (λ i below. value_at (slot.area_offset / atom + i) ∙ (shows.area_is i below).now refl)

    -- a copy at its place
    one_of : take size (drop 0 bytes) ≡ primary_in slot
    one_of =
        let l = lies.laid in
        let whole : size / atom * atom ≡ size = l.long in
        let within : 0 + size / atom ≤ n = omega (arith, l.within) in
        ap (λ k. take k (drop 0 bytes)) (sym whole)
        ∙ ap (λ k. take (size / atom * atom) (drop k bytes))
        (let e : 0 ≡ 0 * atom = omega arith in e)
        ∙ part_is atom n (currents cells) even 0 (size / atom) (primary_in slot) within
        (lies.one ∙ sym whole)
        (λ i below. value_at (0 + i) ∙ shows.copies.first.now refl i below)

    two_of : take size (drop size bytes) ≡ secondary_in slot
    two_of =
        let l = lies.laid in
        let whole : size / atom * atom ≡ size = l.long in
        ap (λ k. take k (drop k bytes)) (sym whole)
        ∙ part_is atom n (currents cells) even (size / atom) (size / atom) (secondary_in slot)
        l.within (lies.two ∙ sym whole)
        (λ i below. value_at (size / atom + i) ∙ shows.copies.second.now refl i below)

    -- the same of the whole content
    pub rest_kept : AgreesBut (end_of_copies atom slot * atom) (slot.area_offset / atom * atom)
        (length slot.area / atom * atom) first (content cells)
    unfolding content
    rest_kept = rest_of

    pub area_kept : take (length slot.area / atom * atom)
        (drop (slot.area_offset / atom * atom) (content cells)) ≡ slot.area
    unfolding content
    area_kept = area_of

    -- the header that is loaded
    pub next_held : (sizes : Sizes) (next : Stored) → IsNextStored slot.commit next
        → slot.commit.sizes ≡ sizes → size + size ≤ header_bytes sizes
        → stored_in sizes (front_of sizes (content cells)) ≡ Ok next
    unfolding content
    next_held sizes next is same room =
        let h = header_bytes sizes in
        let fronts = two_in_front size (take h bytes) (primary_in slot) (secondary_in slot)
        (front-part h 0 size bytes (omega (arith, room)) ∙ one_of)
        (front-part h size size bytes (omega (arith, room)) ∙ two_of) in
        subst (λ (all : List ℕ). stored_in sizes all ≡ Ok next) (sym fronts)
        (subst (λ (s : Sizes). stored_in s (primary_in slot ++ (secondary_in slot
        ++ drop (size + size) (take h bytes))) ≡ Ok next) same
        (is.loads (drop (size + size) (take h bytes))))
