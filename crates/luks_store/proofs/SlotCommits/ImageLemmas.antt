-- Each image of what a disk shows of a new keyslot has the header from before or the next one; the
-- next one only where the keyslot's area stands.
use Rattle.std.proofs.Common.{◌≡◌, inl, inr, ℕ, ◌+◌, ◌-◌, ◌*◌, ◌<◌, ◌≤◌, ◌⊎◌, Bool, List, length}
use Rattle.std.proofs.Common.{take, drop, replicate, sym, ◌∙◌, ap, subst, arith}
use Rattle.base_terms.specs.Blocks.{joined, lengths}
use Rattle.crash_laws.specs.HeaderAreas.Areas.{Area, content_of}
use Rattle.crash_laws.specs.HeaderAreas.Commits.{Follows, HasPast, MayBe, Stage, begun, first_kept}
use Rattle.crash_laws.specs.HeaderAreas.Commits.{first_written, second_written}
use Rattle.crash_laws.specs.HeaderAreas.Headers.{Gives, Handed, Header, IsGenuine, IsHeader, IsLaidOut, IsReader}
use Rattle.crash_laws.specs.HeaderAreas.Headers.{Layout, primary}
use Rattle.crash_laws.specs.HeaderAreas.Promises.{CommitGives, ImageTaken, IsImageOf}
use Rattle.sector_disk.proofs.DiskViews.Entries.{image_in}
use Rattle.sector_disk.specs.DiskViews.Parts.{block_at, value_in}
use Rattle.sector_disk.specs.DiskViews.Views.{view_of_cells}
use Rattle.luks_store.specs.Copying.Meanings.{header_reader}
use Rattle.sector_disk.specs.Cells.{Cell, IsImage}
use Rattle.luks_store.proofs.SlotCommits.BytesLemmas.{agrees, part_is}
use Rattle.luks_store.proofs.SlotCommits.EvenLemmas.{even_image, front_text}
use Rattle.luks_store.proofs.SlotCommits.GenuineLemmas.{dated, genuine_then, handed_then}
use Rattle.luks_store.proofs.SlotCommits.PlaceLemmas.{IsSure}
use Rattle.luks_store.proofs.SlotCommits.RunLemmas.{LiesIn, area_in, end_of_copies, layout_of}
use Rattle.luks_store.proofs.SlotCommits.ShownLemmas.{Reached, ShowsSlot}
use Rattle.luks_store.proofs.SlotCommits.ShownLemmas.{stage_at}
use Rattle.luks_store.specs.SlotCommits.Agreements.{AgreesBut}
use Rattle.luks_store.specs.SlotCommits.Calls.{copy_size}
use Rattle.luks_store.specs.SlotCommits.Images.{handed_with, next_header}
use Rattle.luks_store.specs.declared.slot_commit.writing.SlotCommit.{SlotCommit}

-- the old header counts or the next one
pub old_or_next : (stage : Stage) (from to m : List ℕ) → MayBe stage from to m → (m ≡ from) ⊎ (m ≡ to)
old_or_next begun from to m is = inl is
old_or_next first_written from to m is = is
old_or_next first_kept from to m is = inr is
old_or_next second_written from to m is = inr is

module _ (slot : SlotCommit) (atom front_atoms : ℕ) (from : Header (List ℕ)) (first : List ℕ)
    (cells : List Cell) (lies : LiesIn atom (length cells) slot)
    (long : length first ≡ length cells * atom) (image : List (List ℕ)) (is : IsImage cells image)
    (reached : Reached) (broken : Bool)
    (shows : ShowsSlot atom (length cells) (end_of_copies atom slot)
    (layout_of atom (copy_size slot)) from (next_header slot) (area_in atom slot) slot.area first
    reached broken (view_of_cells cells)) where
  abbrev layout : Layout
  layout = layout_of atom (copy_size slot)

  abbrev area : Area
  area = area_in atom slot

  abbrev bytes : List ℕ
  bytes = joined image

  even : lengths image ≡ replicate (length cells) atom
  even = even_image atom cells image shows.left is

  -- what stands behind both copies
  pub rest : AgreesBut (end_of_copies atom slot * atom) (area.start * atom) (area.count * atom)
      first bytes
  rest =
      agrees atom (length cells) image even (end_of_copies atom slot) area.start area.count first
      lies.some long
      (λ place from_end below outside.
      (shows.behind place from_end below outside).left (value_in image place)
      (image_in cells image place is below))

  -- the keyslot's area, where it is kept
  pub area_stands : ((i : ℕ) → i < area.count
      → IsSure broken (view_of_cells cells) (area.start + i) (block_at atom slot.area i))
      → take (area.count * atom) (drop (area.start * atom) bytes) ≡ slot.area
  area_stands kept =
      let within = lies.within in
      part_is atom (length cells) image even area.start area.count slot.area within lies.long
      (λ i below. (kept i below).left (value_in image (area.start + i))
      (image_in cells image (area.start + i) is (omega (arith, below, within))))

  -- ---- the header
  module _ (laid : IsLaidOut atom front_atoms (copy_size slot) layout)
      (more : front_atoms ≤ length cells) (is_reader : IsReader header_reader)
      (taken : ImageTaken) (gives : CommitGives) (of_from : IsHeader header_reader from)
      (of_to : IsHeader header_reader (next_header slot))
      (follows : Follows header_reader from.means (next_header slot).means) (handed : Handed)
      (past : HasPast header_reader from handed)
      (genuine : IsGenuine header_reader (header_reader.size from.means)
      (handed_with (next_header slot) handed) (take (front_atoms * atom) bytes)) where
    means_size : header_reader.size from.means ≡ copy_size slot
    means_size = sym follows.1 ∙ sym (of_to.size primary) ∙ lies.one

    laid_by_means : IsLaidOut atom front_atoms (header_reader.size from.means) layout
    laid_by_means =
        subst (λ (n : ℕ). IsLaidOut atom front_atoms n layout) (sym means_size) laid

    all_taken : IsImageOf atom (length cells) (copy_size slot) layout (view_of_cells cells)
        (value_in image) × (content_of (length cells) (value_in image) ≡ bytes)
    all_taken = taken atom (copy_size slot) layout cells image is even lies.laid

    front_image : IsImageOf atom front_atoms (header_reader.size from.means) layout
        (view_of_cells cells) (value_in image)
    front_image = record {
      laid = laid_by_means;
      whole = λ place below. all_taken.0.whole place (omega (arith, below, more));
      takes = all_taken.0.takes;
    }

    front_is : content_of front_atoms (value_in image) ≡ take (front_atoms * atom) bytes
    front_is =
        let left = length cells - front_atoms in
        let whole : front_atoms + left ≡ length cells = omega (arith, more) in
        sym (front_text atom 0 front_atoms left (value_in image)
        (λ place from_start below. all_taken.0.whole place (omega (arith, below, more))))
        ∙ ap (λ n. take (front_atoms * atom) (content_of n (value_in image))) whole
        ∙ ap (λ all. take (front_atoms * atom) all) all_taken.1

    pub given : (m : List ℕ) × MayBe (stage_at reached) from.means (next_header slot).means m
        × Gives header_reader (take (front_atoms * atom) bytes) m
    given =
        let spared = subst (λ (all : List ℕ). IsGenuine header_reader
        (header_reader.size from.means) (handed_with (next_header slot) handed) all) (sym front_is)
        genuine in
        let then = genuine_then header_reader from (next_header slot) of_from of_to follows handed
        past atom front_atoms layout (value_in image) broken (view_of_cells cells) is_reader
        front_image spared (stage_at reached) shows.copies in
        let has = gives atom front_atoms header_reader layout from (next_header slot)
        (stage_at reached) (handed_then (stage_at reached) from (next_header slot) handed)
        (value_in image) broken (view_of_cells cells) is_reader of_from of_to
        (dated header_reader from (next_header slot) of_from of_to follows handed past
        (stage_at reached)) front_image then shows.copies in (
          has.0,
          has.1,
          subst (λ (all : List ℕ). Gives header_reader all has.0) front_is has.2,
        )
