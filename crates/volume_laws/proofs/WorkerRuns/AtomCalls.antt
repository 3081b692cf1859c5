-- An atom that a device call of the worker leaves as it was.
use Rattle.std.proofs.Common.{List, Option, Result, Some, ap, inl, inr, length, mul-le-mul_right}
use Rattle.std.proofs.Common.{refl, subst, suc, sym, zero, ℕ, ◌*◌, ◌+◌, ◌/◌, ◌<◌, ◌∙◌, ◌∷◌, ◌≡◌}
use Rattle.std.proofs.Common.{◌≤◌, []}
use Rattle.std.proofs.Math.Nat.{mul-div_cancel}
use Rattle.base_terms.specs.Blocks.{blocks_of}
use Rattle.sector_disk.specs.Cells.{Cell}
use Rattle.sector_disk.specs.DiskViews.Parts.{block_at, cell_in}
use Rattle.sector_disk.specs.DiskViews.Views.{IsOutside}
use Rattle.sector_disk.specs.Steps.{MovesOrNot, Told}
use Rattle.std.proofs.Common.{Err, Ok}
use Rattle.base_terms.specs.declared.failed.Failed.{Failed}
use Rattle.crash_laws.specs.HeaderAreas.Commits.{Stage, begun, first_kept, first_written, second_written}
use Rattle.crash_laws.specs.HeaderAreas.Headers.{Copy, Header, Layout, place_of, primary, secondary}
use Rattle.sector_disk.proofs.DiskViews.DeviceViews.{bytes-written}
use Rattle.sector_disk.proofs.DiskViews.Entries.{changed-outside, length-blocks_of}
use Rattle.sector_disk.proofs.DiskViews.TableEntries.{synced_view, thinned_view, tried-outside}
use Rattle.sector_disk.specs.Cells.{IsThinned, wrote}
use Rattle.sector_disk.specs.Devices.{Device, ReadCall, SyncCall, WriteCall, failed_call, succeeded}
use Rattle.volume_laws.specs.Rest.{KeepsCell}
use Rattle.volume_machine.specs.WorkCalls.{PutsCopy}

-- ---- a cell that stays, and one that is kept twice
pub cell_kept : {old new : Cell} → new ≡ old → KeepsCell old new
cell_kept same = rw same (record { current = refl; candidates = λ value has. inl has })

pub cell_twice : {one two three : Cell} → KeepsCell one two → KeepsCell two three
    → KeepsCell one three
cell_twice first later = record {
  current = later.current ∙ first.current;
  candidates = λ value has. elim (later.candidates value has) [
    | inl held ↦ first.candidates value held
    | inr same ↦ inr (same ∙ first.current)
  ];
}

-- ---- by tables, and by bytes too
abbrev pub SparesCell : Option Told → Option Told → ℕ → Type 0
SparesCell old new place = (told : Told) → new ≡ Some told
    → (before : Told) × (old ≡ Some before)
    × KeepsCell (cell_in before.now place) (cell_in told.now place)

pub record Spares (atom : ℕ) (old new : Device) (place : ℕ) : Type 0 where
  pub bytes : (bytes : List ℕ) → old.values ≡ Some bytes → length bytes ≡ old.atoms * atom
      → (now : List ℕ) × (new.values ≡ Some now) × (length now ≡ length bytes)
      × (block_at atom now place ≡ block_at atom bytes place)
  pub cells : SparesCell old.told new.told place

cells_by : (Move : List Cell → List Cell → Type 0) {old new : Option Told} {place : ℕ}
    → ((before now : List Cell) → Move before now
    → KeepsCell (cell_in before place) (cell_in now place)) → MovesOrNot Move old new
    → SparesCell old new place
cells_by Move keeps (inl same) told is = (told, sym same ∙ is, cell_kept refl)
cells_by Move keeps (inr moves) told is =
    let (before, was, moved) = moves told is in
    (before, was, keeps before.now told.now moved.step)

thinned-current : (old new : List Cell) (place : ℕ) → IsThinned old new
    → (cell_in new place).current ≡ (cell_in old place).current
unfolding IsThinned
thinned-current [] [] place is = refl
thinned-current [] (next ∷ new) place is = absurd is
thinned-current (cell ∷ old) [] place is = absurd is
thinned-current (cell ∷ old) (next ∷ new) zero is = is.0.current
thinned-current (cell ∷ old) (next ∷ new) (suc place) is = thinned-current old new place is.1

outside_blocks : (atom at n : ℕ) (text : List ℕ) (place : ℕ) → 0 < atom → length text ≡ n * atom
    → IsOutside at n place → IsOutside at (length (blocks_of atom (length text / atom) text)) place
outside_blocks atom at n text place some long outside =
    let count : length text / atom ≡ n = ap (λ m. m / atom) long ∙ mul-div_cancel n some in
    subst (λ m. IsOutside at m place)
    (sym (length-blocks_of atom (length text / atom) text ∙ count)) outside

pub sync_fails : {old new : Device} (place : ℕ) → SyncCall old new failed_call
    → SparesCell old.told new.told place
sync_fails place call = cells_by _ (λ before now is. record {
  current = thinned-current before now place is;
  candidates = λ value has. inl (thinned_view before now is place value has);
}) call.told

module _ {atom : ℕ} {old new : Device} (place : ℕ) where
  pub spares_same : new ≡ old → Spares atom old new place
  spares_same same = record {
    bytes = λ bytes told long. (bytes, ap (λ d. d.values) same ∙ told, refl, refl);
    cells = λ told is. (told, sym (ap (λ d. d.told) same) ∙ is, cell_kept refl);
  }

  read_cells : {at : ℕ} {text : List ℕ} (result : Result (Unit {0}) Failed)
      → ReadCall atom at text old new result → SparesCell old.told new.told place
  read_cells (Ok done) call = cells_by _
      (λ before now is. cell_kept (ap (λ cells. cell_in cells place) is)) (inr call.told)
  read_cells (Err failed) call = cells_by _
      (λ before now is. cell_kept (ap (λ cells. cell_in cells place) is)) call.told

  pub spares_read : {at : ℕ} {text : List ℕ} {result : Result (Unit {0}) Failed}
      → ReadCall atom at text old new result → Spares atom old new place
  spares_read {result = result} call = record {
    bytes = λ bytes told long. (bytes, call.values ∙ told, refl, refl);
    cells = read_cells result call;
  }

  pub spares_sync : SyncCall old new succeeded → Spares atom old new place
  spares_sync call = record {
    bytes = λ bytes told long. (bytes, call.values ∙ told, refl, refl);
    cells = cells_by _ (λ before now is. (let synced = synced_view before now is in record {
      current = synced.current place;
      candidates = λ value has. inr (synced.candidates place value has);
    })) (inr call.told);
  }

  pub spares_write : {at : ℕ} (n : ℕ) {text : List ℕ} → WriteCall atom at text old new succeeded
      → 0 < atom → length text ≡ n * atom → at + n ≤ old.atoms → IsOutside at n place
      → Spares atom old new place
  spares_write {at = at} n {text = text} call some long within outside = record {
    bytes = λ bytes told whole.
        (let fits : (at + n) * atom ≤ length bytes = rw whole (mul-le-mul_right atom within) in
        let turns = bytes-written atom at n text bytes old new call told fits long in
        (turns.now, turns.told, turns.size, turns.step.outside place outside));
    cells = cells_by _ (λ before now is. cell_kept (ap (λ cells. cell_in cells place) is
        ∙ changed-outside wrote before _ _ place _ (outside_blocks atom at n text place some long
        outside))) (inr call.told);
  }

  pub write_fails : {at : ℕ} (n : ℕ) {text : List ℕ} → WriteCall atom at text old new failed_call
      → 0 < atom → length text ≡ n * atom → IsOutside at n place
      → SparesCell old.told new.told place
  write_fails {at = at} n {text = text} call some long outside = cells_by _
      (λ before now is. cell_kept (tried-outside before _ _ now place is
      (outside_blocks atom at n text place some long outside))) call.told

-- ---- a call of a commit, elsewhere than its copies
module _ {atom : ℕ} (old new : Device) (place : ℕ) (some : 0 < atom) (layout : Layout)
    (to : Header (List ℕ)) (outside : (copy : Copy)
    → IsOutside (place_of layout copy).start (place_of layout copy).count place) where
  pub spares_copy : (stage : Stage)
      → ((copy : Copy) → (place_of layout copy).start + (place_of layout copy).count ≤ old.atoms)
      → PutsCopy atom layout to stage old new succeeded → Spares atom old new place
  spares_copy begun within call = spares_write place (place_of layout primary).count call.call some
      call.size (within primary) (outside primary)
  spares_copy first_written within call = spares_sync place call
  spares_copy first_kept within call = spares_write place (place_of layout secondary).count
      call.call some call.size (within secondary) (outside secondary)
  spares_copy second_written within call = spares_sync place call

  pub copy_fails : (stage : Stage) → PutsCopy atom layout to stage old new failed_call
      → SparesCell old.told new.told place
  copy_fails begun call =
      write_fails place (place_of layout primary).count call.call some call.size (outside primary)
  copy_fails first_written call = sync_fails place call
  copy_fails first_kept call = write_fails place (place_of layout secondary).count call.call some
      call.size (outside secondary)
  copy_fails second_written call = sync_fails place call
