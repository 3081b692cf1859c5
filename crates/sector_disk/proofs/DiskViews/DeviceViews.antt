-- Lemmas on what device calls do to a disk as a run sees it.
use Rattle.std.proofs.Common.{◌≡◌, ℕ, ◌+◌, ◌*◌, ◌/◌, ◌<◌, ◌≤◌, List, length, take, drop, map, Some}
use Rattle.std.proofs.Common.{Result, Ok, Err, refl, sym, ◌∙◌, ap, subst, inl, inr, arith}
use Rattle.std.proofs.lemmas.List.{length-map}
use Rattle.std.proofs.Math.Nat.{mul-div_cancel}
use Rattle.base_terms.specs.declared.failed.Failed.{Failed}
use Rattle.base_terms.specs.Blocks.{pasted, blocks_of, changed}
use Rattle.sector_disk.specs.Cells.{Cell, wrote, synced, IsThinned}
use Rattle.sector_disk.specs.Cells as disk_cells
use Rattle.sector_disk.specs.Steps.{Told, IsKept, Moves, MovesOrNot}
use Rattle.sector_disk.specs.Values.{SameOutside}
use Rattle.sector_disk.specs.Devices.{ReadCall, WriteCall, SyncCall}
use Rattle.sector_disk.specs.DiskViews.Parts.{block_at}
use Rattle.sector_disk.specs.Devices.{Device}
use Rattle.sector_disk.specs.Devices.{succeeded, failed_call}
use Rattle.sector_disk.specs.DiskViews.Views.{View, view_of_bytes, view_of_cells, IsUnchanged, IsTried}
use Rattle.sector_disk.specs.DiskViews.Views.{IsWritten, IsSynced}
use Rattle.sector_disk.specs.DiskViews.Views as views
use Rattle.sector_disk.proofs.DiskViews.Blockwise.{length-pasted_blocks, block_at-pasted}
use Rattle.sector_disk.proofs.DiskViews.Blockwise.{block_at-pasted_outside, block_at-part}
use Rattle.sector_disk.proofs.DiskViews.Entries.{length-changed}
use Rattle.sector_disk.proofs.DiskViews.TableEntries.{none_contained, place_of_some, kept_view, wrote_view}
use Rattle.sector_disk.proofs.DiskViews.TableEntries.{length-tried, tried_view, untried_view, synced_view}
use Rattle.sector_disk.proofs.DiskViews.TableEntries.{length-thinned, thinned_view, unthinned_view}

-- a call leaves other bytes that are told, as many, and by this step of what a run sees
pub record TurnsBytes (atom : ℕ) (bytes : List ℕ) (new : Device)
    (Step : View → View → Type 0) : Type 0 where
  pub now : List ℕ
  pub told : new.values ≡ Some now
  pub size : length now ≡ length bytes
  pub step : Step (view_of_bytes atom bytes) (view_of_bytes atom now)

-- a call led to this table from one that was told, with as many atoms, and by this step
pub record TurnsTable (old : Device) (now : Told) (Step : View → View → Type 0) : Type 0 where
  pub before : Told
  pub told : old.told ≡ Some before
  pub size : length now.now ≡ length before.now
  pub step : Step (view_of_cells before.now) (view_of_cells now.now)

-- bytes that are told

-- a read, also one that fails
pub bytes-read : (atom at : ℕ) (text bytes : List ℕ) (old new : Device)
    (result : Result (Unit {0}) Failed)
    → ReadCall atom at text old new result → old.values ≡ Some bytes
    → TurnsBytes atom bytes new IsUnchanged
bytes-read atom at text bytes old new result call told = record {
  now = bytes;
  told = call.values ∙ told;
  size = refl;
  step = record { current = λ place. refl; candidates = λ place value has. has };
}

-- what a read gave
pub text-read : (atom at : ℕ) (text bytes : List ℕ) (old new : Device)
    → ReadCall atom at text old new succeeded → old.values ≡ Some bytes
    → text ≡ take (length text) (drop (at * atom) bytes)
text-read atom at text bytes old new call told = call.content bytes told

pub block-read : (atom at n : ℕ) (text bytes : List ℕ) (old new : Device) (k : ℕ)
    → ReadCall atom at text old new succeeded → old.values ≡ Some bytes → length text ≡ n * atom
    → k < n
    → block_at atom text k ≡ block_at atom bytes (at + k)
block-read atom at n text bytes old new k call told long inside =
    ap (λ all. block_at atom all k)
    (text-read atom at text bytes old new call told
    ∙ ap (λ m. take m (drop (at * atom) bytes)) long)
    ∙ block_at-part atom at n bytes k inside

-- a write
pub bytes-written : (atom at n : ℕ) (text bytes : List ℕ) (old new : Device)
    → WriteCall atom at text old new succeeded → old.values ≡ Some bytes
    → (at + n) * atom ≤ length bytes → length text ≡ n * atom
    → TurnsBytes atom bytes new (IsWritten atom at n text)
bytes-written atom at n text bytes old new call told within long = record {
  now = pasted bytes (at * atom) text;
  told = call.values bytes told;
  size = length-pasted_blocks atom at n bytes text within long;
  step = record {
    tried = record { inside = λ k below value has. inl has; outside = λ place far value has. has };
    inside = λ k below. block_at-pasted atom at n bytes text k within long below;
    outside = λ place far. block_at-pasted_outside atom at n bytes text place within long far;
  };
}

-- a write that failed leaves what lies outside of it
pub record LeavesBytes (atom at n : ℕ) (text bytes : List ℕ) (new : Device) : Type 0 where
  pub now : List ℕ
  pub told : new.values ≡ Some now
  pub same : SameOutside (at * atom) (n * atom) bytes now
  pub step : IsTried atom at n text (view_of_bytes atom bytes) (view_of_bytes atom now)

pub bytes-tried : (atom at n : ℕ) (text bytes : List ℕ) (old new : Device)
    → WriteCall atom at text old new failed_call → old.values ≡ Some bytes → length text ≡ n * atom
    → LeavesBytes atom at n text bytes new
bytes-tried atom at n text bytes old new call told long =
    let (now, is, same) = call.values bytes told in
    record {
      now = now;
      told = is;
      same = subst (λ len. SameOutside (at * atom) len bytes now) long same;
      step = record { inside = λ k below value has. inl has; outside = λ place far value has. has };
    }

-- a sync, also one that fails
pub bytes-synced : (atom : ℕ) (bytes : List ℕ) (old new : Device)
    (result : Result (Unit {0}) Failed)
    → SyncCall old new result → old.values ≡ Some bytes → TurnsBytes atom bytes new IsSynced
bytes-synced atom bytes old new result call told = record {
  now = bytes;
  told = call.values ∙ told;
  size = refl;
  step = record {
    current = λ place. refl;
    candidates = λ place value has. none_contained (value ≡ block_at atom bytes place) value has;
  };
}

pub bytes-thinned : (atom : ℕ) (bytes : List ℕ) (old new : Device)
    (result : Result (Unit {0}) Failed)
    → SyncCall old new result → old.values ≡ Some bytes → TurnsBytes atom bytes new views.IsThinned
bytes-thinned atom bytes old new result call told =
    record { now = bytes; told = call.values ∙ told; size = refl; step = λ place value has. has }

-- tables that are told

-- what a step of a table keeps and does
record TurnsCells (old new : List Cell) (Step : View → View → Type 0) : Type 0 where
  size : length new ≡ length old
  step : Step (view_of_cells old) (view_of_cells new)

turns_by_move : (Move : List Cell → List Cell → Type 0) (Step : View → View → Type 0)
    (old new : Device) (now : Told)
    → ((before : Told) → old.told ≡ Some before → Move before.now now.now
    → TurnsCells before.now now.now Step)
    → Moves Move old.told new.told → new.told ≡ Some now → TurnsTable old now Step
turns_by_move Move Step old new now turns moves told =
    let (before, was, is) = moves now told in
    let turned = turns before was is.step in
    record { before = before; told = was; size = turned.size; step = turned.step }

-- a failed call may have made no device call
turns_or_not : (Move : List Cell → List Cell → Type 0) (Step : View → View → Type 0)
    (old new : Device) (now : Told)
    → ((cells : List Cell) → Step (view_of_cells cells) (view_of_cells cells))
    → ((before : Told) → old.told ≡ Some before → Move before.now now.now
    → TurnsCells before.now now.now Step)
    → MovesOrNot Move old.told new.told → new.told ≡ Some now → TurnsTable old now Step
turns_or_not Move Step old new now stays turns (inl same) told =
    record { before = now; told = sym same ∙ told; size = refl; step = stays now.now }
turns_or_not Move Step old new now stays turns (inr moves) told =
    turns_by_move Move Step old new now turns moves told

-- a read, also one that fails
kept : (old new : List Cell) → new ≡ old → TurnsCells old new IsUnchanged
kept old new is = record { size = ap (λ cells. length cells) is; step = kept_view old new is }

pub table-read : (atom at : ℕ) (text : List ℕ) (old new : Device)
    (result : Result (Unit {0}) Failed) (now : Told)
    → ReadCall atom at text old new result → new.told ≡ Some now → TurnsTable old now IsUnchanged
table-read atom at text old new (Ok done) now call told =
    turns_by_move IsKept IsUnchanged old new now (λ before _ is. kept before.now now.now is)
    call.told told
table-read atom at text old new (Err failed) now call told =
    turns_or_not IsKept IsUnchanged old new now (λ cells. kept_view cells cells refl)
    (λ before _ is. kept before.now now.now is) call.told told

-- the blocks of a text of so many
count_of_blocks : (atom n : ℕ) (text : List ℕ) → 0 < atom → length text ≡ n * atom
    → length text / atom ≡ n
count_of_blocks atom n text some long = ap (λ m. m / atom) long ∙ mul-div_cancel n some

-- the `n` atoms from `at` on are in the table before a call
abbrev pub HasPlaces : Device → ℕ → ℕ → Type 0
HasPlaces old at n =
    (before : Told) → old.told ≡ Some before → (k : ℕ) → k < n → at + k < length before.now

pub places_of_atoms : (old : Device) (atoms at n : ℕ)
    → ((before : Told) → old.told ≡ Some before → length before.now ≡ atoms) → at + n ≤ atoms
    → HasPlaces old at n
places_of_atoms old atoms at n had within before was k below =
    omega (arith, had before was, within, below)

pub places_of_current : (old : Device) (atom at n : ℕ) → 0 < atom
    → ((before : Told) → old.told ≡ Some before → (k : ℕ) → k < n
    → length ((view_of_cells before.now).current (at + k)) ≡ atom)
    → HasPlaces old at n
places_of_current old atom at n some whole before was k below =
    place_of_some before.now (at + k) (omega (arith, some, whole before was k below))

-- a write
pub table-written : (atom at n : ℕ) (text : List ℕ) (old new : Device) (now : Told)
    → WriteCall atom at text old new succeeded → new.told ≡ Some now
    → 0 < atom → length text ≡ n * atom → HasPlaces old at n
    → TurnsTable old now (IsWritten atom at n text)
table-written atom at n text old new now call told some long has =
    turns_by_move
    (λ cells next. next ≡ changed wrote cells at (blocks_of atom (length text / atom) text))
    (IsWritten atom at n text) old new now
    (λ before was is.
    let exact : now.now ≡ changed wrote before.now at (blocks_of atom n text) =
    is ∙ ap (λ m. changed wrote before.now at (blocks_of atom m text))
    (count_of_blocks atom n text some long) in
    record {
      size = ap (λ cells. length cells) exact
          ∙ length-changed wrote before.now at (blocks_of atom n text);
      step = wrote_view atom at n text before.now now.now (has before was) exact;
    }) call.told told

-- a write that failed
pub table-tried : (atom at n : ℕ) (text : List ℕ) (old new : Device) (now : Told)
    → WriteCall atom at text old new failed_call → new.told ≡ Some now
    → 0 < atom → length text ≡ n * atom
    → TurnsTable old now (IsTried atom at n text)
table-tried atom at n text old new now call told some long =
    turns_or_not
    (λ cells next. disk_cells.IsTried cells at (blocks_of atom (length text / atom) text) next)
    (IsTried atom at n text) old new now (λ cells. untried_view atom at n text cells cells refl)
    (λ before was is.
    let exact : disk_cells.IsTried before.now at (blocks_of atom n text) now.now =
    subst (λ m. disk_cells.IsTried before.now at (blocks_of atom m text) now.now)
    (count_of_blocks atom n text some long) is in
    record {
      size = length-tried before.now at (blocks_of atom n text) now.now exact;
      step = tried_view atom at n text before.now now.now exact;
    }) call.told told

-- a sync
pub table-synced : (old new : Device) (now : Told) → SyncCall old new succeeded
    → new.told ≡ Some now
    → TurnsTable old now IsSynced
table-synced old new now call told =
    turns_by_move (λ cells next. next ≡ map synced cells) IsSynced old new now
    (λ before was is. record {
      size = ap (λ cells. length cells) is ∙ length-map before.now synced;
      step = synced_view before.now now.now is;
    }) call.told told

-- a sync that failed
pub table-thinned : (old new : Device) (now : Told) → SyncCall old new failed_call
    → new.told ≡ Some now
    → TurnsTable old now views.IsThinned
table-thinned old new now call told =
    turns_or_not IsThinned views.IsThinned old new now (λ cells. unthinned_view cells cells refl)
    (λ before was is. record {
      size = length-thinned before.now now.now is;
      step = thinned_view before.now now.now is;
    }) call.told told
