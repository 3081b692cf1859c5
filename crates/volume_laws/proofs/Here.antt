-- A moment of a run: what holds of its operations and of its disk, and how a device call moves it
-- on.
use Rattle.std.proofs.Common.{Bool, List, Result, Some, ap, arith, false, inl, inr, length, refl}
use Rattle.std.proofs.Common.{subst, sym, true, ℕ, ◌*◌, ◌+◌, ◌<◌, ◌∙◌, ◌≡◌, ◌≤◌}
use Rattle.plain_disk.specs.Plain.{Block}
use Rattle.sector_disk.proofs.DiskViews.Blockwise.{blocks_of_whole}
use Rattle.sector_disk.specs.DiskViews.Views.{IsSynced, IsThinned, IsTried, IsUnchanged, IsWritten}
use Rattle.sector_disk.specs.DiskViews.Views.{View, view_of_bytes, view_of_cells}
use Rattle.sector_disk.specs.Geometry.{IsAtom}
use Rattle.sector_disk.specs.Steps.{Told}
use Rattle.segment_map.specs.declared.map.Piece.{Piece}
use Rattle.volume_machine.specs.Edges.{InPlain}
use Rattle.volume_machine.specs.Pieces.{IsPieceOf, place_in, place_of}
use Rattle.volume_machine.specs.Seals.{AreLawful, Seals}
use Rattle.volume_machine.specs.Sound.{AreApart}
use Rattle.volume_machine.specs.States.{State}
use Rattle.volume_machine.specs.Working.{Works}
use Rattle.base_terms.specs.declared.failed.Failed.{Failed}
use Rattle.sector_disk.specs.Devices.{Device, ReadCall, SyncCall, WriteCall, failed_call, succeeded}
use Rattle.sector_disk.proofs.DiskViews.DeviceViews.{HasPlaces, TurnsBytes, TurnsTable, bytes-read}
use Rattle.sector_disk.proofs.DiskViews.DeviceViews.{bytes-synced, bytes-thinned, bytes-tried, bytes-written}
use Rattle.sector_disk.proofs.DiskViews.DeviceViews.{places_of_current, table-read, table-synced}
use Rattle.sector_disk.proofs.DiskViews.DeviceViews.{table-thinned, table-tried, table-written}
use Rattle.volume_machine.specs.declared.open.Open.{Open}
use Rattle.volume_laws.proofs.{Invariant.Logic, Invariant.Shown, Reading.AreLive}
use Rattle.volume_laws.proofs.{Reading.piece_place, SealLemmas.length-sealed}

pub some_atom : (atom : ℕ) → IsAtom atom → 0 < atom
some_atom atom (inl is) = omega arith
some_atom atom (inr is) = omega arith

-- what holds at a moment: the operations', and the disk's, by its bytes and, under a premise, by
-- its tables where it tells them; and, under another, that it tells an atom's bytes for each atom
-- while nothing has failed, and as many cells
pub record Here {K : Type 0} (P Q : Type 0) (state : State K) (seals : Seals) (plain : ℕ → InPlain)
    (left : List Block) : Type 0 where
  pub logic : Logic state plain left
  pub lawful : AreLawful state.map.atom seals
  pub apart : AreApart state.map
  pub works : Works state
  pub bytes : List ℕ
  pub values : state.disk.values ≡ Some bytes
  pub size : Q → state.broken ≡ false → length bytes ≡ state.disk.atoms * state.map.atom
  pub shown : Shown state seals plain left (view_of_bytes state.map.atom bytes)
  pub tables : P → (told : Told) → state.disk.told ≡ Some told
      → Shown state seals plain left (view_of_cells told.now)
  pub places : P → (told : Told) → state.disk.told ≡ Some told → (b : ℕ) → b < state.map.blocks
      → place_in state.map b < length told.now
  pub cells : Q → P → (told : Told) → state.disk.told ≡ Some told
      → length told.now ≡ state.disk.atoms

pub positive : {K P Q : Type 0} {state : State K} {seals : Seals} {plain : ℕ → InPlain}
    {left : List Block} → Here P Q state seals plain left → 0 < state.map.atom
positive {state = state} here = some_atom state.map.atom here.logic.sound.fits.known

-- a call moves what the disk shows, by its bytes and by its tables
pub record Moves (P : Type 0) (fine : Bool) (atom : ℕ) (bytes : List ℕ) (old new : Device)
    (Rel : View → View → Type 0) : Type 0 where
  pub now : List ℕ
  pub values : new.values ≡ Some now
  pub atoms : new.atoms ≡ old.atoms
  pub size : fine ≡ true → length now ≡ length bytes
  pub by_bytes : Rel (view_of_bytes atom bytes) (view_of_bytes atom now)
  pub by_tables : P → (told : Told) → new.told ≡ Some told
      → (before : Told) × (old.told ≡ Some before) × (length told.now ≡ length before.now)
      × Rel (view_of_cells before.now) (view_of_cells told.now)

pub here_after : {K P Q : Type 0} {fine : Bool} {old new : State K} {seals : Seals}
    {plain now : ℕ → InPlain} {left next : List Block} {Rel : View → View → Type 0} →
    (here : Here P Q old seals plain left) → new.map ≡ old.map → Works new
    → (new.broken ≡ false → (old.broken ≡ false) × (fine ≡ true)) → Logic new now next
    → Moves P fine old.map.atom here.bytes old.disk new.disk Rel →
    ((view after : View) → Rel view after → Shown old seals plain left view
    → Shown new seals now next after) → Here P Q new seals now next
here_after {new = new} {seals = seals} {now = now} {next = next} here map works whole logic moves
    shows = record {
      works = works;
      logic = logic;
      lawful = rw map here.lawful;
      apart = rw map here.apart;
      bytes = moves.now;
      values = moves.values;
      size = λ sized unbroken. (let (was, is_fine) = whole unbroken in
          moves.size is_fine ∙ here.size sized was ∙ rw (moves.atoms, map) refl);
      cells = λ sized premise told is.
          (let (before, was, size, moved) = moves.by_tables premise told is in
          size ∙ here.cells sized premise before was ∙ sym moves.atoms);
      shown = subst (λ m. Shown new seals now next (view_of_bytes m.atom moves.now)) (sym map)
          (shows _ _ moves.by_bytes here.shown);
      places = λ premise told is b below.
          (let (before, was, size, moved) = moves.by_tables premise told is in
          rw (map, size) (here.places premise before was b (rw map at below)));
      tables = λ premise told is.
          (let (before, was, size, moved) = moves.by_tables premise told is in
          shows _ _ moved (here.tables premise before was));
    }

module _ {P : Type 0} {atom : ℕ} {bytes : List ℕ} {old new : Device} where
  moves_turned : {Rel : View → View → Type 0} → TurnsBytes atom bytes new Rel
      → new.atoms ≡ old.atoms → (P → (told : Told) → new.told ≡ Some told → TurnsTable old told Rel)
      → Moves P true atom bytes old new Rel
  moves_turned turns atoms tables = record {
    now = turns.now;
    values = turns.told;
    atoms = atoms;
    size = λ is. turns.size;
    by_bytes = turns.step;
    by_tables = λ premise told is. (let turned = tables premise told is in
        (turned.before, turned.told, turned.size, turned.step));
  }

  pub moves_not : new ≡ old → old.values ≡ Some bytes → Moves P true atom bytes old new IsUnchanged
  moves_not same values =
      let stands : (view : View) → IsUnchanged view view =
      λ view. record { current = λ place. refl; candidates = λ place value has. has } in
      moves_turned (record {
        now = bytes;
        told = ap (λ d. d.values) same ∙ values;
        size = refl;
        step = stands (view_of_bytes atom bytes);
      }) (ap (λ d. d.atoms) same) (λ premise told is. record {
        before = told;
        told = sym (ap (λ d. d.told) same) ∙ is;
        size = refl;
        step = stands (view_of_cells told.now);
      })

  pub moves_by_read : {at : ℕ} {text : List ℕ} {result : Result (Unit {0}) Failed}
      → ReadCall atom at text old new result → old.values ≡ Some bytes
      → Moves P true atom bytes old new IsUnchanged
  moves_by_read {at = at} {text = text} {result = result} call values =
      moves_turned (bytes-read atom at text bytes old new result call values) call.atoms
      (λ premise told is. table-read atom at text old new result told call is)

  pub moves_by_tried : {at : ℕ} (n : ℕ) {text : List ℕ} → WriteCall atom at text old new failed_call
      → old.values ≡ Some bytes → 0 < atom → length text ≡ n * atom
      → Moves P false atom bytes old new (IsTried atom at n text)
  moves_by_tried {at = at} n {text = text} call values some long =
      let leaves = bytes-tried atom at n text bytes old new call values long in record {
        now = leaves.now;
        values = leaves.told;
        atoms = call.atoms;
        size = λ is. absurd (cc);
        by_bytes = leaves.step;
        by_tables = λ premise told is.
            (let turned = table-tried atom at n text old new told call is some long in
            (turned.before, turned.told, turned.size, turned.step));
      }

  pub moves_by_written : {at : ℕ} (n : ℕ) {text : List ℕ} → WriteCall atom at text old new succeeded
      → old.values ≡ Some bytes → 0 < atom → length text ≡ n * atom → (at + n) * atom ≤ length bytes
      → (P → HasPlaces old at n) → Moves P true atom bytes old new (IsWritten atom at n text)
  moves_by_written {at = at} n {text = text} call values some long within has =
      moves_turned (bytes-written atom at n text bytes old new call values within long) call.atoms
      (λ premise told is. table-written atom at n text old new told call is some long (has premise))

  pub moves_by_sync : SyncCall old new succeeded → old.values ≡ Some bytes
      → Moves P true atom bytes old new IsSynced
  moves_by_sync call values = moves_turned (bytes-synced atom bytes old new succeeded call values)
      call.atoms (λ premise told is. table-synced old new told call is)

  pub moves_by_failed_sync : SyncCall old new failed_call → old.values ≡ Some bytes
      → Moves P true atom bytes old new IsThinned
  moves_by_failed_sync call values = moves_turned (bytes-thinned atom bytes old new
      failed_call call values) call.atoms (λ premise told is. table-thinned old new told call is)

-- a piece lies within the disk's bytes and tables
module _ {K P Q : Type 0} {state : State K} {seals : Seals} {plain : ℕ → InPlain} {left : List Block}
    (o : Open) {piece : Piece} (here : Here P Q state seals plain left)
    (was : state.broken ≡ false) (next : IsPieceOf state.map o piece) (live : AreLive state o)
    (begun : o.range.start ≤ o.next) where
  piece_length : {view : View} → Shown state seals plain left view → (k : ℕ) → k < piece.count
      → length (view.current (place_of state.map piece + k)) ≡ state.map.atom
  piece_length {view = view} shown k below =
      let (value, is_now, sealed) = shown.current was (o.next + k)
      (live (o.next + k) (omega arith) (omega arith)) in
      rw (← piece_place o next k below)
      (length-sealed state.map seals (o.next + k) value _ here.lawful sealed)

  pub piece_in_bytes : (place_of state.map piece + piece.count) * state.map.atom ≤ length here.bytes
  piece_in_bytes = blocks_of_whole state.map.atom (place_of state.map piece) piece.count here.bytes
      (positive here) next.some (piece_length here.shown)

  pub piece_in_tables : P → HasPlaces state.disk (place_of state.map piece) piece.count
  piece_in_tables premise = places_of_current state.disk state.map.atom (place_of state.map piece)
      piece.count (positive here) (λ before is. piece_length (here.tables premise before is))
