-- How the worker's device calls move what the disk shows.
use Rattle.std.proofs.Common.{Bool, List, arith, false, length, subst, sym, true, ℕ, ◌*◌, ◌+◌, ◌≡◌}
use Rattle.std.proofs.Common.{◌≤◌}
use Rattle.plain_disk.specs.Plain.{Block}
use Rattle.sector_disk.specs.DiskViews.Views.{IsTried, IsWritten, View}
use Rattle.volume_machine.specs.Edges.{InPlain}
use Rattle.volume_machine.specs.Seals.{Seals}
use Rattle.volume_machine.specs.States.{State}
use Rattle.crash_laws.specs.HeaderAreas.Commits.{Stage, begun, first_written, first_kept, second_written}
use Rattle.crash_laws.specs.HeaderAreas.Commits.{CommitCall, CommitFails}
use Rattle.crash_laws.specs.HeaderAreas.Headers.{Copy, primary, secondary, Layout, place_of, Header}
use Rattle.sector_disk.proofs.DiskViews.DeviceViews.{places_of_atoms}
use Rattle.sector_disk.specs.Devices.{Device, WriteCall, succeeded, failed_call}
use Rattle.volume_machine.specs.WorkCalls.{Puts, PutsCopy}
use Rattle.volume_laws.proofs.Here.{Here, Moves, moves_by_failed_sync, moves_by_sync}
use Rattle.volume_laws.proofs.Here.{moves_by_tried, moves_by_written, positive}

-- a call that moves what is shown so moves it in another way too
pub moves_as : {P : Type 0} {fine : Bool} {atom : ℕ} {bytes : List ℕ} {old new : Device}
    {Rel Other : View → View → Type 0} → ((view after : View) → Rel view after → Other view after)
    → Moves P fine atom bytes old new Rel → Moves P fine atom bytes old new Other
moves_as goes moves = record {
  now = moves.now;
  values = moves.values;
  atoms = moves.atoms;
  size = moves.size;
  by_bytes = goes _ _ moves.by_bytes;
  by_tables = λ premise told is. (let (before, was, size, moved) = moves.by_tables premise told is in
      (before, was, size, goes _ _ moved));
}

module _ {K P Q : Type 0} {state : State K} {seals : Seals} {plain : ℕ → InPlain} {left : List Block}
    (here : Here P Q state seals plain left) {new : Device} where
  -- a write, and one that failed
  pub put_moves : {at : ℕ} (n : ℕ) {text : List ℕ} → Q → state.broken ≡ false
      → at + n ≤ state.disk.atoms → Puts state.map.atom at n text state.disk new succeeded
      → Moves P true state.map.atom here.bytes state.disk new (IsWritten state.map.atom at n text)
  put_moves {at = at} n all was within puts =
      moves_by_written n puts.call here.values (positive here) puts.size
      (let long = here.size all was in
      let bound : (at + n) * state.map.atom ≤ state.disk.atoms * state.map.atom =
      grind (arith, within) in subst (λ size. (at + n) * state.map.atom ≤ size) (sym long) bound)
      (λ premise. places_of_atoms state.disk state.disk.atoms at n (here.cells all premise) within)

  pub put_fails : {at : ℕ} (n : ℕ) {text : List ℕ}
      → Puts state.map.atom at n text state.disk new failed_call
      → Moves P false state.map.atom here.bytes state.disk new (IsTried state.map.atom at n text)
  put_fails n puts = moves_by_tried n puts.call here.values (positive here) puts.size

  pub write_moves : {at : ℕ} (n : ℕ) {text : List ℕ} → Q → state.broken ≡ false
      → at + n ≤ state.disk.atoms → length text ≡ n * state.map.atom
      → WriteCall state.map.atom at text state.disk new succeeded
      → Moves P true state.map.atom here.bytes state.disk new (IsWritten state.map.atom at n text)
  write_moves n all was within size call =
      put_moves n all was within (record { call = call; size = size })

  pub tries_moves : {at : ℕ} (n : ℕ) {text : List ℕ} → length text ≡ n * state.map.atom
      → WriteCall state.map.atom at text state.disk new failed_call
      → Moves P false state.map.atom here.bytes state.disk new (IsTried state.map.atom at n text)
  tries_moves n size call = put_fails n (record { call = call; size = size })

  -- a call of a commit
  pub copy_moves : (layout : Layout) (to : Header (List ℕ)) (stage : Stage) → Q
      → state.broken ≡ false
      → ((copy : Copy) → (place_of layout copy).start + (place_of layout copy).count
      ≤ state.disk.atoms) → PutsCopy state.map.atom layout to stage state.disk new succeeded
      → Moves P true state.map.atom here.bytes state.disk new
      (CommitCall state.map.atom layout to stage)
  copy_moves layout to begun all was within call =
      put_moves (place_of layout primary).count all was (within primary) call
  copy_moves layout to first_written all was within call = moves_by_sync call here.values
  copy_moves layout to first_kept all was within call =
      put_moves (place_of layout secondary).count all was (within secondary) call
  copy_moves layout to second_written all was within call = moves_by_sync call here.values

  pub copy_fails : (layout : Layout) (to : Header (List ℕ)) (stage : Stage)
      → PutsCopy state.map.atom layout to stage state.disk new failed_call
      → (fine : Bool) × Moves P fine state.map.atom here.bytes state.disk new
      (CommitFails state.map.atom layout to stage)
  copy_fails layout to begun call = (false, put_fails (place_of layout primary).count call)
  copy_fails layout to first_written call = (true, moves_by_failed_sync call here.values)
  copy_fails layout to first_kept call = (false, put_fails (place_of layout secondary).count call)
  copy_fails layout to second_written call = (true, moves_by_failed_sync call here.values)
