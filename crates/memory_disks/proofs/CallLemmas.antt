-- Lemmas on the record of device calls, and the tables that they leave.
use Rattle.std.proofs.Common.{◌≡◌, ℕ, ◌+◌, ◌*◌, ◌/◌, ◌%◌, ◌<◌, ◌≤◌, List, [], ◌∷◌, ◌++◌, length}
use Rattle.std.proofs.Common.{take, drop, Some, refl, sym, ◌∙◌, ap, ap₂, arith, length-append}
use Rattle.std.proofs.Math.Nat.{mul-le-mul_right}
use Rattle.std.proofs.lemmas.List.{nil_from_length, length-drop, length_push, take-append-le}
use Rattle.std.proofs.lemmas.List.{drop-append-le, take_all}
use Rattle.memory_disks.specs.Calls.{Call, table_after, last_table, tables_after}
use Rattle.sector_disk.specs.Cells.{Cell}
use Rattle.memory_disks.specs.Notes.{calls_of, noted_bytes, HasRoom}
use Rattle.memory_disks.specs.declared.call_record.Note.{Note}

pub noted_bytes-push : (notes : List Note) (note : Note)
    → noted_bytes (notes ++ note ∷ []) ≡ noted_bytes notes + note.len
unfolding noted_bytes
noted_bytes-push [] note = omega arith
noted_bytes-push (first ∷ notes) note = omega (arith, noted_bytes-push notes note)

-- a note and its bytes add a call
pub calls_of-push : (notes : List Note) (note : Note) (log body : List ℕ)
    → length log ≡ noted_bytes notes
    → length body ≡ note.len
    → calls_of (notes ++ note ∷ []) (log ++ body) ≡ calls_of notes log ++ record {
      kind = note.kind;
      at = note.at;
      body = body;
      mark = note.mark;
    } ∷ []
unfolding calls_of noted_bytes
calls_of-push [] note log body whole is =
    let none : log ≡ [] = nil_from_length log whole in
    rw none (rw (take_all note.len body (omega arith)) refl)
calls_of-push (first ∷ notes) note log body whole is =
    let enough : first.len ≤ length log = omega arith in
    let rest : length (drop first.len log) ≡ noted_bytes notes =
    length-drop first.len log ∙ omega arith in
    rw (take-append-le first.len log body enough, drop-append-le first.len log body enough)
    (ap (λ calls. record {
      kind = first.kind;
      at = first.at;
      body = take first.len log;
      mark = first.mark;
    } ∷ calls)
    (calls_of-push notes note (drop first.len log) body rest is))

-- one more call moves the last table
pub last_table-push : (atom : ℕ) (cells : List Cell) (calls : List Call) (call : Call)
    → last_table atom cells (calls ++ call ∷ [])
    ≡ table_after atom (last_table atom cells calls) call
unfolding last_table
last_table-push atom cells [] call = refl
last_table-push atom cells (first ∷ calls) call =
    last_table-push atom (table_after atom cells first) calls call

-- and adds its table
pub tables_after-push : (atom : ℕ) (cells : List Cell) (calls : List Call) (call : Call)
    → tables_after atom cells (calls ++ call ∷ [])
    ≡ tables_after atom cells calls
    ++ (Some call.mark, table_after atom (last_table atom cells calls) call)
    ∷ []
unfolding last_table tables_after
tables_after-push atom cells [] call = refl
tables_after-push atom cells (first ∷ calls) call =
    ap (λ tables. (Some first.mark, table_after atom cells first) ∷ tables)
    (tables_after-push atom (table_after atom cells first) calls call)

-- bytes of whole atoms are so many atoms
pub whole_atoms : (len atom : ℕ) → 0 < atom → len % atom ≡ 0 → len ≡ len / atom * atom
whole_atoms len atom some whole = grind arith

-- where there is room for more atoms, there is room for their bytes
pub room_left : (atom room used log body : ℕ) → 0 < atom → body % atom ≡ 0
    → used + 1 + body / atom ≤ room
    → log ≤ used * atom → log + body ≤ (used + 1 + body / atom) * atom
room_left atom room used log body some whole room_is written =
    let bytes : body ≡ body / atom * atom = whole_atoms body atom some whole in grind arith

-- one more call for which there is room leaves memory for the rest
pub HasRoom-note : (atom room used notes_room log_room more_notes more_log : ℕ) (notes : List Note)
    (log : List ℕ) (note : Note) (body : List ℕ)
    → HasRoom atom room used notes log notes_room log_room → 0 < atom → length body % atom ≡ 0
    → used + 1 + length body / atom ≤ room → length body ≡ note.len
    → notes_room ≤ more_notes → log_room ≤ more_log
    → HasRoom atom room (used + (1 + length body / atom)) (notes ++ note ∷ []) (log ++ body)
    more_notes more_log
HasRoom-note atom room used notes_room log_room more_notes more_log notes log note body had some
    whole room_is
    is notes_more log_more = record {
      logged =
          length-append log body
          ∙ (ap₂ (λ a b. a + b) had.logged is ∙ sym (noted_bytes-push notes note));
      within = omega arith;
      noted = rw (length_push notes note) (omega (arith, had.noted));
      written = rw (length-append log body) (let e : used + (1 + length body / atom)
          ≡ used + 1 + length body / atom = omega arith in
          rw e (room_left atom room used (length log) (length body) some whole room_is
          had.written));
      notes_fit = omega (arith, had.notes_fit);
      log_fits = omega (arith, had.log_fits);
    }

-- the bytes of a call for which there is room have memory
pub room_for_log : (atom room used notes_room log_room : ℕ) (notes : List Note) (log body : List ℕ)
    → HasRoom atom room used notes log notes_room log_room → 0 < atom → length body % atom ≡ 0
    → used + 1 + length body / atom ≤ room → length log + length body ≤ log_room
room_for_log atom room used notes_room log_room notes log body had some whole room_is =
    let bytes =
    room_left atom room used (length log) (length body) some whole room_is had.written in
    let most : (used + 1 + length body / atom) * atom ≤ room * atom =
    mul-le-mul_right atom room_is in
    omega (arith, had.log_fits)
