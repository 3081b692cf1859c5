-- Facts that hold of each atom of a disk in memory, whatever calls it had.
use Rattle.std.specs.Prelude.{ℕ, zero, suc, ◌≡◌, ◌+◌, ◌*◌, ◌/◌, ◌≤◌, List, [], ◌∷◌, ◌++◌, length}
use Rattle.std.specs.Prelude.{map, drop, Contains}
use Rattle.std.specs.List.{AllByRecursion}
use Rattle.std.proofs.Common.{inl, inr, arith, length-drop}
use Rattle.std.proofs.Math.Nat.{div-mul-le_self}
use Rattle.std.proofs.lemmas.List.{length-take-le}
use Rattle.std.proofs.lemmas.List.Elements.{Contains-push, Contains-push_cases}
use Rattle.std.proofs.lemmas.List.Elements.{Contains-append_left}
use Rattle.base_terms.specs.Blocks.{changed, blocks_of}
use Rattle.memory_disks.specs.Calls.{Call, changed_by, table_after, last_table, table}
use Rattle.sector_disk.specs.Cells.{Cell, sure, sures, wrote, tried, synced, IsHeld, AreHeld}
use Rattle.sector_disk.specs.Cells.{IsSized, AreSized}
use Rattle.memory_disks.specs.declared.call_record.Kind.{Kind}
use Rattle.memory_disks.specs.declared.call_record.Kind.TheVariants.{Read, Write, FailedWrite, Sync}

-- a fact on atoms that calls keep, where their values have another
pub record IsLasting (P : Cell → Type 0) (Q : List ℕ → Type 0) : Type 0 where
  pub at_start : (value : List ℕ) → Q value → P (sure value)
  pub in_write : (cell : Cell) (value : List ℕ) → Q value → P cell → P (wrote cell value)
  pub in_failed_write : (cell : Cell) (value : List ℕ) → Q value → P cell → P (tried cell value)
  pub in_sync : (cell : Cell) → P cell → P (synced cell)

pub each_changed : (P : Cell → Type 0) (Q : List ℕ → Type 0) (change : Cell → List ℕ → Cell)
    → ((cell : Cell) (value : List ℕ) → Q value → P cell → P (change cell value))
    → (cells : List Cell) (at : ℕ) (values : List (List ℕ)) → AllByRecursion Q values
    → AllByRecursion P cells
    → AllByRecursion P (changed change cells at values)
unfolding changed
each_changed P Q change keeps [] at values of_values each = tt
each_changed P Q change keeps (cell ∷ cells) at [] of_values each = each
each_changed P Q change keeps (cell ∷ cells) zero (value ∷ values) of_values each = (
  keeps cell value of_values.0 each.0,
  each_changed P Q change keeps cells 0 values of_values.1 each.1,
)
each_changed P Q change keeps (cell ∷ cells) (suc at) (value ∷ values) of_values each =
    (each.0, each_changed P Q change keeps cells at (value ∷ values) of_values each.1)

pub each_synced : (P : Cell → Type 0) (Q : List ℕ → Type 0) → IsLasting P Q → (cells : List Cell)
    → AllByRecursion P cells → AllByRecursion P (map synced cells)
each_synced P Q lasting [] each = tt
each_synced P Q lasting (cell ∷ cells) each =
    (lasting.in_sync cell each.0, each_synced P Q lasting cells each.1)

pub each_sures : (P : Cell → Type 0) (Q : List ℕ → Type 0) → IsLasting P Q
    → (values : List (List ℕ))
    → AllByRecursion Q values → AllByRecursion P (sures values)
unfolding sures
each_sures P Q lasting [] of_values = tt
each_sures P Q lasting (value ∷ values) of_values =
    (lasting.at_start value of_values.0, each_sures P Q lasting values of_values.1)

pub each_changed_by : (P : Cell → Type 0) (Q : List ℕ → Type 0) → IsLasting P Q
    → (kind : Kind) (cells : List Cell) (at : ℕ) (values : List (List ℕ))
    → AllByRecursion Q values → AllByRecursion P cells
    → AllByRecursion P (changed_by kind cells at values)
each_changed_by P Q lasting Read cells at values of_values each = each
each_changed_by P Q lasting Write cells at values of_values each =
    each_changed P Q wrote lasting.in_write cells at values of_values each
each_changed_by P Q lasting FailedWrite cells at values of_values each =
    each_changed P Q tried lasting.in_failed_write cells at values of_values each
each_changed_by P Q lasting Sync cells at values of_values each = each_synced P Q lasting cells each

pub each_last : (P : Cell → Type 0) (Q : List ℕ → Type 0) → IsLasting P Q → (atom : ℕ)
    → ((body : List ℕ) → AllByRecursion Q (blocks_of atom (length body / atom) body))
    → (cells : List Cell) (calls : List Call) → AllByRecursion P cells
    → AllByRecursion P (last_table atom cells calls)
unfolding last_table table_after
each_last P Q lasting atom of_blocks cells [] each = each
each_last P Q lasting atom of_blocks cells (call ∷ calls) each =
    each_last P Q lasting atom of_blocks (table_after atom cells call) calls
    (each_changed_by P Q lasting call.kind cells call.at
    (blocks_of atom (length call.body / atom) call.body)
    (of_blocks call.body) each)

-- nothing is asked of values of which nothing is said
pub each_value : (values : List (List ℕ)) → AllByRecursion (λ _. Unit {0}) values
each_value [] = tt
each_value (value ∷ values) = (tt, each_value values)

-- each current value is a candidate
pub held_lasting : IsLasting IsHeld (λ _. Unit {0})
held_lasting = record {
  at_start = λ value _. Contains-push [] value;
  in_write = λ cell value _ _. Contains-push cell.candidates value;
  in_failed_write =
      λ cell value _ held. Contains-append_left cell.candidates (value ∷ []) cell.current held;
  in_sync = λ cell _. Contains-push [] cell.current;
}

pub held_table : (atom atoms : ℕ) (start : List ℕ) (calls : List Call)
    → AreHeld (table atom atoms start calls)
unfolding table
held_table atom atoms start calls =
    each_last IsHeld (λ _. Unit {0}) held_lasting atom
    (λ body. each_value (blocks_of atom (length body / atom) body))
    (sures (blocks_of atom atoms start)) calls
    (each_sures IsHeld (λ _. Unit {0}) held_lasting (blocks_of atom atoms start)
    (each_value (blocks_of atom atoms start)))

-- Each current value is a candidate, and each candidate has an atom's bytes: the first is what a
-- sync keeps the second by.
abbrev IsHeldSized : ℕ → Cell → Type 0
IsHeldSized atom cell = IsHeld cell × IsSized atom cell

sized_pushed : (atom : ℕ) (candidates : List (List ℕ)) (value : List ℕ) → length value ≡ atom
    → ((one : List ℕ) → Contains candidates one → length one ≡ atom)
    → (one : List ℕ) → Contains (candidates ++ value ∷ []) one → length one ≡ atom
sized_pushed atom candidates value long each one is =
    elim (Contains-push_cases candidates value one is) [
      | inl among ↦ each one among
      | inr same ↦ rw (← same) long
    ]

sized_none : (atom : ℕ) (one : List ℕ) → Contains [] one → length one ≡ atom
sized_none atom one is = absurd (omega (arith, is.1))

sized_lasting : (atom : ℕ) → IsLasting (IsHeldSized atom) (λ value. length value ≡ atom)
sized_lasting atom = record {
  at_start =
      λ value long. (Contains-push [] value, sized_pushed atom [] value long (sized_none atom));
  in_write = λ cell value long is.
      (Contains-push cell.candidates value, sized_pushed atom cell.candidates value long is.1);
  in_failed_write = λ cell value long is. (
    Contains-append_left cell.candidates (value ∷ []) cell.current is.0,
    sized_pushed atom cell.candidates value long is.1,
  );
  in_sync = λ cell is. (
    Contains-push [] cell.current,
    sized_pushed atom [] cell.current (is.1 cell.current is.0) (sized_none atom),
  );
}

-- the blocks of a text that is long enough have a block's bytes
sized_blocks : (atom n : ℕ) (text : List ℕ) → n * atom ≤ length text
    → AllByRecursion (λ value. length value ≡ atom) (blocks_of atom n text)
unfolding blocks_of
sized_blocks atom zero text long = tt
sized_blocks atom (suc n) text long =
    let more : suc n * atom ≡ atom + n * atom = grind arith in
    let rest = length-drop atom text in (
      length-take-le atom text (omega (arith, long, more)),
      sized_blocks atom n (drop atom text) (omega (arith, long, more, rest)),
    )

sized_each : (atom : ℕ) (cells : List Cell) → AllByRecursion (IsHeldSized atom) cells
    → AreSized atom cells
sized_each atom [] each = tt
sized_each atom (cell ∷ cells) each = (each.0.1, sized_each atom cells each.1)

pub sized_table : (atom atoms : ℕ) (start : List ℕ) (calls : List Call)
    → length start ≡ atoms * atom → AreSized atom (table atom atoms start calls)
unfolding table
sized_table atom atoms start calls long =
    sized_each atom (table atom atoms start calls)
    (each_last (IsHeldSized atom) (λ value. length value ≡ atom) (sized_lasting atom) atom
    (λ body. sized_blocks atom (length body / atom) body (div-mul-le_self (length body) atom))
    (sures (blocks_of atom atoms start)) calls
    (each_sures (IsHeldSized atom) (λ value. length value ≡ atom) (sized_lasting atom)
    (blocks_of atom atoms start)
    (sized_blocks atom atoms start (omega (arith, long)))))
