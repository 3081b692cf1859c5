-- Texts agree byte by byte where they agree atom by atom.
use Rattle.std.proofs.Common.{◌≡◌, inl, inr, ℕ, ◌+◌, ◌*◌, ◌/◌, ◌%◌, ◌<◌, ◌≤◌, List, length, drop}
use Rattle.std.proofs.Common.{slice_index, sym, ◌∙◌, ap, arith}
use Rattle.std.proofs.lemmas.Bool.{cases_lt}
use Rattle.std.proofs.lemmas.List.{get_or-drop, get_or-take, get_or_past}
use Rattle.sector_disk.specs.DiskViews.Parts.{block_at}
use Rattle.sector_disk.specs.DiskViews.Views.{IsOutside}
use Rattle.luks_store.specs.SlotCommits.Agreements.{AgreesBut}

-- a byte of a text is one of an atom of it
byte_of_block : (atom : ℕ) (bytes : List ℕ) (i : ℕ) → 0 < atom
    → slice_index bytes i ≡ slice_index (block_at atom bytes (i / atom)) (i % atom)
byte_of_block atom bytes i some =
    let below : i % atom < atom = grind (arith, some) in
    let whole : i / atom * atom + i % atom ≡ i = grind (arith, some) in
    sym (get_or-take atom (drop (i / atom * atom) bytes) (i % atom) 0 below
    ∙ get_or-drop (i / atom * atom) bytes (i % atom) 0
    ∙ ap (λ k. slice_index bytes k) whole)

-- an atom that begins behind a byte of whole atoms, or ends before one
pub from_atom : (atom n i : ℕ) → 0 < atom → n * atom ≤ i → n ≤ i / atom
from_atom atom n i some from = grind (arith, some, from)

before_atom : (atom n i : ℕ) → 0 < atom → i < n * atom → i / atom < n
before_atom atom n i some before = grind (arith, some, before)

out_of_area : (atom start count i : ℕ) → 0 < atom → IsOutside (start * atom) (count * atom) i
    → IsOutside start count (i / atom)
out_of_area atom start count i some (inl before) = inl (before_atom atom start i some before)
out_of_area atom start count i some (inr behind) =
    let sum : (start + count) * atom ≡ start * atom + count * atom = grind arith in
    inr (from_atom atom (start + count) i some (omega (arith, sum, behind)))

pub agrees_by_atoms : (atom all n start count : ℕ) (first now : List ℕ) → 0 < atom
    → length first ≡ all * atom → length now ≡ all * atom
    → ((place : ℕ) → n ≤ place → place < all → IsOutside start count place
    → block_at atom now place ≡ block_at atom first place)
    → AgreesBut (n * atom) (start * atom) (count * atom) first now
agrees_by_atoms atom all n start count first now some long_first long_now each = record {
  long = long_now ∙ sym long_first;
  same = λ i from outside. elim (cases_lt i (all * atom)) [
    | inl below ↦
        byte_of_block atom now i some
        ∙ ap (λ bytes. slice_index bytes (i % atom))
        (each (i / atom) (from_atom atom n i some from) (before_atom atom all i some below)
        (out_of_area atom start count i some outside))
        ∙ sym (byte_of_block atom first i some)
    | inr past ↦
        get_or_past now i 0 (omega (arith, past, long_now))
        ∙ sym (get_or_past first i 0 (omega (arith, past, long_first)))
  ];
}
