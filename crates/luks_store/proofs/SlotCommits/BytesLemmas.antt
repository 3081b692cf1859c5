-- The bytes of a table's values, by what stands in its places.
use Rattle.std.proofs.Common.{◌≡◌, ℕ, ◌+◌, ◌*◌, ◌<◌, ◌≤◌, List, ◌++◌, length, take, drop}
use Rattle.std.proofs.Common.{replicate, sym, ◌∙◌, ap, arith}
use Rattle.std.proofs.Math.Nat.{mul-le-mul_right}
use Rattle.std.proofs.lemmas.List.{drop-drop, take-append-drop}
use Rattle.base_terms.specs.Blocks.{joined, lengths}
use Rattle.sector_disk.proofs.DiskViews.Blockwise.{block_at-part, length-part, same_blocks}
use Rattle.sector_disk.specs.DiskViews.Parts.{block_at, value_in}
use Rattle.sector_disk.specs.DiskViews.Views.{IsOutside}
use Rattle.luks_store.proofs.SettledLemmas.{atom_of_joined}
use Rattle.base_terms.proofs.BlockLemmas.{length-joined}
use Rattle.luks_store.proofs.SlotCommits.AgreeLemmas.{agrees_by_atoms}
use Rattle.luks_store.specs.SlotCommits.Agreements.{AgreesBut}

module _ (atom n : ℕ) (values : List (List ℕ)) (even : lengths values ≡ replicate n atom) where
  abbrev bytes : List ℕ
  bytes = joined values

  pub long_bytes : length bytes ≡ n * atom
  long_bytes = length-joined atom n values even

  -- from a place on they are those of a text, but for an area
  pub agrees : (from start count : ℕ) (first : List ℕ) → 0 < atom → length first ≡ n * atom
      → ((place : ℕ) → from ≤ place → place < n → IsOutside start count place
      → value_in values place ≡ block_at atom first place)
      → AgreesBut (from * atom) (start * atom) (count * atom) first bytes
  agrees from start count first some long each =
      agrees_by_atoms atom n from start count first bytes some long long_bytes
      (λ place from_here below outside.
      atom_of_joined atom n values place even below ∙ each place from_here below outside)

  -- a text stands in a part of them
  pub part_is : (start count : ℕ) (text : List ℕ) → start + count ≤ n
      → length text ≡ count * atom
      → ((i : ℕ) → i < count → value_in values (start + i) ≡ block_at atom text i)
      → take (count * atom) (drop (start * atom) bytes) ≡ text
  part_is start count text within long each =
      let less : (start + count) * atom ≤ n * atom = mul-le-mul_right atom within in
      same_blocks atom count (take (count * atom) (drop (start * atom) bytes)) text
      (length-part atom start count bytes (omega (arith, less, long_bytes))) long
      (λ i below. block_at-part atom start count bytes i below
      ∙ atom_of_joined atom n values (start + i) even (omega (arith, below, within))
      ∙ each i below)

-- two parts of one size in front
pub two_in_front : (size : ℕ) (bytes one two : List ℕ) → take size (drop 0 bytes) ≡ one
    → take size (drop size bytes) ≡ two → bytes ≡ one ++ (two ++ drop (size + size) bytes)
two_in_front size bytes one two first second =
    sym (take-append-drop size bytes)
    ∙ ap (λ xs. xs ++ drop size bytes) first
    ∙ ap (λ xs. one ++ xs) (sym (take-append-drop size (drop size bytes))
    ∙ ap (λ xs. xs ++ drop size (drop size bytes)) second
    ∙ ap (λ xs. two ++ xs) (drop-drop size size bytes))
