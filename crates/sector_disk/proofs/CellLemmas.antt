-- Lemmas on cells: how writes and syncs move the content, and what they keep.
use Rattle.std.proofs.Common.{◌≡◌, ℕ, zero, suc, ◌+◌, ◌-◌, ◌*◌, ◌≤◌, List, [], ◌∷◌, length, map}
use Rattle.std.proofs.Common.{replicate, refl, ap, arith}
use Rattle.std.proofs.lemmas.List.{take-replicate, drop-replicate}
use Rattle.base_terms.specs.Blocks.{pasted, blocks_of, lengths, changed}
use Rattle.sector_disk.specs.Cells.{Cell, sure, sures, wrote, tried, synced, currents, content}
use Rattle.base_terms.proofs.BlockLemmas.{even_changed, joined_changed}

-- atoms keep their size in a write
pub even_wrote : (count size at n : ℕ) (cells : List Cell) (text : List ℕ)
    → lengths (currents cells) ≡ replicate count size → length text ≡ n * size
    → lengths (currents (changed wrote cells at (blocks_of size n text))) ≡ replicate count size
unfolding currents
even_wrote = even_changed (λ cell. cell.current) wrote (λ _ _. refl)

-- a write puts its bytes in their place
pub content_wrote : (count size at n : ℕ) (cells : List Cell) (text : List ℕ)
    → lengths (currents cells) ≡ replicate count size → at + n ≤ count → length text ≡ n * size
    → content (changed wrote cells at (blocks_of size n text))
    ≡ pasted (content cells) (at * size) text
unfolding currents content
content_wrote = joined_changed (λ cell. cell.current) wrote (λ _ _. refl)

-- a write that failed leaves the current values
pub currents_tried : (cells : List Cell) (at : ℕ) (values : List (List ℕ))
    → currents (changed tried cells at values) ≡ currents cells
unfolding currents changed
currents_tried [] at values = refl
currents_tried (cell ∷ cells) at [] = refl
currents_tried (cell ∷ cells) zero (value ∷ values) =
    ap (λ rest. cell.current ∷ rest) (currents_tried cells 0 values)
currents_tried (cell ∷ cells) (suc at) (value ∷ values) =
    ap (λ rest. cell.current ∷ rest) (currents_tried cells at (value ∷ values))

-- a sync leaves the current values
pub currents_synced : (cells : List Cell) → currents (map synced cells) ≡ currents cells
unfolding currents
currents_synced [] = refl
currents_synced (cell ∷ cells) = ap (λ rest. cell.current ∷ rest) (currents_synced cells)

-- what atoms hold for certain is their content
pub currents_sures : (values : List (List ℕ)) → currents (sures values) ≡ values
unfolding currents sures
currents_sures [] = refl
currents_sures (value ∷ values) = ap (λ rest. value ∷ rest) (currents_sures values)

-- atoms of zero bytes
pub sures-zeros : (size n : ℕ) → sures (blocks_of size n (replicate (n * size) 0))
    ≡ replicate n (sure (replicate size 0))
unfolding sures blocks_of
sures-zeros size zero = refl
sures-zeros size (suc n) =
    let front : size ≤ suc n * size = grind arith in
    let rest : suc n * size - size ≡ n * size = grind arith in
    rw (
      take-replicate {X = ℕ} size (suc n * size) 0 front,
      drop-replicate {X = ℕ} size (suc n * size) 0,
      rest,
    )
    (ap (λ cells. sure (replicate size 0) ∷ cells) (sures-zeros size n))
