-- Loops over sectors whose numbers are sealed eight at once.
use Rattle.std.proofs.Common.{◌≡◌, ℕ, suc, ◌+◌, ◌*◌, ◌%◌, ◌<◌, ◌^◌, List, [], ap, subst, sym, ◌∙◌}
use Rattle.std.proofs.Common.{arith, slice_index_or}
use Rattle.cipher_laws.specs.Eight.{block, blocks_of}
use Rattle.cipher_laws.specs.declared.eight_blocks.EightBlocks.{EightBlocks}
use Rattle.cipher_laws.specs.CipherBlocks.Blocks.{number_block}
use Rattle.cipher_laws.specs.CipherBlocks.Numbers.{AreReady}

-- eight that were just made
pub ready_first : {seal : List ℕ → List ℕ} {step j number : ℕ} {blocks : List (List ℕ)}
    (eight : EightBlocks) → j ≡ 0 → blocks ≡ blocks_of eight →
    ((k : ℕ) → k < 8 → number + k * step < 2 ^ 64
    → block k eight ≡ seal (number_block (number + k * step))) → AreReady seal step j number blocks
ready_first {seal} {step} {j} {number} {blocks} eight none are made = record {
  ready = λ k d all below fits.
      let same : k ≡ d = omega (arith, none, all) in
      let fits_too : number + k * step < 2 ^ 64 =
      subst (λ (e : ℕ). number + e * step < 2 ^ 64) (sym same) fits in
      ap (λ (l : List (List ℕ)). slice_index_or l k []) are ∙ made k below fits_too
      ∙ ap (λ (e : ℕ). seal (number_block (number + e * step))) same;
}

-- the next one is ready
pub ready_now : {seal : List ℕ → List ℕ} {step j number : ℕ} {blocks : List (List ℕ)}
    → AreReady seal step j number blocks → j < 8 → number < 2 ^ 64 →
    slice_index_or blocks j [] ≡ seal (number_block number)
ready_now {seal} {step} {j} {number} are below fits =
    let same : number + 0 * step ≡ number = omega arith in
    are.ready j 0 (omega arith) below (omega arith) ∙ ap (λ (n : ℕ). seal (number_block n)) same

-- and then the others
pub ready_later : {seal : List ℕ → List ℕ} {step j number : ℕ} {blocks : List (List ℕ)}
    → AreReady seal step j number blocks → AreReady seal step (suc j) (number + step) blocks
ready_later {seal} {step} {j} {number} are = record {
  ready = λ k d later below fits.
      let same : number + suc d * step ≡ (number + step) + d * step = grind arith in
      are.ready k (suc d) (omega arith) below (omega (arith, same))
      ∙ ap (λ (n : ℕ). seal (number_block n)) same;
}

-- in a loop that makes eight where i is a multiple of 8, those of the next turn are ready, unless
-- it makes eight again
pub ready_next : {seal : List ℕ → List ℕ} {step number : ℕ} {blocks : List (List ℕ)} (i : ℕ)
    → AreReady seal step (i % 8) number blocks → 0 < (i + 1) % 8
    → AreReady seal step ((i + 1) % 8) (number + step) blocks
ready_next {seal} {step} {number} {blocks} i are some =
    let next : suc (i % 8) ≡ (i + 1) % 8 = omega arith in
    subst (λ (j : ℕ). AreReady seal step j (number + step) blocks) next (ready_later are)
