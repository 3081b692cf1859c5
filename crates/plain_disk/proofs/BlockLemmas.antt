-- Lemmas on the blocks of a plain disk: what writes and flushes keep of them.
use Rattle.std.proofs.Common.{◌≡◌, ℕ, zero, suc, Bool, true, false, if◌then◌else◌, List, [], ◌∷◌}
use Rattle.std.proofs.Common.{take, drop, map, refl, ap}
use Rattle.base_terms.specs.Blocks.{changed}
use Rattle.plain_disk.specs.Plain.{Block, AreSure, written, written_for_good, flushed}
use Rattle.plain_disk.specs.Plain.{settled_blocks}

-- what is taken of sure blocks is sure
pub sure-take : (n : ℕ) (blocks : List Block) → AreSure blocks → AreSure (take n blocks)
unfolding AreSure
sure-take zero blocks sure = tt
sure-take (suc n) [] sure = tt
sure-take (suc n) (block ∷ blocks) sure = (sure.0, sure-take n blocks sure.1)

pub sure-drop : (n : ℕ) (blocks : List Block) → AreSure blocks → AreSure (drop n blocks)
unfolding AreSure
sure-drop zero blocks sure = sure
sure-drop (suc n) [] sure = tt
sure-drop (suc n) (block ∷ blocks) sure = sure-drop n blocks sure.1

-- a change that leaves no doubt leaves none of the blocks in doubt
pub sure-changed : (change : Block → List ℕ → Block)
    → ((block : Block) (value : List ℕ) → (change block value).unsure ≡ false)
    → (blocks : List Block) (at : ℕ) (values : List (List ℕ)) → AreSure blocks
    → AreSure (changed change blocks at values)
unfolding AreSure changed
sure-changed change certain [] at values sure = tt
sure-changed change certain (block ∷ blocks) at [] sure = sure
sure-changed change certain (block ∷ blocks) zero (value ∷ values) sure =
    (certain block value, sure-changed change certain blocks 0 values sure.1)
sure-changed change certain (block ∷ blocks) (suc at) (value ∷ values) sure =
    (sure.0, sure-changed change certain blocks at (value ∷ values) sure.1)

-- the change of a block by a write that succeeded
abbrev pub change : Bool → Block → List ℕ → Block
change fua = if fua then written_for_good else written

pub change_newest : (fua : Bool) (block : Block) (value : List ℕ)
    → (change fua block value).newest ≡ value
change_newest true block value = refl
change_newest false block value = refl

pub change_sure : (fua : Bool) (block : Block) (value : List ℕ)
    → (change fua block value).unsure ≡ false
change_sure true block value = refl
change_sure false block value = refl

-- a flush keeps the newest values, and what is unsure
pub newest-flushed : (blocks : List Block) → map (λ block. block.newest) (map flushed blocks) ≡ map
    (λ block. block.newest) blocks
newest-flushed [] = refl
newest-flushed (block ∷ blocks) = ap (λ rest. block.newest ∷ rest) (newest-flushed blocks)

pub sure-flushed : (blocks : List Block) → AreSure blocks → AreSure (map flushed blocks)
unfolding AreSure
sure-flushed [] sure = tt
sure-flushed (block ∷ blocks) sure = (sure.0, sure-flushed blocks sure.1)

-- blocks that hold values alone
pub newest_of_settled : (values : List (List ℕ)) → map (λ block. block.newest)
    (settled_blocks values) ≡ values
unfolding settled_blocks
newest_of_settled [] = refl
newest_of_settled (value ∷ values) = ap (λ rest. value ∷ rest) (newest_of_settled values)

pub sure_of_settled : (values : List (List ℕ)) → AreSure (settled_blocks values)
unfolding settled_blocks AreSure
sure_of_settled [] = tt
sure_of_settled (value ∷ values) = (refl, sure_of_settled values)
