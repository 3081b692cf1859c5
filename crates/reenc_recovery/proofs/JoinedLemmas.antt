-- The bytes of an image, atom by atom.
use Rattle.std.proofs.Common.{◌≡◌, ℕ, zero, suc, ◌+◌, ◌-◌, ◌*◌, ◌<◌, ◌≤◌, List, [], ◌∷◌, ◌++◌}
use Rattle.std.proofs.Common.{length}
use Rattle.std.proofs.Common.{take, drop, replicate, refl, sym, ◌∙◌, ap, ap₂, arith, length-append}
use Rattle.std.proofs.Common.{length-drop}
use Rattle.std.proofs.Math.Seq.{take-append-add}
use Rattle.base_terms.specs.Blocks.{joined, lengths}
use Rattle.crash_laws.specs.HeaderAreas.Areas.{Image, text_from}
use Rattle.sector_disk.proofs.DiskViews.Blockwise.{block_at-drop, block_end}
use Rattle.sector_disk.proofs.DiskViews.Blockwise.{same_blocks}
use Rattle.sector_disk.specs.DiskViews.Parts.{block_at}
use Rattle.luks_store.proofs.SettledLemmas.{even_head, even_tail, none_even}
use Rattle.sector_disk.specs.Cells.{AreSized, Cell, IsImage}

-- the first atoms of a text are the text of the first atoms
pub front_text : (atom start n k : ℕ) (image : Image)
    → ((place : ℕ) → start ≤ place → place < start + n → length (image place) ≡ atom)
    → take (n * atom) (text_from image start (n + k)) ≡ text_from image start n
unfolding text_from
front_text atom start zero k image whole =
    ap (λ m. take m (text_from image start (0 + k))) (let e : 0 * atom ≡ 0 = omega arith in e)
front_text atom start (suc n) k image whole =
    let one_more : suc n + k ≡ suc (n + k) = omega arith in
    let long : suc n * atom ≡ length (image start) + n * atom =
    block_end atom n
    ∙ ap (λ m. m + n * atom) (sym (whole start (omega arith) (omega arith))) in
    ap (λ m. take (suc n * atom) (text_from image start m)) one_more
    ∙ ap (λ m. take m (image start ++ text_from image (suc start) (n + k))) long
    ∙ take-append-add (image start) (text_from image (suc start) (n + k)) (n * atom)
    ∙ ap (λ rest. image start ++ rest) (front_text atom (suc start) n k image
    (λ place from below. whole place (omega (arith, from)) (omega (arith, below))))

-- the atoms of an image, one behind the other
some_even : (atom : ℕ) (value : List ℕ) (image : List (List ℕ))
    → lengths (value ∷ image) ≡ replicate zero atom → ⊥
unfolding lengths
some_even atom value image even = cc

-- each image of a table whose candidates have an atom's bytes is one of whole atoms
pub even_image : (atom : ℕ) (cells : List Cell) (image : List (List ℕ)) → AreSized atom cells
    → IsImage cells image → lengths image ≡ replicate (length cells) atom
unfolding IsImage lengths
even_image atom [] [] sized is = refl
even_image atom [] (value ∷ image) sized is = absurd is
even_image atom (cell ∷ cells) [] sized is = absurd is
even_image atom (cell ∷ cells) (value ∷ image) sized is =
    ap₂ (λ x xs. x ∷ xs) (sized.0 value is.0) (even_image atom cells image sized.1 is.1)

pub long_joined : (atom n : ℕ) (image : List (List ℕ)) → lengths image ≡ replicate n atom
    → length (joined image) ≡ n * atom
unfolding joined
long_joined atom zero [] even = (let e : 0 ≡ 0 * atom = omega arith in e)
long_joined atom zero (value ∷ image) even = absurd (some_even atom value image even)
long_joined atom (suc n) [] even = absurd (none_even atom n even)
long_joined atom (suc n) (value ∷ image) even =
    length-append value (joined image)
    ∙ ap₂ (λ a b. a + b) (even_head atom n value image even)
    (long_joined atom n image (even_tail atom n value image even))
    ∙ sym (block_end atom n)

-- texts whose atoms are the same from one on are the same from there on
pub same_behind : (atom all n : ℕ) (one other : List ℕ) → n ≤ all → length one ≡ all * atom
    → length other ≡ all * atom
    → ((place : ℕ) → n ≤ place → place < all → block_at atom one place ≡ block_at atom other place)
    → drop (n * atom) one ≡ drop (n * atom) other
same_behind atom all n one other within long_one long_other same =
    let rest = all - n in
    let split : all * atom ≡ n * atom + rest * atom = grind (arith, within) in
    same_blocks atom rest (drop (n * atom) one) (drop (n * atom) other)
    (length-drop (n * atom) one
    ∙ (let e : length one - n * atom ≡ rest * atom = omega (arith, long_one, split) in e))
    (length-drop (n * atom) other
    ∙ (let e : length other - n * atom ≡ rest * atom = omega (arith, long_other, split) in e))
    (λ k below. block_at-drop atom n one k
    ∙ same (n + k) (omega arith) (omega (arith, below, within))
    ∙ sym (block_at-drop atom n other k))
