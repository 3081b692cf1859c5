-- The bytes of an image, atom by atom.
use Rattle.std.proofs.Common.{◌≡◌, ℕ, zero, suc, ◌+◌, ◌-◌, ◌*◌, ◌<◌, ◌≤◌, List, [], ◌∷◌, ◌++◌}
use Rattle.std.proofs.Common.{length, take, drop, replicate, sym, ◌∙◌, ap, ap₂, subst, arith}
use Rattle.std.proofs.Common.{length-append}
use Rattle.std.proofs.Math.Seq.{take-append-add}
use Rattle.std.proofs.lemmas.List.{drop-drop, drop_all}
use Rattle.base_terms.specs.Blocks.{joined, lengths}
use Rattle.crash_laws.specs.HeaderAreas.Areas.{Image, text_from}
use Rattle.sector_disk.proofs.DiskViews.Blockwise.{block_end}
use Rattle.sector_disk.specs.DiskViews.Parts.{block_at}
use Rattle.luks_store.proofs.SettledLemmas.{even_head, even_tail, none_even}

-- texts that are the same from a byte on have the same atoms there
pub same-atom-from : (atom n place : ℕ) (one other : List ℕ) → n ≤ place * atom
    → drop n one ≡ drop n other → block_at atom one place ≡ block_at atom other place
same-atom-from atom n place one other behind same =
    let whole : place * atom ≡ n + (place * atom - n) = omega (arith, behind) in
    ap (take atom)
    (subst (λ (i : ℕ). drop i one ≡ drop i other) (sym whole)
    (sym (drop-drop (place * atom - n) n one) ∙ ap (λ xs. drop (place * atom - n) xs) same
    ∙ drop-drop (place * atom - n) n other))

-- behind the last atom there is none
pub none-behind : (atom n place : ℕ) (one other : List ℕ) → length one ≡ n * atom
    → length other ≡ n * atom → n * atom ≤ place * atom
    → block_at atom one place ≡ block_at atom other place
none-behind atom n place one other long long_too far =
    ap (take atom)
    (drop_all (place * atom) one (omega (arith, long, far))
    ∙ sym (drop_all (place * atom) other (omega (arith, long_too, far))))

-- the first atoms of a text are the text of the first atoms
pub front-text : (atom start n k : ℕ) (image : Image)
    → ((place : ℕ) → start ≤ place → place < start + n → length (image place) ≡ atom)
    → take (n * atom) (text_from image start (n + k)) ≡ text_from image start n
unfolding text_from
front-text atom start zero k image whole =
    ap (λ m. take m (text_from image start (0 + k))) (let e : 0 * atom ≡ 0 = omega arith in e)
front-text atom start (suc n) k image whole =
    let one_more : suc n + k ≡ suc (n + k) = omega arith in
    let long : suc n * atom ≡ length (image start) + n * atom =
    block_end atom n
    ∙ ap (λ m. m + n * atom) (sym (whole start (omega arith) (omega arith))) in
    ap (λ m. take (suc n * atom) (text_from image start m)) one_more
    ∙ ap (λ m. take m (image start ++ text_from image (suc start) (n + k))) long
    ∙ take-append-add (image start) (text_from image (suc start) (n + k)) (n * atom)
    ∙ ap (λ rest. image start ++ rest) (front-text atom (suc start) n k image
    (λ place from below. whole place (omega (arith, from)) (omega (arith, below))))

-- so many atoms have so many bytes
none-long : (atom : ℕ) (value : List ℕ) (image : List (List ℕ))
    → lengths (value ∷ image) ≡ replicate zero atom → ⊥
unfolding lengths
none-long atom value image even = cc

pub long-joined : (atom n : ℕ) (image : List (List ℕ)) → lengths image ≡ replicate n atom
    → length (joined image) ≡ n * atom
unfolding joined
long-joined atom zero [] even = (let e : 0 ≡ 0 * atom = omega arith in e)
long-joined atom zero (value ∷ image) even = absurd (none-long atom value image even)
long-joined atom (suc n) [] even = absurd (none_even atom n even)
long-joined atom (suc n) (value ∷ image) even =
    length-append value (joined image)
    ∙ ap₂ (λ a b. a + b) (even_head atom n value image even)
    (long-joined atom n image (even_tail atom n value image even))
    ∙ sym (block_end atom n)
