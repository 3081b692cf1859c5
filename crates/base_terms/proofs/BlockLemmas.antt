-- Lemmas on texts and their blocks.
use Rattle.std.proofs.Common.{◌≡◌, ℕ, zero, suc, ◌+◌, ◌-◌, ◌*◌, ◌<◌, ◌≤◌, List, [], ◌∷◌, ◌++◌}
use Rattle.std.proofs.Common.{length, take, drop, map, replicate, refl, sym, ◌∙◌, ap, ap₂, arith}
use Rattle.std.proofs.Common.{append_assoc, slice_index_or, length-append, length-drop, add-zero, add_assoc}
use Rattle.std.proofs.lemmas.List.{append-nil, take-append-drop, nil_from_length, drop_all}
use Rattle.std.proofs.lemmas.List.{drop-drop, take_at, drop_at, take-replicate, drop-replicate}
use Rattle.std.proofs.lemmas.List.{length-take-le}
use Rattle.std.proofs.Math.Seq.{take-append-add, drop-append-add}
use Rattle.base_terms.specs.Blocks.{pasted, blocks_of, joined, lengths, changed}

-- what is taken and dropped of two texts one after the other, behind the first
pub take_behind : (block rest : List ℕ) (size at : ℕ) → length block ≡ size
    → take (size + at) (block ++ rest) ≡ block ++ take at rest
take_behind block rest size at is = rw (← is) (take-append-add block rest at)

pub drop_behind : (block rest : List ℕ) (size at : ℕ) → length block ≡ size
    → drop (size + at) (block ++ rest) ≡ drop at rest
drop_behind block rest size at is = rw (← is) (drop-append-add block rest at)

-- nothing put in place changes nothing
pub pasted-nil : (text : List ℕ) (at : ℕ) → pasted text at [] ≡ text
unfolding pasted
pasted-nil text at = rw (append-nil (take at text), add-zero at) (take-append-drop at text)

-- as many bytes put in place of a whole text are the text
pub pasted_whole : (old text : List ℕ) → length text ≡ length old → pasted old 0 text ≡ text
unfolding pasted
pasted_whole old text is =
    ap (λ end. text ++ end) (drop_all (0 + length text) old (omega arith)) ∙ append-nil text

-- a text put in place behind a block
pub pasted_behind : (block rest : List ℕ) (size at : ℕ) (text : List ℕ) → length block ≡ size
    → pasted (block ++ rest) (size + at) text ≡ block ++ pasted rest at text
unfolding pasted
pasted_behind block rest size at text is =
    rw (
      take_behind block rest size at is,
      add_assoc size at (length text),
      drop_behind block rest size
          (at + length text) is,
    ) (simp append_assoc)

-- a text put in place over a block and what is behind it
pub pasted_over : (block rest : List ℕ) (size : ℕ) (text : List ℕ) → length block ≡ size
    → size ≤ length text
    → pasted (block ++ rest) 0 text ≡ take size text ++ pasted rest 0 (drop size text)
unfolding pasted
pasted_over block rest size text is enough =
    let split : 0 + length text ≡ size + (0 + length (drop size text)) =
    rw (length-drop size text) (omega arith) in
    let behind : drop (0 + length text) (block ++ rest) ≡ drop (0 + length (drop size text)) rest =
    ap (λ n. drop n (block ++ rest)) split
    ∙ drop_behind block rest size (0 + length (drop size text)) is in
    ap (λ end. text ++ end) behind
    ∙ ap (λ front. front ++ drop (0 + length (drop size text)) rest)
    (sym (take-append-drop size text))
    ∙ append_assoc (take size text) (drop size text) (drop (0 + length (drop size text)) rest)

-- no values change nothing
pub changed-nil : {C : Type 0} (change : C → List ℕ → C) (cells : List C) (at : ℕ)
    → changed change cells at [] ≡ cells
unfolding changed
changed-nil change [] at = refl
changed-nil change (cell ∷ cells) at = refl

-- a text is its blocks
pub joined-blocks_of : (size n : ℕ) (text : List ℕ) → length text ≡ n * size
    → joined (blocks_of size n text) ≡ text
unfolding joined blocks_of
joined-blocks_of size zero text is = sym (nil_from_length text (is ∙ omega arith))
joined-blocks_of size (suc n) text is =
    let left : length (drop size text) ≡ n * size =
    length-drop size text ∙ (let e : length text - size ≡ n * size = grind arith in e) in
    ap (λ rest. take size text ++ rest) (joined-blocks_of size n (drop size text) left)
    ∙ take-append-drop size text

-- the blocks have their size
pub lengths-blocks_of : (size n : ℕ) (text : List ℕ) → length text ≡ n * size
    → lengths (blocks_of size n text) ≡ replicate n size
unfolding lengths blocks_of
lengths-blocks_of size zero text is = refl
lengths-blocks_of size (suc n) text is =
    let enough : size ≤ length text = grind arith in
    ap₂ (λ x xs. x ∷ xs) (length-take-le size text enough)
    (lengths-blocks_of size n (drop size text) (length-drop size text
    ∙ (let e : length text - size ≡ n * size = grind arith in e)))

module _ {C : Type 0} (held : C → List ℕ) where
  -- cells of which each holds a block of one size
  abbrev pub AreEven : ℕ → ℕ → List C → Type 0
  AreEven count size cells = lengths (map held cells) ≡ replicate count size

  pub even_front : (count size : ℕ) (cell : C) (cells : List C)
      → AreEven (suc count) size (cell ∷ cells) → length (held cell) ≡ size
  unfolding lengths
  even_front count size cell cells even = cc

  pub even_rest : (count size : ℕ) (cell : C) (cells : List C)
      → AreEven (suc count) size (cell ∷ cells) → AreEven count size cells
  unfolding lengths
  even_rest count size cell cells even = cc

  module _ (change : C → List ℕ → C)
      (holds : (cell : C) (value : List ℕ) → held (change cell value) ≡ value) where
    -- cells stay even where blocks of their size are put into them
    pub even_changed : (count size at n : ℕ) (cells : List C) (text : List ℕ)
        → AreEven count size cells
        → length text ≡ n * size
        → AreEven count size (changed change cells at (blocks_of size n text))
    unfolding lengths changed blocks_of
    even_changed count size at n [] text even is = even
    even_changed zero size at n (cell ∷ cells) text even is = absurd (cc)
    even_changed (suc count) size at zero (cell ∷ cells) text even is = even
    even_changed (suc count) size zero (suc n) (cell ∷ cells) text even is =
        let enough : size ≤ length text = grind arith in
        let left : length (drop size text) ≡ n * size =
        length-drop size text ∙ (let e : length text - size ≡ n * size = grind arith in e) in
        ap₂ (λ x xs. x ∷ xs) (ap (λ value. length value) (holds cell (take size text))
        ∙ length-take-le size text enough)
        (even_changed count size 0 n cells (drop size text)
        (even_rest count size cell cells even) left)
    even_changed (suc count) size (suc at) (suc n) (cell ∷ cells) text even is =
        ap₂ (λ x xs. x ∷ xs) (even_front count size cell cells even)
        (even_changed count size at (suc n) cells text
        (even_rest count size cell cells even) is)

    -- a text put into even cells stands in its place in their content
    pub joined_changed : (count size at n : ℕ) (cells : List C) (text : List ℕ)
        → AreEven count size cells
        → at + n ≤ count → length text ≡ n * size
        → joined (map held (changed change cells at (blocks_of size n text)))
        ≡ pasted (joined (map held cells)) (at * size) text
    unfolding lengths joined changed blocks_of
    joined_changed zero size at n [] text even in_disk is =
        let none : text ≡ [] = nil_from_length text (grind arith) in
        rw none (sym (pasted-nil [] (at * size)))
    joined_changed (suc count) size at n [] text even in_disk is = absurd (cc)
    joined_changed zero size at n (cell ∷ cells) text even in_disk is = absurd (cc)
    joined_changed (suc count) size at zero (cell ∷ cells) text even in_disk is =
        let none : text ≡ [] = nil_from_length text (is ∙ omega arith) in
        rw none (sym (pasted-nil (joined (map held (cell ∷ cells))) (at * size)))
    joined_changed (suc count) size zero (suc n) (cell ∷ cells) text even in_disk is =
        let enough : size ≤ length text = grind arith in
        let left : length (drop size text) ≡ n * size =
        length-drop size text ∙ (let e : length text - size ≡ n * size = grind arith in e) in
        let place : 0 * size ≡ 0 = grind arith in
        let below = rw place at (joined_changed count size 0 n cells (drop size text)
        (even_rest count size cell cells even) (omega arith) left) in
        rw place
        (ap₂ (λ front rest. front ++ rest) (holds cell (take size text)) below
        ∙ sym (pasted_over (held cell) (joined (map held cells)) size text
        (even_front count size cell cells even) enough))
    joined_changed (suc count) size (suc at) (suc n) (cell ∷ cells) text even in_disk is =
        let place : suc at * size ≡ size + at * size = grind arith in
        ap (λ rest. held cell ++ rest)
        (joined_changed count size at (suc n) cells text
        (even_rest count size cell cells even) (omega arith) is)
        ∙ sym (rw place (pasted_behind (held cell) (joined (map held cells)) size (at * size) text
        (even_front count size cell cells even)))

    -- what is held after a change that puts values in place
    pub held_changed : (cells : List C) (at : ℕ) (values : List (List ℕ))
        → map held (changed change cells at values)
        ≡ changed (λ _ value. value) (map held cells) at values
    unfolding changed
    held_changed [] at values = refl
    held_changed (cell ∷ cells) at [] = refl
    held_changed (cell ∷ cells) zero (value ∷ values) =
        ap₂ (λ x xs. x ∷ xs) (holds cell value) (held_changed cells 0 values)
    held_changed (cell ∷ cells) (suc at) (value ∷ values) =
        ap (λ rest. held cell ∷ rest) (held_changed cells at (value ∷ values))

-- as many blocks as were asked for
pub length-blocks_of : (size n : ℕ) (text : List ℕ) → length (blocks_of size n text) ≡ n
unfolding blocks_of
length-blocks_of size zero text = refl
length-blocks_of size (suc n) text = ap (λ k. suc k) (length-blocks_of size n (drop size text))

-- the blocks of a block and what is behind it
pub blocks_of-behind : (block rest : List ℕ) (size n : ℕ) → length block ≡ size
    → blocks_of size (suc n) (block ++ rest) ≡ block ∷ blocks_of size n rest
unfolding blocks_of
blocks_of-behind block rest size n is =
    ap₂ (λ x xs. x ∷ xs) (take_at block rest size is)
    (ap (λ text. blocks_of size n text) (drop_at block rest size is))

-- a text of blocks, cut behind its first
cut : (count size : ℕ) (text : List ℕ) → length text ≡ suc count * size
    → (length (take size text) ≡ size) × (length (drop size text) ≡ count * size)
cut count size text is = (
  length-take-le size text (let e : size ≤ length text = grind arith in e),
  length-drop size text ∙ (let e : length text - size ≡ count * size = grind arith in e),
)

-- the blocks of a text into which blocks were put
pub blocks_of-pasted : (count size at n : ℕ) (text body : List ℕ) → length text ≡ count * size
    → at + n ≤ count → length body ≡ n * size
    → blocks_of size count (pasted text (at * size) body)
    ≡ changed (λ _ value. value) (blocks_of size count text) at (blocks_of size n body)
unfolding blocks_of changed
blocks_of-pasted zero size at n text body long in_disk is = refl
blocks_of-pasted (suc count) size at zero text body long in_disk is =
    let none : body ≡ [] = nil_from_length body (is ∙ omega arith) in
    rw none (ap (λ all. blocks_of size (suc count) all) (pasted-nil text (at * size)))
blocks_of-pasted (suc count) size zero (suc n) text body long in_disk is =
    let (first, left) = cut count size text long in
    let (next, more) = cut n size body is in
    let enough : size ≤ length body = grind arith in
    let place : 0 * size ≡ 0 = grind arith in
    let below = rw place at (blocks_of-pasted count size 0 n (drop size text) (drop size body) left
    (omega arith) more) in
    rw place
    (ap (λ all. blocks_of size (suc count) all)
    (ap (λ all. pasted all 0 body) (sym (take-append-drop size text))
    ∙ pasted_over (take size text) (drop size text) size body first enough)
    ∙ blocks_of-behind (take size body) (pasted (drop size text) 0 (drop size body)) size count next
    ∙ ap (λ xs. take size body ∷ xs) below)
blocks_of-pasted (suc count) size (suc at) (suc n) text body long in_disk is =
    let (first, left) = cut count size text long in
    let place : suc at * size ≡ size + at * size = grind arith in
    rw place
    (ap (λ all. blocks_of size (suc count) all)
    (ap (λ all. pasted all (size + at * size) body) (sym (take-append-drop size text))
    ∙ pasted_behind (take size text) (drop size text) size (at * size) body first)
    ∙ blocks_of-behind (take size text) (pasted (drop size text) (at * size) body) size count first
    ∙ ap (λ xs. take size text ∷ xs)
    (blocks_of-pasted count size at (suc n) (drop size text) body left (omega arith) is))

-- a block of a text, by its number
pub block_at : (size n k : ℕ) (text : List ℕ) → k < n
    → slice_index_or (blocks_of size n text) k [] ≡ take size (drop (k * size) text)
unfolding blocks_of
block_at size zero k text inside = absurd (omega (arith, inside))
block_at size (suc n) zero text inside =
    let place : 0 * size ≡ 0 = grind arith in rw place refl
block_at size (suc n) (suc k) text inside =
    let place : k * size + size ≡ suc k * size = grind arith in
    block_at size n k (drop size text) (omega (arith, inside))
    ∙ ap (λ all. take size all) (drop-drop (k * size) size text
    ∙ ap (λ m. drop m text) (let e : size + k * size ≡ suc k * size = grind arith in e))

-- the blocks of so many equal bytes
pub blocks_of-replicate : (size n : ℕ) (byte : ℕ)
    → blocks_of size n (replicate (n * size) byte) ≡ replicate n (replicate size byte)
unfolding blocks_of
blocks_of-replicate size zero byte = refl
blocks_of-replicate size (suc n) byte =
    let front : size ≤ suc n * size = grind arith in
    let rest : suc n * size - size ≡ n * size = grind arith in
    ap₂ (λ x xs. x ∷ xs) (take-replicate {X = ℕ} size (suc n * size) byte front)
    (ap (λ text. blocks_of size n text) (drop-replicate {X = ℕ} size (suc n * size) byte
    ∙ ap (λ m. replicate m byte) rest)
    ∙ blocks_of-replicate size n byte)

-- blocks of one size are those of their text
pub blocks_of-joined : (size n : ℕ) (blocks : List (List ℕ)) → lengths blocks ≡ replicate n size
    → blocks_of size n (joined blocks) ≡ blocks
unfolding lengths blocks_of joined
blocks_of-joined size zero [] even = refl
blocks_of-joined size (suc n) [] even = absurd (cc)
blocks_of-joined size zero (block ∷ blocks) even = absurd (cc)
blocks_of-joined size (suc n) (block ∷ blocks) even =
    let is : length block ≡ size = cc in
    let rest : lengths blocks ≡ replicate n size = cc in
    ap₂ (λ x xs. x ∷ xs) (take_at block (joined blocks) size is)
    (ap (λ text. blocks_of size n text) (drop_at block (joined blocks) size is)
    ∙ blocks_of-joined size n blocks rest)

pub length-joined : (size n : ℕ) (blocks : List (List ℕ)) → lengths blocks ≡ replicate n size
    → length (joined blocks) ≡ n * size
unfolding lengths joined
length-joined size zero [] even = omega arith
length-joined size (suc n) [] even = absurd (cc)
length-joined size zero (block ∷ blocks) even = absurd (cc)
length-joined size (suc n) (block ∷ blocks) even =
    let is : length block ≡ size = cc in
    let rest : length (joined blocks) ≡ n * size =
    length-joined size n blocks (let e : lengths blocks ≡ replicate n size = cc in e) in
    let one : suc n * size ≡ size + n * size = grind arith in
    rw one (length-append block (joined blocks) ∙ ap₂ (λ a b. a + b) is rest)
