-- The atoms in front of a volume's blocks, in an image that a stop leaves.
use Rattle.std.proofs.Common.{◌≡◌, ◌≢◌, ◌∙◌, ◌⊎◌, inl, inr, ℕ, zero, suc, ◌+◌, ◌-◌, ◌*◌, ◌<◌, ◌≤◌}
use Rattle.std.proofs.Common.{List, [], ◌∷◌, ◌++◌, length, take, replicate, ap, sym, subst, refl}
use Rattle.std.proofs.Common.{arith, length-take-le}
use Rattle.std.proofs.lemmas.Bool.{cases_lt}
use Rattle.std.proofs.lemmas.List.{drop_at, take-take, take_at}
use Rattle.base_terms.specs.Blocks.{joined, lengths}
use Rattle.sector_disk.proofs.DiskViews.Blockwise.{block_at-first, block_at-next, block_at-take, block_end}
use Rattle.sector_disk.proofs.DiskViews.Blockwise.{blocks_of_whole, same_blocks}
use Rattle.sector_disk.specs.DiskViews.Parts.{block_at, cell_in, value_in}
use Rattle.luks_store.proofs.SettledLemmas.{even_head, even_tail, none_even}
use Rattle.sector_disk.specs.Cells.{Cell, currents}
use Rattle.segment_map.specs.declared.map.Map.{Map}
use Rattle.volume_laws.specs.Contents.{IsSealed}
use Rattle.volume_machine.specs.Pieces.{place_in, side_in}
use Rattle.volume_machine.specs.Seals.{AreLawful, Seals}

-- ---- places
-- a block lies at a place, or none does
block_or_none : (map : Map) (place n : ℕ) → ((b : ℕ) × (b < n) × (place_in map b ≡ place))
    ⊎ ((b : ℕ) → b < n → place_in map b ≢ place)
block_or_none map place zero = inr (λ b below same. omega (arith, below))
block_or_none map place (suc n) = elim (block_or_none map place n) [
  | inl (b, below, is) ↦ inl (b, omega (arith, below), is)
  | inr none ↦ elim (cases_lt (place_in map n) place) [
    | inl front ↦ inr (λ b below same. elim (cases_lt b n) [
      | inl earlier ↦ none b earlier same
      | inr last ↦ (let e : b ≡ n = omega (arith, below, last) in
          let at : place_in map n ≡ place = subst (λ k. place_in map k ≡ place) e same in
          omega (arith, at, front))
    ])
    | inr behind ↦ elim (cases_lt place (place_in map n)) [
      | inl past ↦ inr (λ b below same. elim (cases_lt b n) [
        | inl earlier ↦ none b earlier same
        | inr last ↦ (let e : b ≡ n = omega (arith, below, last) in
            let at : place_in map n ≡ place = subst (λ k. place_in map k ≡ place) e same in
            omega (arith, at, past))
      ])
      | inr here ↦ inl (n, omega arith, omega (arith, behind, here))
    ]
  ]
]

-- so many atoms have the first bytes of a text, and each of them some of these bytes
atoms_of_front : (atom m : ℕ) → 0 < atom
    → (c : ℕ) × (m ≤ c * atom) × ((k : ℕ) → k < c → k * atom < m)
atoms_of_front atom zero some = (0, omega arith, λ k below. absurd (omega (arith, below)))
atoms_of_front atom (suc m) some =
    let (c, up, down) = atoms_of_front atom m some in elim (cases_lt (c * atom) (suc m)) [
      | inl short ↦ (
        suc c,
        omega (arith, up, some, block_end atom c),
        λ k below. elim (cases_lt k c) [
          | inl earlier ↦ (let e = down k earlier in omega (arith, e))
          | inr last ↦ (let e : c ≡ k = omega (arith, below, last) in
              subst (λ j. j * atom < suc m) e short)
        ],
      )
      | inr enough ↦ (c, enough, λ k below. (let e = down k below in omega (arith, e)))
    ]

-- ---- atoms of texts
current_at : (cells : List Cell) (place : ℕ)
    → value_in (currents cells) place ≡ (cell_in cells place).current
unfolding currents
current_at [] place = refl
current_at (cell ∷ cells) zero = refl
current_at (cell ∷ cells) (suc place) = current_at cells place

even_at : (atom n : ℕ) (image : List (List ℕ)) (place : ℕ) → lengths image ≡ replicate n atom
    → place < n → length (value_in image place) ≡ atom
even_at atom zero image place even below = absurd (omega (arith, below))
even_at atom (suc n) [] place even below = absurd (none_even atom n even)
even_at atom (suc n) (value ∷ image) zero even below = even_head atom n value image even
even_at atom (suc n) (value ∷ image) (suc place) even below =
    even_at atom n image place (even_tail atom n value image even) (omega (arith, below))

-- the first atoms of an image, where they are whole
pub atom_of_front : (atom n : ℕ) (image : List (List ℕ)) (place : ℕ) → 0 < atom
    → ((k : ℕ) → k < n → length (value_in image k) ≡ atom) → place < n
    → block_at atom (joined image) place ≡ value_in image place
unfolding joined
atom_of_front atom n [] place some whole below =
    absurd (let e : 0 ≡ atom = whole place below in omega (arith, some, e))
atom_of_front atom n (value ∷ image) zero some whole below =
    block_at-first atom (value ++ joined image)
    ∙ take_at value (joined image) atom (whole 0 below)
atom_of_front atom n (value ∷ image) (suc place) some whole below =
    sym (block_at-next atom (value ++ joined image) place)
    ∙ ap (λ bytes. block_at atom bytes place)
    (drop_at value (joined image) atom (whole 0 (omega (arith, below))))
    ∙ atom_of_front atom (n - 1) image place some
    (λ k inside. whole (suc k) (omega (arith, inside))) (omega (arith, below))

zero_first : (k : ℕ) → 0 + k ≡ k
zero_first k = omega arith

-- texts whose first atoms are the same, and whole, begin with the same bytes
same_front : (atom c m : ℕ) (one other : List ℕ) → 0 < atom → m ≤ c * atom
    → ((k : ℕ) → k < c → length (block_at atom other k) ≡ atom)
    → ((k : ℕ) → k < c → block_at atom one k ≡ block_at atom other k) → take m one ≡ take m other
same_front atom zero m one other some within whole same =
    let none : m ≡ 0 = omega (arith, within) in
    subst (λ n. take n one ≡ take n other) (sym none) refl
same_front atom (suc c) m one other some within whole same =
    let n = suc c * atom in
    let long_one : n ≤ length one =
    subst (λ k. k * atom ≤ length one) (zero_first (suc c))
    (blocks_of_whole atom 0 (suc c) one some (omega arith)
    (λ k below. subst (λ j. length (block_at atom one j) ≡ atom) (sym (zero_first k))
    (ap length (same k below) ∙ whole k below))) in
    let long_other : n ≤ length other =
    subst (λ k. k * atom ≤ length other) (zero_first (suc c))
    (blocks_of_whole atom 0 (suc c) other some (omega arith)
    (λ k below. subst (λ j. length (block_at atom other j) ≡ atom) (sym (zero_first k))
    (whole k below))) in
    let both : take n one ≡ take n other =
    same_blocks atom (suc c) (take n one) (take n other) (length-take-le n one long_one)
    (length-take-le n other long_other)
    (λ k below. block_at-take atom (suc c) one k below ∙ same k below
    ∙ sym (block_at-take atom (suc c) other k below)) in
    sym (take-take m n one within) ∙ ap (λ xs. take m xs) both ∙ take-take m n other within

-- ---- an image of a table that holds blocks, and beside them what another table held
module _ (map : Map) (seals : Seals) (n : ℕ) (image : List (List ℕ)) (before : List Cell)
    (some : 0 < map.atom) (lawful : AreLawful map.atom seals)
    (even : lengths (currents before) ≡ replicate n map.atom)
    (held : (b : ℕ) → b < map.blocks → (value : List ℕ)
    × IsSealed map seals b value (value_in image (place_in map b)))
    (kept : (place : ℕ) → ((b : ℕ) → b < map.blocks → place_in map b ≢ place)
    → value_in image place ≡ (cell_in before place).current) where
  -- its atoms are whole
  pub whole_at : (place : ℕ) → place < n → length (value_in image place) ≡ map.atom
  whole_at place below = elim (block_or_none map place map.blocks) [
    | inl (b, inside, is) ↦
        (let (value, sealed) = held b inside in
        let one = lawful.keeps_sealed (side_in map b) b value sealed.0 in
        subst (λ k. length (value_in image k) ≡ map.atom) is
        (ap length sealed.1 ∙ one.size ∙ omega arith))
    | inr none ↦
        ap length (kept place none ∙ sym (current_at before place))
        ∙ even_at map.atom n (currents before) place even below
  ]

  pub atom_is : (place : ℕ) → place < n
      → block_at map.atom (joined image) place ≡ value_in image place
  atom_is place below = atom_of_front map.atom n image place some whole_at below

  -- in front of all blocks it has what that table held
  pub front_is : (m : ℕ) → m ≤ n * map.atom
      → ((b : ℕ) → b < map.blocks → m ≤ place_in map b * map.atom)
      → take m (joined image) ≡ take m (joined (currents before))
  front_is m within behind =
      let (c, up, down) = atoms_of_front map.atom m some in
      let inside : (k : ℕ) → k < c → k < n =
      λ k below. (let e = down k below in elim (cases_lt k n) [
        | inl fits ↦ fits
        | inr past ↦ absurd (let more : n * map.atom ≤ k * map.atom = grind (arith, past) in
            omega (arith, e, within, more))
      ]) in
      let was : (k : ℕ) → k < c → block_at map.atom (joined (currents before)) k
      ≡ value_in (currents before) k =
      λ k below. atom_of_front map.atom n (currents before) k some
      (λ j fits. even_at map.atom n (currents before) j even fits) (inside k below) in
      same_front map.atom c m (joined image) (joined (currents before)) some up
      (λ k below. ap length (was k below)
      ∙ even_at map.atom n (currents before) k even (inside k below))
      (λ k below. atom_is k (inside k below)
      ∙ kept k (λ b fits same. (let first = behind b fits in let e = down k below in
      let at : place_in map b * map.atom ≡ k * map.atom = ap (λ j. j * map.atom) same in
      omega (arith, first, e, at)))
      ∙ sym (current_at before k) ∙ sym (was k below))
