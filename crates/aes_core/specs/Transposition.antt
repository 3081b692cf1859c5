-- Eight bytes as a square of bits, and the exchanges that transpose it.
use Rattle.std.specs.Prelude.{◌≡◌, ℕ, ◌+◌, ◌-◌, ◌==◌, nat_lt, if◌then◌else◌, List, [], ◌∷◌}
use Rattle.std.specs.Prelude.{slice_index}
use Rattle.std.specs.Int.{bit_at}
use Rattle.cipher_laws.specs.Bytes.{IsBlock}
use Rattle.cipher_laws.specs.Eight.{block}
use Rattle.cipher_laws.specs.declared.eight_blocks.EightBlocks.{EightBlocks}
use Rattle.aes_core.specs.State.{byte_at}
use Rattle.aes_core.specs.Planes.{listed, bits_of, place}

-- Two bytes with bits a and b, whose bits n places apart are exchanged: the bits of b that the mask
-- has, and those of a n places above. First what a becomes, and then b.
unfoldable pub first_bits : (n mask : ℕ) (a b : List ℕ) → List ℕ
first_bits n mask a b = listed (λ j.
    if nat_lt j n then slice_index a j
    else if bit_at mask (j - n) == 1 then slice_index b (j - n)
    else slice_index a j)

unfoldable pub second_bits : (n mask : ℕ) (a b : List ℕ) → List ℕ
second_bits n mask a b =
    listed (λ j. if bit_at mask j == 1 then slice_index a (j + n) else slice_index b j)

-- the bits of lane p of vector i, and bit i of lane p of each vector
abbrev pub row : ℕ → ℕ → EightBlocks → List ℕ
row i p x = bits_of (slice_index (block i x) p)

abbrev pub column : ℕ → ℕ → EightBlocks → List ℕ
column i p x = listed (λ k. bit_at (slice_index (block k x) p) i)

abbrev pub rows : ℕ → EightBlocks → List (List ℕ)
rows p x =
    row 0 p x ∷ row 1 p x ∷ row 2 p x ∷ row 3 p x ∷ row 4 p x ∷ row 5 p x ∷ row 6 p x ∷ row 7 p x
    ∷ []

abbrev pub columns : ℕ → EightBlocks → List (List ℕ)
columns p x =
    column 0 p x ∷ column 1 p x ∷ column 2 p x ∷ column 3 p x ∷ column 4 p x ∷ column 5 p x
    ∷ column 6 p x ∷ column 7 p x ∷ []

-- the block v, whose bytes lie column after column, and w, where they lie row after row
pub record AreTurned (v w : List ℕ) : Type 0 where
  pub block : IsBlock v
  pub turned : IsBlock w
  pub by_rows : (r c : ℕ) → slice_index w (place r c) ≡ byte_at v r c
  pub by_columns : (r c : ℕ) → byte_at w r c ≡ slice_index v (place r c)
