-- The laws of ciphers, on what they make of lists of bytes.
use Rattle.std.specs.Prelude.{◌≡◌, ℕ, ◌+◌, ◌/◌, List, ◌++◌, length}
use Rattle.cipher_laws.specs.Bytes.{AreBytes, IsBlock, AreSectors}

-- a block becomes a block
abbrev pub KeepsBlocks : (List ℕ → List ℕ) → Type 0
KeepsBlocks change = (block : List ℕ) → IsBlock block → IsBlock (change block)

-- `back` gives each block back from what `change` made of it
abbrev pub UndoesBlocks : (List ℕ → List ℕ) → (List ℕ → List ℕ) → Type 0
UndoesBlocks back change = (block : List ℕ) → IsBlock block → back (change block) ≡ block

-- sectors of `size` bytes become as many bytes, whatever the first one's number is
abbrev pub KeepsLengths : ℕ → (ℕ → List ℕ → List ℕ) → Type 0
KeepsLengths size change = (first : ℕ) (bytes : List ℕ) → AreSectors size bytes →
    length (change first bytes) ≡ length bytes

-- sectors become bytes
abbrev pub GivesBytes : ℕ → (ℕ → List ℕ → List ℕ) → Type 0
GivesBytes size change = (first : ℕ) (bytes : List ℕ) → AreSectors size bytes →
    AreBytes (change first bytes)

-- `back` gives sectors back from what `change` made of them under the same number
abbrev pub UndoesSectors : ℕ → (ℕ → List ℕ → List ℕ) → (ℕ → List ℕ → List ℕ) → Type 0
UndoesSectors size back change = (first : ℕ) (bytes : List ℕ) → AreSectors size bytes →
    back first (change first bytes) ≡ bytes

-- sectors that follow others are changed under the number that follows theirs
abbrev pub JoinsSectors : ℕ → (ℕ → List ℕ → List ℕ) → Type 0
JoinsSectors size change =
    (first : ℕ) (front back : List ℕ) → AreSectors size front → AreSectors size back →
    change first (front ++ back) ≡ change first front ++ change (first + length front / 512) back
