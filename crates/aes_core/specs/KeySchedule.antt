-- The key expansion of FIPS 197, section 5.2, for keys of 16 and 32 bytes. A word is a list of
-- 4 bytes. Nk is the number of words in the key, and Nr that of the rounds.
use Rattle.std.specs.Prelude.{◌≡◌, ◌⊎◌, ℕ, zero, suc, ◌+◌, ◌-◌, ◌*◌, ◌/◌, ◌%◌, ◌==◌, ◌&&◌, nat_lt}
use Rattle.std.specs.Prelude.{if◌then◌else◌, List, [], ◌∷◌, ◌++◌, length, slice_index}
use Rattle.std.specs.Prelude.{slice_index_or, bit_xor}
use Rattle.aes_core.specs.Field.{times_x}
use Rattle.aes_core.specs.Boxes.{s_box}

-- the lengths of a key in bytes, and in words
abbrev pub IsKeyLength : ℕ → Type 0
IsKeyLength n = (n ≡ 16) ⊎ (n ≡ 32)

abbrev pub IsWordCount : ℕ → Type 0
IsWordCount nk = (nk ≡ 4) ⊎ (nk ≡ 8)

-- Nk (section 5)
abbrev pub key_words : List ℕ → ℕ
key_words key = length key / 4

-- Nr: 10 for a key of 16 bytes, 14 for one of 32 (section 5)
abbrev pub rounds_for : List ℕ → ℕ
rounds_for key = key_words key + 6

-- the word whose byte i is f i
abbrev pub word_of : (ℕ → ℕ) → List ℕ
word_of f = f 0 ∷ f 1 ∷ f 2 ∷ f 3 ∷ []

-- the sum of two words
unfoldable pub add_words : List ℕ → List ℕ → List ℕ
add_words v w = word_of (λ i. bit_xor (slice_index v i) (slice_index w i))

-- SubWord
unfoldable pub sub_word : List ℕ → List ℕ
sub_word w = word_of (λ i. s_box (slice_index w i))

-- RotWord
unfoldable pub rot_word : List ℕ → List ℕ
rot_word w = word_of (λ i. slice_index w ((i + 1) % 4))

-- x ^ n
unfoldable pub power_of_x : ℕ → ℕ
power_of_x zero = 1
power_of_x (suc n) = times_x (power_of_x n)

-- Rcon j
unfoldable pub round_constant : ℕ → List ℕ
round_constant j = power_of_x (j - 1) ∷ 0 ∷ 0 ∷ 0 ∷ []

-- what is added to word i - Nk, from word i - 1
unfoldable pub addend : ℕ → ℕ → List ℕ → List ℕ
addend nk i w =
    if i % nk == 0 then add_words (sub_word (rot_word w)) (round_constant (i / nk))
    else if nat_lt 6 nk && (i % nk == 4) then sub_word w
    else w

-- word i of the schedule, from the words before it
unfoldable pub next_word : List ℕ → List (List ℕ) → ℕ → List ℕ
next_word key ws i =
    if nat_lt i (key_words key) then word_of (λ j. slice_index key (4 * i + j))
    else add_words (slice_index_or ws (i - key_words key) [])
    (addend (key_words key) i (slice_index_or ws (i - 1) []))

-- the first n words of the schedule
unfoldable pub key_expansion : List ℕ → ℕ → List (List ℕ)
key_expansion key zero = []
key_expansion key (suc n) = key_expansion key n ++ next_word key (key_expansion key n) n ∷ []

-- the key of round r: the words 4 * r, .., 4 * r + 3 (5.1.4)
unfoldable pub round_key : List (List ℕ) → ℕ → List ℕ
round_key ws r = slice_index_or ws (4 * r) [] ++ slice_index_or ws (4 * r + 1) []
    ++ slice_index_or ws (4 * r + 2) [] ++ slice_index_or ws (4 * r + 3) []
