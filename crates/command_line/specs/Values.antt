-- The values of a command's words.
use Rattle.std.specs.Prelude.{ℕ, ◌≡◌, ◌⊎◌, ◌+◌, ◌-◌, ◌*◌, ◌&&◌, ◌==◌, nat_lt, nat_le, Bool}
use Rattle.std.specs.Prelude.{fold, false, not}
use Rattle.std.specs.Prelude.{List, length, codes, Option, Some, None, if◌then◌else◌}
use Rattle.std.specs.Prelude.{Result, Ok, Err, option_and_then, option_map, is_some}
use Rattle.std.specs.List.{list_all}
use Rattle.std.specs.Option.{option_map_or}
use Rattle.std.specs.Char.{is_ascii_digit}
use Rattle.std.specs.Str.{bytes_eq}
use Rattle.clap.specs.Walk.{Row, Text, first_of}

-- first this, then what follows from it; where there is none, none
infixl 10 ◌>>=◌
abbrev pub ◌>>=◌ : {A B : Type 0} → Option A → (A → Option B) → Option B
o >>= f = option_and_then f o

-- what a function read, seen by view, is what there is; and it refused where there is none
abbrev pub Reads : {X Y E : Type 0} → (X → Y) → Result X E → Option Y → Type 0
Reads view (Ok x) there = there ≡ Some (view x)
Reads view (Err e) there = there ≡ None

-- a number is 1 to 20 decimal digits, without a sign
abbrev pub is_number : Text → Bool
is_number word = not (length word == 0)
    && (not (nat_lt 20 (length word)) && list_all is_ascii_digit word)

abbrev pub number_of : Text → ℕ
number_of digits = fold (λ number digit. number * 10 + (digit - 48)) 0 digits

-- the number of a word, where it is one within these bounds
unfoldable pub number_within : ℕ → ℕ → Text → Option ℕ
number_within least most word =
    if is_number word && (nat_le least (number_of word) && nat_le (number_of word) most)
    then Some (number_of word) else None

-- the value of an option that is a number, or its default
unfoldable pub number_or : ℕ → ℕ → ℕ → Option Text → Option ℕ
number_or default least most None = Some default
number_or default least most (Some word) = number_within least most word

-- the value of an option that is a number and must be there
unfoldable pub number_in : ℕ → ℕ → Option Text → Option ℕ
number_in least most None = None
number_in least most (Some word) = number_within least most word

-- the value of an option that is a number, where it is there
unfoldable pub number_or_none : ℕ → ℕ → Option Text → Option (Option ℕ)
number_or_none least most None = Some None
number_or_none least most (Some word) = option_map Some (number_within least most word)

-- the bytes of an atom
abbrev pub IsAtomSize : ℕ → Type 0
IsAtomSize atom = (atom ≡ 512) ⊎ (atom ≡ 4096)

unfoldable pub atom_named : Text → Option ℕ
atom_named word = if bytes_eq word (codes "512") then Some 512
    else (if bytes_eq word (codes "4096") then Some 4096 else None)

-- the value of `--atom`, or its default
unfoldable pub atom_or_default : Option Text → Option ℕ
atom_or_default None = Some 4096
atom_or_default (Some word) = atom_named word

-- whether an option is there, and whether a flag is
abbrev pub is_given : Text → List Row → Bool
is_given name rows = is_some (first_of name rows)

abbrev pub is_true : Option Text → Bool
is_true value = option_map_or (λ word. bytes_eq word (codes "true")) value false

abbrev pub is_set : Text → List Row → Bool
is_set name rows = is_true (first_of name rows)
