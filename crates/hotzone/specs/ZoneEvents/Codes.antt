-- A value of JSON as numbers that tell it: in front of each what it is, and in front of a text how long
-- that is. So whole numbers of any size are told, as those are that a text keeps.
use Rattle.std.specs.Prelude.{ℕ, List, [], ◌∷◌, ◌++◌, length, pos, negsuc, true, false}
use Rattle.serde_json.specs.Data.{Num, unsigned, negative, float, Data, null, boolean, number, string}
use Rattle.serde_json.specs.Data.{array, object, Items, no_items, item, Members, no_members, member}

abbrev pub text_code : List ℕ → List ℕ
text_code s = length s ∷ s

-- of a float it says only that it is one
abbrev pub number_code : Num → List ℕ
number_code (unsigned n) = 3 ∷ n ∷ []
number_code (negative (pos n)) = 4 ∷ n ∷ []
number_code (negative (negsuc n)) = 5 ∷ n ∷ []
number_code (float x) = 6 ∷ []

abbrev mutual
  pub value_code : Data → List ℕ
  value_code null = 0 ∷ []
  value_code (boolean false) = 1 ∷ []
  value_code (boolean true) = 2 ∷ []
  value_code (number n) = number_code n
  value_code (string s) = 7 ∷ text_code s
  value_code (array ds) = 8 ∷ items_code ds
  value_code (object ms) = 9 ∷ members_code ms

  pub items_code : Items → List ℕ
  items_code no_items = 0 ∷ []
  items_code (item d ds) = 1 ∷ (value_code d ++ items_code ds)

  pub members_code : Members → List ℕ
  members_code no_members = 0 ∷ []
  members_code (member k d ms) = 1 ∷ (text_code k ++ (value_code d ++ members_code ms))
