-- Lemmas on the text of a value: it has no NUL, since control characters are escaped.
use Rattle.std.proofs.Common.{◌≡◌, ℕ, zero, suc, ◌+◌, ◌/◌, ◌%◌, ◌<◌, ◌==◌, ◌||◌, nat_lt, List, []}
use Rattle.std.proofs.Common.{◌∷◌, ◌++◌, Bool, true, false, cond, refl, ◌∙◌, ap, arith}
use Rattle.std.specs.Prelude.{pos, negsuc}
use Rattle.std.specs.Char.{digit_char}
use Rattle.std.specs.Fmt.{digit_glyph, digits, digits_onto, decimal}
use Rattle.std.specs.List.{list_any}
use Rattle.std.proofs.lemmas.Bool.{ltb-true, ltb-false, ne_eqb}
use Rattle.std.proofs.lemmas.List.Folds.{list_any-append}
use Rattle.json.specs.Print.{escape, escape_byte, escape_letter, quoted}
use Rattle.serde_json.specs.Data.{Num, unsigned, negative, float, Data, null, boolean, number}
use Rattle.serde_json.specs.Data.{string, array, object, Items, no_items, item, Members, no_members}
use Rattle.serde_json.specs.Data.{member}
use Rattle.serde_json.specs.Written.{number_text, comma_if, compact_text, items_text, members_text}

abbrev pub has_nul : List ℕ → Bool
has_nul xs = list_any (λ byte. byte == 0) xs

none : (a b : Bool) → a ≡ false → b ≡ false → a || b ≡ false
none true b p q = p
none false b p q = q

joined : (xs ys : List ℕ) → has_nul xs ≡ false → has_nul ys ≡ false → has_nul (xs ++ ys) ≡ false
joined xs ys one two =
    list_any-append (λ byte. byte == 0) xs ys ∙ none (has_nul xs) (has_nul ys) one two

led : (x : ℕ) (xs : List ℕ) → 0 < x → has_nul xs ≡ false → has_nul (x ∷ xs) ≡ false
led x xs some rest = none (x == 0) (has_nul xs) (ne_eqb x 0 (λ is. omega (arith, is, some))) rest

either : (b : Bool) (xs ys : List ℕ) → has_nul xs ≡ false → has_nul ys ≡ false
    → has_nul (cond b xs ys) ≡ false
either true xs ys one two = one
either false xs ys one two = two

-- ---- digits
glyph-by : (b : Bool) (d : ℕ) → 0 < cond b (48 + d) (87 + d)
glyph-by true d = omega arith
glyph-by false d = omega arith

glyph : (d : ℕ) → 0 < digit_glyph false d
glyph d = glyph-by (nat_lt d 10) d

onto : (k base n : ℕ) (acc : List ℕ) → has_nul acc ≡ false
    → has_nul (digits_onto k base false n acc) ≡ false
onto zero base n acc plain = plain
onto (suc k) base n acc plain =
    let more = led (digit_glyph false (n % base)) acc (glyph (n % base)) plain in
    either (n / base == 0) _ _ more
    (onto k base (n / base) (digit_glyph false (n % base) ∷ acc) more)

decimal-plain : (n : ℕ) → has_nul (decimal n) ≡ false
unfolding digits
decimal-plain n = onto 64 10 n [] refl

number-plain : (n : Num) → has_nul (number_text n) ≡ false
number-plain (unsigned n) = decimal-plain n
number-plain (negative (pos n)) = decimal-plain n
number-plain (negative (negsuc n)) = led 45 (decimal (suc n)) (omega arith) (decimal-plain (suc n))
number-plain (float x) = refl

-- ---- strings
letter : (d : ℕ) → 0 < digit_char d
letter d = glyph-by (nat_lt d 10) d

byte-by : (x : ℕ) (a b : Bool) → nat_lt 0 (escape_letter x) ≡ a → nat_lt x 32 ≡ b
    → has_nul
    (cond a (92 ∷ escape_letter x ∷ [])
    (cond b (92 ∷ 117 ∷ 48 ∷ 48 ∷ digit_char (x / 16) ∷ digit_char (x % 16) ∷ []) (x ∷ []))) ≡ false
byte-by x true b short low = led (escape_letter x) [] (ltb-true 0 (escape_letter x) short) refl
byte-by x false true short low =
    led (digit_char (x / 16)) (digit_char (x % 16) ∷ []) (letter (x / 16))
    (led (digit_char (x % 16)) [] (letter (x % 16)) refl)
byte-by x false false short low =
    led x [] (let most = ltb-false x 32 low in omega (arith, most)) refl

byte : (x : ℕ) → has_nul (escape_byte x) ≡ false
unfolding escape_byte
byte x = byte-by x _ _ refl refl

escaped : (s : List ℕ) → has_nul (escape s) ≡ false
escaped [] = refl
escaped (x ∷ xs) = joined (escape_byte x) (escape xs) (byte x) (escaped xs)

string-plain : (s : List ℕ) → has_nul (quoted s) ≡ false
string-plain s = joined (escape s) (34 ∷ []) (escaped s) refl

-- ---- values
comma-plain : (later : Bool) → has_nul (comma_if later) ≡ false
comma-plain true = refl
comma-plain false = refl

mutual
  pub text-plain : (d : Data) → has_nul (compact_text d) ≡ false
  text-plain null = refl
  text-plain (boolean true) = refl
  text-plain (boolean false) = refl
  text-plain (number n) = number-plain n
  text-plain (string s) = string-plain s
  text-plain (array ds) = items-plain false ds
  text-plain (object ms) = members-plain false ms

  items-plain : (later : Bool) (ds : Items) → has_nul (items_text later ds) ≡ false
  items-plain later no_items = refl
  items-plain later (item d ds) =
      joined (comma_if later) _ (comma-plain later)
      (joined (compact_text d) _ (text-plain d) (items-plain true ds))

  members-plain : (later : Bool) (ms : Members) → has_nul (members_text later ms) ≡ false
  members-plain later no_members = refl
  members-plain later (member k d ms) = joined (comma_if later) _ (comma-plain later)
      (joined (quoted k) _ (string-plain k)
      (joined (compact_text d) _ (text-plain d) (members-plain true ms)))

-- so has a text that is written
pub plain-text : (d : Data) (text : List ℕ) → text ≡ compact_text d → has_nul text ≡ true → ⊥
plain-text d text is nul = let plain = text-plain d in let same = ap has_nul is in cc
