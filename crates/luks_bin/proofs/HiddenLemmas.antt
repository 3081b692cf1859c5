-- Lemmas on copies that would be found within a copy: a text that is UTF-8 holds no magic, since no
-- character begins with a magic's fifth byte, and the fourth is a character of its own.
use Rattle.std.proofs.Common.{◌≡◌, ℕ, zero, suc, ◌+◌, ◌-◌, ◌<◌, ◌≤◌, ◌||◌, nat_lt, nat_le}
use Rattle.std.proofs.Common.{List, [], ◌∷◌, ◌++◌, length, take, drop, get_or, replicate, codes}
use Rattle.std.proofs.Common.{Bool, true, false, cond, refl, sym, ap, ap₂, ◌∙◌, arith}
use Rattle.std.proofs.Common.{if◌then◌else◌, inl, inr}
use Rattle.std.specs.List.{list_all, list_any}
use Rattle.std.specs.Str.{bytes_eq, is_utf8}
use Rattle.std.proofs.lemmas.Bool.{and_parts, cases_lt, leb-true, ne_eqb}
use Rattle.std.proofs.lemmas.List.{drop-drop, get_or_append_left, get_or-append_right, get_or-drop}
use Rattle.std.proofs.lemmas.List.{get_or-take}
use Rattle.std.proofs.lemmas.Slice.Eq.{bytes_eq-Decides}
use Rattle.std.proofs.lemmas.Str.{IsCharBoundary-after_ascii, IsUtf8-from_is_utf8}
use Rattle.luks_bin.specs.Copies.{magic_of}
use Rattle.luks_bin.specs.Fields.{field, sizes}
use Rattle.luks_bin.specs.Hidden.{has_magic, hides_copy}
use Rattle.luks_bin.specs.Writing.{common, moved, written, FitsArea, IsWritable}
use Rattle.luks_bin.specs.declared.header.BinHeader.{BinHeader}
use Rattle.luks_bin.proofs.FieldLemmas.{size-least}
use Rattle.luks_bin.proofs.WriteLemmas.{IsShaped, back-moved, drop-common, length-common}
use Rattle.luks_bin.proofs.WriteLemmas.{length-moved}

-- ---- the nine places
places-same : (one two : ℕ → Bool) (xs : List ℕ) → list_all (λ x. nat_le 16384 x) xs ≡ true
    → ((place : ℕ) → 16384 ≤ place → one place ≡ two place)
    → list_any one xs ≡ list_any two xs
places-same one two [] all same = refl
places-same one two (x ∷ xs) all same =
    let both = and_parts (nat_le 16384 x) (list_all (λ y. nat_le 16384 y) xs) all in
    ap₂ (λ a b. a || b) (same x (leb-true 16384 x both.0)) (places-same one two xs both.1 same)

none-any : (xs : List ℕ) → list_any (λ place. false) xs ≡ false
none-any [] = refl
none-any (x ∷ xs) = none-any xs

hides-same : (a b : List ℕ) → ((place : ℕ) → 16384 ≤ place → has_magic a place ≡ has_magic b place)
    → hides_copy a ≡ hides_copy b
unfolding hides_copy
hides-same a b same = places-same (has_magic a) (has_magic b) sizes refl same

hides-none : (a : List ℕ) → ((place : ℕ) → 16384 ≤ place → has_magic a place ≡ false)
    → hides_copy a ≡ false
unfolding hides_copy
hides-none a none = places-same (has_magic a) (λ place. false) sizes refl none ∙ none-any sizes

-- ---- a moved copy
field-later : (at len : ℕ) (a b : List ℕ) → 512 ≤ at → drop 512 a ≡ drop 512 b
    → field at len a ≡ field at len b
unfolding field
field-later at len a b later same =
    let sum : 512 + (at - 512) ≡ at = omega (arith, later) in
    let skipped = λ (c : List ℕ).
    ap (λ n. take len (drop n c)) (sym sum) ∙ ap (take len) (sym (drop-drop (at - 512) 512 c)) in
    skipped a ∙ ap (λ c. take len (drop (at - 512) c)) same ∙ sym (skipped b)

magic-later : (a b : List ℕ) (place : ℕ) → 512 ≤ place → length a ≡ length b
    → drop 512 a ≡ drop 512 b → has_magic a place ≡ has_magic b place
magic-later a b place later long same =
    ap₂ (λ n text. cond (nat_lt (n - place) 6) false (bytes_eq text (magic_of place))) long
    (field-later place 6 a b later same)

pub moved-hides : (place : ℕ) (salt copy : List ℕ) → length salt ≡ 64 → 4096 ≤ length copy
    → hides_copy (moved place salt copy) ≡ hides_copy copy
moved-hides place salt copy is h =
    hides-same (moved place salt copy) copy
    (λ at later. magic-later (moved place salt copy) copy at (omega (arith, later))
    (length-moved place salt copy is h) (back-moved place salt copy is h))

-- ---- a text, and zeros behind it
zero-at : (n k : ℕ) → ◌≡◌ {A = ℕ} (get_or (replicate n 0) k 0) 0
zero-at zero k = refl
zero-at (suc n) zero = refl
zero-at (suc n) (suc k) = zero-at n k

-- a byte other than 0 stands in the text
in-text : (text : List ℕ) (n k byte : ℕ) → 0 < byte → get_or (text ++ replicate n 0) k 0 ≡ byte
    → (k < length text) × (get_or text k 0 ≡ byte)
in-text text n k byte some is = elim (cases_lt k (length text)) [
  | inl below ↦ (below, sym (get_or_append_left text (replicate n 0) 0 k below) ∙ is)
  | inr behind ↦
      let none =
      sym is ∙ get_or-append_right text (replicate n 0) (length text) k 0 refl behind
      ∙ zero-at n (k - length text) in
      absurd (omega (arith, none, some))
]

-- no byte 186 follows a byte 76
never-follows : (text : List ℕ) (n k : ℕ) → is_utf8 text ≡ true
    → get_or (text ++ replicate n 0) k 0 ≡ 76 → get_or (text ++ replicate n 0) (k + 1) 0 ≡ 186 → ⊥
never-follows text n k utf8 first second =
    let one = in-text text n k 76 (omega arith) first in
    let two = in-text text n (k + 1) 186 (omega arith) second in
    let low : get_or text k 0 < 128 = omega (arith, one.1) in
    let bound = IsCharBoundary-after_ascii text k (IsUtf8-from_is_utf8 text utf8) one.0 low in
    let high : 128 ≤ get_or text (k + 1) 0 = omega (arith, two.1) in
    let begins = bound.1 two.0 high in
    omega (arith, begins, two.1)

magic-bytes : (place : ℕ) → 0 < place
    → (get_or (magic_of place) 3 0 ≡ 76) × (get_or (magic_of place) 4 0 ≡ 186)
unfolding magic_of
magic-bytes place some =
    let front = ne_eqb place 0 (λ is. omega (arith, is, some)) in
    let is =
    ap (λ b. if b then codes "LUKS" ++ 186 ∷ 190 ∷ [] else codes "SKUL" ++ 186 ∷ 190 ∷ []) front in
    (ap (λ xs. get_or xs 3 0) is, ap (λ xs. get_or xs 4 0) is)

byte-in : (copy : List ℕ) (at i : ℕ) → i < 6
    → get_or (field at 6 copy) i 0 ≡ get_or copy (at + i) 0
unfolding field
byte-in copy at i below = get_or-take 6 (drop at copy) i 0 below ∙ get_or-drop at copy i 0

byte-behind : (copy text : List ℕ) (n at i : ℕ) → 4096 ≤ at
    → drop 4096 copy ≡ text ++ replicate n 0 → i < 6
    → get_or (text ++ replicate n 0) (at - 4096 + i) 0 ≡ get_or (field at 6 copy) i 0
byte-behind copy text n at i later is below =
    let place : 4096 + (at - 4096 + i) ≡ at + i = omega (arith, later) in
    ap (λ xs. get_or xs (at - 4096 + i) 0) (sym is)
    ∙ get_or-drop 4096 copy (at - 4096 + i) 0
    ∙ ap (λ k. get_or copy k 0) place ∙ sym (byte-in copy at i below)

no-magic : (copy text : List ℕ) (n place : ℕ) → 4096 ≤ place → is_utf8 text ≡ true
    → drop 4096 copy ≡ text ++ replicate n 0 → field place 6 copy ≡ magic_of place → ⊥
no-magic copy text n place later utf8 is magic =
    let bytes = magic-bytes place (omega (arith, later)) in
    let at = λ (i : ℕ) (below : i < 6).
    byte-behind copy text n place i later is below ∙ ap (λ xs. get_or xs i 0) magic in
    let next : place - 4096 + 3 + 1 ≡ place - 4096 + 4 = omega arith in
    never-follows text n (place - 4096 + 3) utf8 (at 3 (omega arith) ∙ bytes.0)
    (ap (λ k. get_or (text ++ replicate n 0) k 0) next ∙ at 4 (omega arith) ∙ bytes.1)

false-by : (short found : Bool) → (found ≡ true → ⊥) → cond short false found ≡ false
false-by true found refused = refl
false-by false true refused = absurd (refused refl)
false-by false false refused = refl

text-hides : (copy text : List ℕ) (n : ℕ) → is_utf8 text ≡ true
    → drop 4096 copy ≡ text ++ replicate n 0 → hides_copy copy ≡ false
text-hides copy text n utf8 is =
    hides-none copy (λ place later. false-by (nat_lt (length copy - place) 6)
    (bytes_eq (field place 6 copy) (magic_of place))
    (λ found. no-magic copy text n place (omega (arith, later)) utf8 is
    ((bytes_eq-Decides (field place 6 copy) (magic_of place)).0 found)))

pub written-hides : (h : BinHeader) (json : List ℕ) → IsShaped h → IsWritable h
    → FitsArea h.hdr_size json → is_utf8 json ≡ true → hides_copy (written h json) ≡ false
unfolding written
written-hides h json is right fits utf8 =
    let least = size-least h.hdr_size right.one_of_nine in
    moved-hides h.hdr_offset h.salt (common h json) is.salt (length-common h json is right fits)
    ∙ text-hides (common h json) json (h.hdr_size - (4096 + length json)) utf8
    (drop-common h json is (omega (arith, least)) fits.room)
