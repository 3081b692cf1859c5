-- What stands where pieces were put, and elsewhere.
use Rattle.std.proofs.Common.{◌≡◌, inl, inr, ℕ, zero, suc, ◌+◌, ◌-◌, ◌≤◌, ◌<◌, ◌&&◌, ◌||◌, nat_le}
use Rattle.std.proofs.Common.{List, [], ◌∷◌, ◌++◌, length, take, drop, Bool, true, refl, sym, ap}
use Rattle.std.proofs.Common.{subst, ◌∙◌, arith, append_assoc, length-append, length-drop}
use Rattle.std.proofs.lemmas.List.{take-append-le, take-append-drop, drop-append-le, drop-drop}
use Rattle.std.proofs.lemmas.List.{length-take-le}
use Rattle.std.proofs.Math.Seq.{drop-append-add}
use Rattle.std.proofs.lemmas.Bool.{leb-true, or_cases, and_parts}
use Rattle.std.proofs.lemmas.Grind.{common_steps}
use Rattle.base_terms.specs.Blocks.{pasted}
use Rattle.luks_bin.specs.Fields.{field}
use Rattle.luks_bin.specs.Writing.{Piece, paste_all}

-- each piece has its length and lies within so many bytes
abbrev pub AreWithin : ℕ → List Piece → Type 0
AreWithin size [] = Unit {0}
AreWithin size (p ∷ ps) = (length p.bytes ≡ p.len) × (p.at + p.len ≤ size) × AreWithin size ps

abbrev pub is_apart : ℕ → ℕ → Piece → Bool
is_apart at n p = nat_le (at + n) p.at || nat_le (p.at + p.len) at

abbrev pub are_apart : ℕ → ℕ → List Piece → Bool
are_apart at n [] = true
are_apart at n (p ∷ ps) = is_apart at n p && are_apart at n ps

-- all pieces end at a place, or in front of it
abbrev pub are_before : ℕ → List Piece → Bool
are_before at [] = true
are_before at (p ∷ ps) = nat_le (p.at + p.len) at && are_before at ps

pub length-pasted : (old : List ℕ) (at : ℕ) (bytes : List ℕ) → at + length bytes ≤ length old
    → length (pasted old at bytes) ≡ length old
unfolding pasted
length-pasted old at bytes h = grind (arith, common_steps)

pub field-pasted : (old : List ℕ) (at n : ℕ) (bytes : List ℕ) → length bytes ≡ n
    → at + n ≤ length old → field at n (pasted old at bytes) ≡ bytes
unfolding pasted field
field-pasted old at n bytes len h = grind (arith, common_steps)

front : (at n : ℕ) (a b : List ℕ) → at + n ≤ length a → field at n (a ++ b) ≡ take n (drop at a)
unfolding field
front at n a b h =
    let k : at ≤ length a = omega arith in
    let l : n ≤ length (drop at a) = omega (arith, length-drop at a) in
    rw (drop-append-le at a b k, take-append-le n (drop at a) b l) refl

pub field-before : (old : List ℕ) (at n to : ℕ) (bytes : List ℕ) → at + n ≤ to
    → to + length bytes ≤ length old → field at n (pasted old to bytes) ≡ field at n old
unfolding pasted
field-before old at n to bytes h k =
    let l : at + n ≤ length (take to old) = omega (arith, length-take-le to old (omega arith)) in
    ap (field at n) (append_assoc (take to old) bytes (drop (to + length bytes) old))
    ∙ front at n (take to old) (bytes ++ drop (to + length bytes) old) l
    ∙ sym (front at n (take to old) (drop to old) l) ∙ ap (field at n) (take-append-drop to old)

pub drop-behind : (old : List ℕ) (at to : ℕ) (bytes : List ℕ) → to + length bytes ≤ at
    → to + length bytes ≤ length old → drop at (pasted old to bytes) ≡ drop at old
unfolding pasted
drop-behind old at to bytes h k =
    let a = take to old ++ bytes in
    let len : length a ≡ to + length bytes =
    length-append (take to old) bytes
    ∙ ap (λ m. m + length bytes) (length-take-le to old (omega arith)) in
    let j = at - (to + length bytes) in
    let e : at ≡ length a + j = omega (arith, len) in
    ap (λ m. drop m (a ++ drop (to + length bytes) old)) e
    ∙ drop-append-add a (drop (to + length bytes) old) j ∙ drop-drop j (to + length bytes) old
    ∙ ap (λ m. drop m old) (omega arith)

pub field-behind : (old : List ℕ) (at n to : ℕ) (bytes : List ℕ) → to + length bytes ≤ at
    → to + length bytes ≤ length old → field at n (pasted old to bytes) ≡ field at n old
unfolding field
field-behind old at n to bytes h k = ap (take n) (drop-behind old at to bytes h k)

apart : (old : List ℕ) (at n : ℕ) (p : Piece) → is_apart at n p ≡ true → length p.bytes ≡ p.len
    → p.at + p.len ≤ length old → field at n (pasted old p.at p.bytes) ≡ field at n old
apart old at n p h len within =
    elim (or_cases (nat_le (at + n) p.at) (nat_le (p.at + p.len) at) h) [
      | inl k ↦ field-before old at n p.at p.bytes (leb-true _ _ k) (omega (arith, len))
      | inr k ↦ let l : p.at + p.len ≤ at =
          leb-true _ _ k in
          field-behind old at n p.at p.bytes (omega (arith, len)) (omega (arith, len))
    ]

pub length-paste_all : (ps : List Piece) (old : List ℕ) → AreWithin (length old) ps
    → length (paste_all ps old) ≡ length old
length-paste_all [] old within = refl
length-paste_all (p ∷ ps) old within =
    let e : length (pasted old p.at p.bytes) ≡ length old =
    length-pasted old p.at p.bytes (omega (arith, within.0, within.1)) in
    length-paste_all ps (pasted old p.at p.bytes)
    (subst (λ (m : ℕ). AreWithin m ps) (sym e) within.2) ∙ e

-- pieces elsewhere change nothing
pub field-elsewhere : (at n : ℕ) (ps : List Piece) (old : List ℕ) → are_apart at n ps ≡ true
    → AreWithin (length old) ps → field at n (paste_all ps old) ≡ field at n old
field-elsewhere at n [] old h within = refl
field-elsewhere at n (p ∷ ps) old h within =
    let b = and_parts (is_apart at n p) (are_apart at n ps) h in
    let e : length (pasted old p.at p.bytes) ≡ length old =
    length-pasted old p.at p.bytes (omega (arith, within.0, within.1)) in
    field-elsewhere at n ps (pasted old p.at p.bytes) b.1
    (subst (λ (m : ℕ). AreWithin m ps) (sym e) within.2) ∙ apart old at n p b.0 within.0 within.1

-- the piece at an index, and those after it
abbrev pub nth : ℕ → List Piece → Piece
nth n [] = record { at = 0; len = 0; bytes = [] }
nth zero (p ∷ ps) = p
nth (suc n) (p ∷ ps) = nth n ps

abbrev pub after : ℕ → List Piece → List Piece
after n [] = []
after zero (p ∷ ps) = ps
after (suc n) (p ∷ ps) = after n ps

-- what a piece put stands there, where the later ones are elsewhere
pub field-nth : (i : ℕ) (ps : List Piece) (old : List ℕ) → i < length ps
    → are_apart (nth i ps).at (nth i ps).len (after i ps) ≡ true → AreWithin (length old) ps
    → field (nth i ps).at (nth i ps).len (paste_all ps old) ≡ (nth i ps).bytes
field-nth i [] old k h within = absurd (omega arith)
field-nth zero (p ∷ ps) old k h within =
    let e : length (pasted old p.at p.bytes) ≡ length old =
    length-pasted old p.at p.bytes (omega (arith, within.0, within.1)) in
    field-elsewhere p.at p.len ps (pasted old p.at p.bytes) h
    (subst (λ (m : ℕ). AreWithin m ps) (sym e) within.2)
    ∙ field-pasted old p.at p.len p.bytes within.0 within.1
field-nth (suc i) (q ∷ ps) old k h within =
    let e : length (pasted old q.at q.bytes) ≡ length old =
    length-pasted old q.at q.bytes (omega (arith, within.0, within.1)) in
    field-nth i ps (pasted old q.at q.bytes) (omega arith) h
    (subst (λ (m : ℕ). AreWithin m ps) (sym e) within.2)

-- nor do they behind their ends
pub drop-elsewhere : (at : ℕ) (ps : List Piece) (old : List ℕ) → are_before at ps ≡ true
    → AreWithin (length old) ps → drop at (paste_all ps old) ≡ drop at old
drop-elsewhere at [] old h within = refl
drop-elsewhere at (p ∷ ps) old h within =
    let b = and_parts (nat_le (p.at + p.len) at) (are_before at ps) h in
    let ends : p.at + p.len ≤ at = leb-true _ _ b.0 in
    let e : length (pasted old p.at p.bytes) ≡ length old =
    length-pasted old p.at p.bytes (omega (arith, within.0, within.1)) in
    drop-elsewhere at ps (pasted old p.at p.bytes) b.1
    (subst (λ (m : ℕ). AreWithin m ps) (sym e) within.2)
    ∙ drop-behind old at p.at p.bytes (omega (arith, within.0)) (omega (arith, within.0, within.1))
