-- Lemmas on copies that would be found within another.
use Rattle.std.proofs.Common.{◌≡◌, inl, inr, ℕ, zero, suc, ◌+◌, ◌-◌, ◌*◌, ◌%◌, ◌<◌, ◌≤◌, ◌==◌, ◌||◌}
use Rattle.std.proofs.Common.{List, [], ◌∷◌, ◌++◌, length, take, drop, Option, Some, None, Bool}
use Rattle.std.proofs.Common.{true}
use Rattle.std.proofs.Common.{false, cond, refl, sym, ◌∙◌, ap, subst, arith, length-drop}
use Rattle.std.specs.List.{list_all, list_any}
use Rattle.std.specs.Str.{bytes_eq}
use Rattle.std.proofs.Math.Nat.{mul-le-mul_right, mul-lt-mul_of_pos_right}
use Rattle.std.proofs.lemmas.Bool.{eqb-true, or_cases, and_parts, le-ltb}
use Rattle.std.proofs.lemmas.List.{take-append-le, take-take, length-take-le}
use Rattle.std.proofs.lemmas.Slice.Eq.{bytes_eq-Decides}
use Rattle.crash_laws.specs.HeaderAreas.Areas.{Area}
use Rattle.sector_disk.specs.DiskViews.Parts.{block_at}
use Rattle.luks_bin.proofs.FieldLemmas.{field-front, size-least}
use Rattle.luks_bin.specs.Copies.{magic_of}
use Rattle.luks_bin.specs.Fields.{field, sizes, is_size}
use Rattle.luks_bin.specs.Hidden.{has_magic, hides_copy}
use Rattle.luks_bin.specs.declared.header.BinHeader.{BinHeader}
use Rattle.luks_store.proofs.Copying.MeaningLemmas.{IsReadFrom, Spelt, read_at}
use Rattle.luks_store.specs.Copying.Hidden.{HideNone, StandAtAtoms}
use Rattle.luks_store.specs.Copying.Meanings.{meaning_at}
use Rattle.sector_disk.specs.Geometry.{IsAtom}

-- ---- places are whole atoms
pages-of : (n : ℕ) (xs : List ℕ) → list_all (λ x. x % 4096 == 0) xs ≡ true
    → list_any (λ x. x == n) xs ≡ true → n % 4096 ≡ 0
pages-of n [] all any = cc
pages-of n (x ∷ xs) all any =
    let both = and_parts (x % 4096 == 0) (list_all (λ y. y % 4096 == 0) xs) all in
    elim (or_cases (x == n) (list_any (λ y. y == n) xs) any) [
      | inl is ↦ ap (λ m. m % 4096) (sym (eqb-true x n is)) ∙ eqb-true _ _ both.0
      | inr later ↦ pages-of n xs both.1 later
    ]

size-pages : (n : ℕ) → is_size n ≡ true → n % 4096 ≡ 0
unfolding is_size
size-pages n is = pages-of n sizes refl is

page-atoms : (atom n : ℕ) → IsAtom atom → n % 4096 ≡ 0 → n % atom ≡ 0
page-atoms atom n (inl is) page = rw is (omega (arith, page))
page-atoms atom n (inr is) page = rw is page

none-atoms : (atom : ℕ) → IsAtom atom → 0 % atom ≡ 0
none-atoms atom (inl is) = rw is refl
none-atoms atom (inr is) = rw is refl

pub at-atoms : Spelt → StandAtAtoms
at-atoms spelt = λ atom known place bytes m is.
    let (h, from) = read_at spelt place bytes m is in
    let here = from.begins.here in
    elim from.begins.copy.place [
      | inl front ↦ subst (λ n. n % atom ≡ 0) (sym front ∙ here) (none-atoms atom known)
      | inr size ↦
          subst (λ n. n % atom ≡ 0) (sym size ∙ here)
          (page-atoms atom h.hdr_size known
          (size-pages h.hdr_size from.begins.copy.one_of_nine))
    ]

-- ---- a copy begins with its magic
begins-magic : (place : ℕ) (bytes m : List ℕ) (h : BinHeader) → IsReadFrom place bytes m h
    → field 0 6 bytes ≡ magic_of place
begins-magic place bytes m h from =
    let least = size-least h.hdr_size from.begins.copy.one_of_nine in
    sym (field-front h.hdr_size 0 6 bytes (omega (arith, least)))
    ∙ from.begins.copy.magic ∙ ap magic_of from.begins.here

-- the place of one that isn't at the front is one of nine
is-place : (place : ℕ) (bytes m : List ℕ) (h : BinHeader) → 0 < place → IsReadFrom place bytes m h
    → is_size place ≡ true
is-place place bytes m h some from =
    let here = from.begins.here in
    elim from.begins.copy.place [
      | inl front ↦ absurd (omega (arith, front, here, some))
      | inr size ↦
          subst (λ n. is_size n ≡ true) (sym size ∙ here) from.begins.copy.one_of_nine
    ]

-- the first bytes of an atom of a text
front-of : (atom i : ℕ) (text rest : List ℕ) → 6 ≤ atom → (i + 1) * atom ≤ length text
    → field 0 6 (block_at atom text i ++ rest) ≡ field (i * atom) 6 text
unfolding field
front-of atom i text rest least within =
    let behind = length-drop (i * atom) text in
    let next : (i + 1) * atom ≡ i * atom + atom = grind arith in
    let long : length (block_at atom text i) ≡ atom =
    length-take-le atom (drop (i * atom) text) (omega (arith, behind, within, next)) in
    take-append-le 6 (block_at atom text i) rest (omega (arith, long, least))
    ∙ take-take 6 atom (drop (i * atom) text) least

-- ---- the test
or-true : (b : Bool) → b || true ≡ true
or-true true = refl
or-true false = refl

found-magic : (text : List ℕ) (place : ℕ) → place + 6 ≤ length text
    → field place 6 text ≡ magic_of place → has_magic text place ≡ true
found-magic text place within is =
    ap (λ b. cond b false (bytes_eq (field place 6 text) (magic_of place)))
    (le-ltb (length text - place) 6 (omega (arith, within)))
    ∙ (bytes_eq-Decides (field place 6 text) (magic_of place)).1 is

any-place : (text : List ℕ) (place : ℕ) (xs : List ℕ) → has_magic text place ≡ true
    → list_any (λ x. x == place) xs ≡ true → list_any (has_magic text) xs ≡ true
any-place text place [] is held = cc
any-place text place (x ∷ xs) is held =
    elim (or_cases (x == place) (list_any (λ y. y == place) xs) held) [
      | inl same ↦
          ap (λ b. b || list_any (has_magic text) xs)
          (ap (has_magic text) (eqb-true x place same) ∙ is)
      | inr later ↦
          ap (λ b. has_magic text x || b) (any-place text place xs is later)
          ∙ or-true (has_magic text x)
    ]

hides : (text : List ℕ) (place : ℕ) → has_magic text place ≡ true → is_size place ≡ true
    → hides_copy text ≡ true
unfolding hides_copy is_size
hides text place is nine = any-place text place sizes is nine

none-or : (o : Option (List ℕ)) → ((m : List ℕ) → o ≡ Some m → ⊥) → o ≡ None
none-or None never = refl
none-or (Some m) never = absurd (never m refl)

least-atom : (atom : ℕ) → IsAtom atom → 6 ≤ atom
least-atom atom (inl is) = omega (arith, is)
least-atom atom (inr is) = omega (arith, is)

pub hide-none : Spelt → HideNone
hide-none spelt = λ atom area text known long plain i below over rest.
    none-or (meaning_at (i * atom) (block_at atom text i ++ rest)) (λ m is.
    (let (h, from) = read_at spelt (i * atom) (block_at atom text i ++ rest) m is in
    let least = least-atom atom known in
    let within : (i + 1) * atom ≤ length text =
    rw long (mul-le-mul_right atom (omega (arith, below))) in
    let next : (i + 1) * atom ≡ i * atom + atom = grind arith in
    let some : 0 < i * atom = some-place i atom over (omega (arith, least)) in
    let magic =
    sym (front-of atom i text rest least within)
    ∙ begins-magic (i * atom) (block_at atom text i ++ rest) m h from in
    let found = found-magic text (i * atom) (omega (arith, within, next, least)) magic in
    let all = hides text (i * atom) found
    (is-place (i * atom) (block_at atom text i ++ rest) m h some from) in
    absurd cc))
  where
    some-place : (i atom : ℕ) → 0 < i → 0 < atom → 0 < i * atom
    some-place i atom over some =
        let less : 0 * atom < i * atom = mul-lt-mul_of_pos_right over some in
        let none : 0 ≡ 0 * atom = omega arith in
        omega (arith, less, none)
