-- Fields of a front of bytes, and the nine sizes.
use Rattle.std.proofs.Common.{◌≡◌, inl, inr, ℕ, ◌+◌, ◌-◌, ◌≤◌, ◌==◌, nat_le, List, [], ◌∷◌, take}
use Rattle.std.proofs.Common.{drop, true, refl, sym, ap, ◌∙◌, arith}
use Rattle.std.specs.List.{list_any, list_all}
use Rattle.std.proofs.lemmas.Bool.{eqb-true, leb-true, or_cases, and_parts}
use Rattle.std.proofs.lemmas.List.{drop-take, take-take}
use Rattle.std.specs.Int.{w16, w64, from_be_bytes}
use Rattle.luks_bin.specs.Fields.{field, u16_in, u64_in, sizes, is_size}

pub field-front : (m at len : ℕ) (bytes : List ℕ) → at + len ≤ m
    → field at len (take m bytes) ≡ field at len bytes
unfolding field
field-front m at len bytes h =
    let e : at + (m - at) ≡ m = omega arith in
    ap (λ n. take len (drop at (take n bytes))) (sym e)
    ∙ ap (take len) (drop-take at (m - at) bytes)
    ∙ take-take len (m - at) (drop at bytes) (omega arith)

pub u16-front : (m at : ℕ) (bytes : List ℕ) → at + 2 ≤ m
    → u16_in at (take m bytes) ≡ u16_in at bytes
unfolding u16_in
u16-front m at bytes h = ap (from_be_bytes w16) (field-front m at 2 bytes h)

pub u64-front : (m at : ℕ) (bytes : List ℕ) → at + 8 ≤ m
    → u64_in at (take m bytes) ≡ u64_in at bytes
unfolding u64_in
u64-front m at bytes h = ap (from_be_bytes w64) (field-front m at 8 bytes h)

-- a number of a list is no less than a number that no entry is below
any-least : (least n : ℕ) (xs : List ℕ) → list_all (λ x. nat_le least x) xs ≡ true
    → list_any (λ x. x == n) xs ≡ true → least ≤ n
any-least least n [] h k = cc
any-least least n (x ∷ xs) h k =
    let p = and_parts (nat_le least x) (list_all (λ y. nat_le least y) xs) h in
    elim (or_cases (x == n) (list_any (λ y. y == n) xs) k) [
      | inl e ↦
          (let l : least ≤ x = leb-true _ _ p.0 in let s : x ≡ n = eqb-true x n e in omega arith)
      | inr r ↦ any-least least n xs p.1 r
    ]

any-most : (most n : ℕ) (xs : List ℕ) → list_all (λ x. nat_le x most) xs ≡ true
    → list_any (λ x. x == n) xs ≡ true → n ≤ most
any-most most n [] h k = cc
any-most most n (x ∷ xs) h k =
    let p = and_parts (nat_le x most) (list_all (λ y. nat_le y most) xs) h in
    elim (or_cases (x == n) (list_any (λ y. y == n) xs) k) [
      | inl e ↦
          (let l : x ≤ most = leb-true _ _ p.0 in let s : x ≡ n = eqb-true x n e in omega arith)
      | inr r ↦ any-most most n xs p.1 r
    ]

pub size-least : (n : ℕ) → is_size n ≡ true → 16384 ≤ n
unfolding is_size
size-least n h = any-least 16384 n sizes refl h

pub size-most : (n : ℕ) → is_size n ≡ true → n ≤ 4194304
unfolding is_size
size-most n h = any-most 4194304 n sizes refl h
