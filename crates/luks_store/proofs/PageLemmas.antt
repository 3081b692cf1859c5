-- Lemmas on whole pages of 4096 bytes: they are whole atoms, and so are the nine sizes.
use Rattle.std.proofs.Common.{◌≡◌, inl, inr, ℕ, zero, suc, ◌*◌, ◌/◌, ◌%◌, ◌<◌, ◌≤◌, ◌==◌, ◌&&◌}
use Rattle.std.proofs.Common.{nat_lt, List, [], ◌∷◌, length, get_or, true, refl, sym, ap, ◌∙◌}
use Rattle.std.proofs.Common.{arith}
use Rattle.std.specs.List.{list_any, list_all}
use Rattle.std.proofs.Math.Nat.{mul-le-mul_right}
use Rattle.std.proofs.lemmas.Bool.{eqb-true, ltb-true, or_cases, and_parts}
use Rattle.luks_bin.specs.Fields.{sizes, is_size}
use Rattle.luks_store.specs.Devices.{are_pages}
use Rattle.sector_disk.specs.Geometry.{IsAtom}

pages-of : (n : ℕ) (xs : List ℕ) → list_all (λ x. x % 4096 == 0) xs ≡ true
    → list_any (λ x. x == n) xs ≡ true → n % 4096 ≡ 0
pages-of n [] all any = cc
pages-of n (x ∷ xs) all any =
    let both = and_parts (x % 4096 == 0) (list_all (λ y. y % 4096 == 0) xs) all in
    elim (or_cases (x == n) (list_any (λ y. y == n) xs) any) [
      | inl is ↦ ap (λ m. m % 4096) (sym (eqb-true x n is)) ∙ eqb-true _ _ both.0
      | inr later ↦ pages-of n xs both.1 later
    ]

pub size-pages : (n : ℕ) → is_size n ≡ true → n % 4096 ≡ 0
unfolding is_size
size-pages n is = pages-of n sizes refl is

pub page-atoms : (atom n : ℕ) → IsAtom atom → n % 4096 ≡ 0 → n % atom ≡ 0
page-atoms atom n (inl is) page = rw is (omega (arith, page))
page-atoms atom n (inr is) page = rw is page

pub page-place : (atom n : ℕ) → IsAtom atom → n % 4096 ≡ 0 → n / atom * atom ≡ n
page-place atom n (inl is) page = rw is (omega (arith, page))
page-place atom n (inr is) page = rw is (omega (arith, page))

-- the front of a disk is in its bytes
pub front-within : (atom atoms header : ℕ) (all : List ℕ) → header ≤ atoms
    → length all ≡ atoms * atom → header * atom ≤ length all
front-within atom atoms header all fewer long =
    let most : header * atom ≤ atoms * atom =
    mul-le-mul_right atom fewer in omega (arith, most, long)

-- one of several places
pub page-at : (places : List ℕ) (i d : ℕ) → are_pages places ≡ true → i < length places
    → (0 < get_or places i d) × (get_or places i d % 4096 ≡ 0)
page-at [] i d all below = absurd (omega (arith, below))
page-at (x ∷ xs) zero d all below =
    let here = and_parts (nat_lt 0 x && (x % 4096 == 0)) (are_pages xs) all in
    let both = and_parts (nat_lt 0 x) (x % 4096 == 0) here.0 in
    (ltb-true 0 x both.0, eqb-true (x % 4096) 0 both.1)
page-at (x ∷ xs) (suc i) d all below =
    page-at xs i d (and_parts (nat_lt 0 x && (x % 4096 == 0)) (are_pages xs) all).1
    (omega (arith, below))
