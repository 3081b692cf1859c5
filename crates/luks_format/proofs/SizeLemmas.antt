-- The sizes of a new volume: whole atoms, and one behind the other.
use Rattle.std.proofs.Common.{◌≡◌, inl, inr, ℕ, zero, suc, ◌+◌, ◌-◌, ◌*◌, ◌/◌, ◌%◌, ◌<◌, ◌≤◌}
use Rattle.std.proofs.Common.{◌==◌, ◌||◌, min, true, List, [], ◌∷◌, refl, subst, arith}
use Rattle.std.proofs.Math.Nat.{mul-mod_left}
use Rattle.std.proofs.lemmas.Bool.{eqb-true, or_cases, and_parts}
use Rattle.std.proofs.lemmas.Grind.{div_ceil_times}
use Rattle.std.specs.Int.{div_ceil}
use Rattle.std.specs.List.{list_any, list_all}
use Rattle.luks_bin.specs.Fields.{is_size, sizes as nine_sizes}
use Rattle.luks_meta.specs.Segments.{is_sector_size}
use Rattle.luks_slots.specs.NewSlots.{area_len}
use Rattle.luks_slots.specs.Stripes.{split_len}
use Rattle.sector_disk.specs.Geometry.{IsAtom}

-- ---- whole atoms
pub pages-whole : (n atom : ℕ) → IsAtom atom → n % 4096 ≡ 0 → n % atom ≡ 0
pages-whole n atom (inl e) page = rw e (omega (arith, page))
pages-whole n atom (inr e) page = rw e page

any-page : (n : ℕ) (xs : List ℕ) → list_all (λ x. x % 4096 == 0) xs ≡ true
    → list_any (λ x. x == n) xs ≡ true → n % 4096 ≡ 0
any-page n [] h k = cc
any-page n (x ∷ xs) h k =
    let p = and_parts (x % 4096 == 0) (list_all (λ y. y % 4096 == 0) xs) h in
    elim (or_cases (x == n) (list_any (λ y. y == n) xs) k) [
      | inl e ↦ subst (λ m. m % 4096 ≡ 0) (eqb-true x n e) (eqb-true (x % 4096) 0 p.0)
      | inr r ↦ any-page n xs p.1 r
    ]

-- a copy of the header has whole pages
pub size-page : (n : ℕ) → is_size n ≡ true → n % 4096 ≡ 0
unfolding is_size
size-page n h = any-page n nine_sizes refl h

pub copies-page : (n : ℕ) → is_size n ≡ true → 2 * n % 4096 ≡ 0
copies-page n h = let page = size-page n h in omega (arith, page)

pub area-page : (key_size : ℕ) → area_len key_size % 4096 ≡ 0
area-page key_size = mul-mod_left (div_ceil (split_len key_size) 4096) 4096

pub area-some : (key_size : ℕ) → 1 ≤ key_size → 1 ≤ area_len key_size
area-some key_size some =
    let most = (div_ceil_times (split_len key_size) 4096 (omega arith)).0 in
    omega (arith, some, most)

-- a sector has bytes
pub sector-some : (n : ℕ) → is_sector_size n ≡ true → 1 ≤ n
sector-some zero h = cc
sector-some (suc n) h = omega arith

-- and is whole units of 512 bytes
pub sector-units : (n : ℕ) → is_sector_size n ≡ true → n % 512 ≡ 0
sector-units n h =
    elim (or_cases ((n == 512) || (n == 1024) || (n == 2048)) (n == 4096) h) [
      | inl few ↦ elim (or_cases ((n == 512) || (n == 1024)) (n == 2048) few) [
        | inl fewer ↦ elim (or_cases (n == 512) (n == 1024) fewer) [
          | inl one ↦ (let e = eqb-true n 512 one in omega (arith, e))
          | inr two ↦ (let e = eqb-true n 1024 two in omega (arith, e))
        ]
        | inr four ↦ (let e = eqb-true n 2048 four in omega (arith, e))
      ]
      | inr eight ↦ (let e = eqb-true n 4096 eight in omega (arith, e))
    ]

-- ---- one behind the other: two copies, the keyslots area, the data, the disk's end
pub data-behind : (offset copies most area : ℕ) → 1 ≤ area → area ≤ min (offset - copies) most
    → copies + min (offset - copies) most ≤ offset
data-behind offset copies most area some room = omega (arith, some, room)

-- an offset of whole atoms, with an atom left on the disk
pub block-left : (atom atoms offset : ℕ) → IsAtom atom → offset % atom ≡ 0
    → offset / atom < atoms → offset + atom ≤ atoms * atom
block-left atom atoms offset (inl e) even block =
    let whole = rw e at even in
    let some = rw e at block in
    rw e (omega (arith, whole, some))
block-left atom atoms offset (inr e) even block =
    let whole = rw e at even in
    let some = rw e at block in
    rw e (omega (arith, whole, some))
