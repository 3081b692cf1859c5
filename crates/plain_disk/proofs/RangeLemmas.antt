-- Lemmas on operations that aren't wrong, on the numbers of those that are, and on the blocks that a
-- range touches.
use Rattle.std.proofs.Common.{◌≡◌, ◌≢◌, ℕ, suc, ◌+◌, ◌-◌, ◌*◌, ◌/◌, ◌%◌, ◌<◌, ◌≤◌, Some, None, inl}
use Rattle.std.proofs.Common.{inr, refl, sym, ap, ◌∙◌, arith}
use Rattle.std.proofs.Math.Nat.{mod-add-div, div-mul-le_self, lt-div-mul-add, mul-le-mul_right}
use Rattle.std.proofs.Math.Nat.{le_of_mul-le-mul_right}
use Rattle.std.proofs.lemmas.Bool.{cases_lt, ne_eqb}
use Rattle.std.proofs.lemmas.Grind.{common_steps}
use Rattle.std.proofs.lemmas.Nat.{div_below, le-div}
use Rattle.base_terms.specs.ErrorNumbers.{device_error, invalid}
use Rattle.plain_disk.specs.declared.operation.Op.{Op}
use Rattle.plain_disk.specs.declared.operation.Op.TheVariants.{Read, Write, Zeroes, Flush}
use Rattle.plain_disk.specs.Operations.{touched, touched_end, wrong_of, wrong_range_of}

-- a range that isn't refused lies within the disk
pub range_of_proper : (atom size offset len past : ℕ) →
    wrong_range_of atom size offset len past ≡ None → offset + len ≤ size
range_of_proper atom size offset len past proper = grind (arith, common_steps)

pub range_of_read : (atom size offset len : ℕ) → wrong_of atom size (Read offset len) ≡ None
    → offset + len ≤ size
range_of_read atom size offset len proper = range_of_proper atom size offset len invalid
    (grind (arith, common_steps))

-- an operation that is wrong is answered otherwise than by an error of the device
pub wrong_is_no_fault : (atom size : ℕ) (op : Op) (number : ℕ)
    → wrong_of atom size op ≡ Some number → number ≢ device_error
wrong_is_no_fault atom size (Read offset len) number wrong = grind (arith, common_steps)
wrong_is_no_fault atom size (Write offset body fua) number wrong = grind (arith, common_steps)
wrong_is_no_fault atom size (Zeroes offset len fua) number wrong = grind (arith, common_steps)
wrong_is_no_fault atom size Flush number wrong = absurd (cc)

-- whole blocks, counted in blocks
pub whole_blocks : (atom len : ℕ) → len % atom ≡ 0 → len / atom * atom ≡ len
whole_blocks atom len whole = let e = mod-add-div len atom in grind (arith, e, whole)

-- one of the blocks, in bytes
pub block_within : (k count size : ℕ) → k < count → k * size + size ≤ count * size
block_within k count size inside =
    let split : suc k * size ≡ k * size + size = grind arith in
    rw (← split) (mul-le-mul_right size (let e : suc k ≤ count = omega (arith, inside) in e))

-- the blocks up to an end, in bytes
pub blocks_up_to : (atom m n : ℕ) → (m + n) * atom ≡ m * atom + n * atom
blocks_up_to atom m n = grind arith

-- where the blocks that a range touches end
pub touched_end-some : (atom offset len : ℕ) → 0 < len
    → touched_end atom offset len ≡ suc ((offset + len - 1) / atom)
unfolding touched_end
touched_end-some atom offset len more = rw (ne_eqb len 0 (λ is. omega (arith, is, more))) refl

pub touched_end-none : (atom offset : ℕ) → touched_end atom offset 0 ≡ offset / atom
unfolding touched_end
touched_end-none atom offset = refl

-- a place lies before the end of its block
pub before_next : (atom place : ℕ) → 0 < atom → place < suc (place / atom) * atom
before_next atom place some =
    let below = lt-div-mul-add {a = place} {b = atom} some in
    let ends : suc (place / atom) * atom ≡ place / atom * atom + atom = grind arith in
    omega (arith, below, ends)

-- they begin with the block of its first byte
pub touched_from : (atom offset len : ℕ) → 0 < atom → offset / atom ≤ touched_end atom offset len
touched_from atom offset len some = elim (cases_lt 0 len) [
  | inl more ↦
      let front = div-mul-le_self offset atom in
      let last : offset / atom ≤ (offset + len - 1) / atom =
      le-div (offset / atom) (offset + len - 1) atom some (omega (arith, front, more)) in
      omega (arith, last, touched_end-some atom offset len more)
  | inr none ↦
      let is : len ≡ 0 = omega (arith, none) in
      rw is (omega (arith, touched_end-none atom offset))
]

-- its last byte lies in one of them
pub touched_covers : (atom offset len : ℕ) → 0 < atom → 0 < len
    → offset + len ≤ touched_end atom offset len * atom
touched_covers atom offset len some more =
    let below = before_next atom (offset + len - 1) some in
    rw (touched_end-some atom offset len more) (omega (arith, below, more))

-- a range within a disk touches blocks of it alone
pub touched_within : (atom count offset len : ℕ) → 0 < atom → offset + len ≤ count * atom
    → touched_end atom offset len ≤ count
touched_within atom count offset len some within = elim (cases_lt 0 len) [
  | inl more ↦
      let last : (offset + len - 1) / atom < count =
      div_below (offset + len - 1) atom count some (omega (arith, within, more)) in
      omega (arith, last, touched_end-some atom offset len more)
  | inr none ↦
      let is : len ≡ 0 = omega (arith, none) in
      let front : offset / atom * atom ≤ count * atom =
      omega (arith, div-mul-le_self offset atom, within) in
      let first : offset / atom ≤ count = le_of_mul-le-mul_right front some in
      rw is (omega (arith, first, touched_end-none atom offset))
]

-- as many as it touches lie between
pub touched_ends : (atom offset len : ℕ) → 0 < atom
    → offset / atom + touched atom offset len ≡ touched_end atom offset len
touched_ends atom offset len some = omega (arith, touched_from atom offset len some)

pub touched_bytes : (atom offset len : ℕ) → 0 < atom →
    offset / atom * atom + touched atom offset len * atom ≡ touched_end atom offset len * atom
touched_bytes atom offset len some =
    sym (blocks_up_to atom (offset / atom) (touched atom offset len))
    ∙ ap (λ n. n * atom) (touched_ends atom offset len some)

-- whole blocks touch themselves
pub touched_whole : (atom offset len : ℕ) → 0 < atom → offset % atom ≡ 0 → len % atom ≡ 0
    → touched atom offset len ≡ len / atom
touched_whole atom offset len some start whole =
    let first : offset / atom * atom ≡ offset = whole_blocks atom offset start in
    let all : len / atom * atom ≡ len = whole_blocks atom len whole in
    let sum : (offset / atom + len / atom) * atom ≡ offset + len =
    blocks_up_to atom (offset / atom) (len / atom) ∙ omega (arith, first, all) in
    let most : touched_end atom offset len ≤ offset / atom + len / atom =
    touched_within atom (offset / atom + len / atom) offset len some (omega (arith, sum)) in
    elim (cases_lt 0 len) [
      | inl more ↦
          let covers = touched_covers atom offset len some more in
          let least : offset / atom + len / atom ≤ touched_end atom offset len =
          le_of_mul-le-mul_right (let e : (offset / atom + len / atom) * atom
          ≤ touched_end atom offset len * atom = omega (arith, sum, covers) in e) some in
          omega (arith, most, least)
      | inr none ↦
          let nothing : len / atom * atom ≤ 0 * atom = omega (arith, all, none) in
          let no_block : len / atom ≤ 0 = le_of_mul-le-mul_right nothing some in
          omega (arith, most, no_block)
    ]
