-- Which blocks are edges: where they lie, and that each byte beside a range in the blocks that it
-- touches is an edge's.
use Rattle.std.proofs.Common.{Bool, List, [], ap, arith, false, if◌then◌else◌}
use Rattle.std.proofs.Common.{inl, inr, length, not, refl, slice_index_or, subst, suc, sym}
use Rattle.std.proofs.Common.{true, zero, ℕ, ◌%◌, ◌&&◌, ◌*◌, ◌+◌, ◌-◌, ◌/◌, ◌<◌, ◌==◌, ◌∷◌}
use Rattle.std.proofs.Common.{◌≡◌, ◌≤◌, ◌⊎◌}
use Rattle.std.proofs.Math.Nat.{div-mul-le_self, mod-add-div', mul-le-mul_right}
use Rattle.std.proofs.lemmas.Bool.{cases_lt, eq-eqb, eqb-true, ne_eqb}
use Rattle.std.proofs.lemmas.Grind.{common_steps}
use Rattle.std.proofs.lemmas.Nat.{div_below, le-div}
use Rattle.sector_disk.specs.Geometry.{IsAtom}
use Rattle.plain_disk.specs.Operations.{touched_end}
use Rattle.plain_disk.proofs.RangeLemmas.{touched_end-some}
use Rattle.volume_machine.specs.Asks.{IsWrite, range_of}
use Rattle.volume_machine.specs.Edges.{InPlain, IsBeside, KeepsEdges, begins_inside, edge_at}
use Rattle.volume_machine.specs.Edges.{edge_blocks, edges_of, ends_inside, in_range}
use Rattle.volume_machine.specs.declared.ask.Ask.{Ask}
use Rattle.volume_machine.specs.declared.ask.Ask.TheVariants.{Flush, Read, Write}

-- ---- of a first block and a last one
-- both count: the first, and the last where it is another
pair_few : (same : Bool) (first last : ℕ) → length (if same then first ∷ [] else first ∷ last ∷ [])
    ≤ 2
pair_few true first last = omega arith
pair_few false first last = omega arith

pair_each : (same : Bool) (first last i : ℕ)
    → i < length (if same then first ∷ [] else first ∷ last ∷ [])
    → (slice_index_or (if same then first ∷ [] else first ∷ last ∷ []) i 0 ≡ first)
    ⊎ (slice_index_or (if same then first ∷ [] else first ∷ last ∷ []) i 0 ≡ last)
pair_each true first last zero below = inl refl
pair_each true first last (suc i) below = absurd (omega (arith, below))
pair_each false first last zero below = inl refl
pair_each false first last (suc zero) below = inr refl
pair_each false first last (suc (suc i)) below = absurd (omega (arith, below))

-- an index at which a block stands
pub record StandsAt (blocks : List ℕ) (b : ℕ) : Type 0 where
  pub which : ℕ
  pub below : which < length blocks
  pub is : slice_index_or blocks which 0 ≡ b

pair_first : (same : Bool) (first last : ℕ)
    → StandsAt (if same then first ∷ [] else first ∷ last ∷ []) first
pair_first true first last = record { which = 0; below = omega arith; is = refl }
pair_first false first last = record { which = 0; below = omega arith; is = refl }

pair_last : (same : Bool) (first last : ℕ) → (same ≡ true → first ≡ last)
    → StandsAt (if same then first ∷ [] else first ∷ last ∷ []) last
pair_last true first last one = record { which = 0; below = omega arith; is = one refl }
pair_last false first last one = record { which = 1; below = omega arith; is = refl }

few_of : (begins ends : Bool) (first last : ℕ) → length (edge_blocks begins ends first last) ≤ 2
few_of false false first last = omega arith
few_of true false first last = omega arith
few_of false true first last = omega arith
few_of true true first last = pair_few (first == last) first last

each_of : (begins ends : Bool) (first last i : ℕ)
    → i < length (edge_blocks begins ends first last)
    → ((begins ≡ true) × (slice_index_or (edge_blocks begins ends first last) i 0 ≡ first))
    ⊎ ((ends ≡ true) × (slice_index_or (edge_blocks begins ends first last) i 0 ≡ last))
each_of false false first last i below = absurd (omega (arith, below))
each_of true false first last zero below = inl (refl, refl)
each_of true false first last (suc i) below = absurd (omega (arith, below))
each_of false true first last zero below = inr (refl, refl)
each_of false true first last (suc i) below = absurd (omega (arith, below))
each_of true true first last i below = elim (pair_each (first == last) first last i below) [
  | inl is ↦ inl (refl, is)
  | inr is ↦ inr (refl, is)
]

first_of : (ends : Bool) (first last : ℕ) → StandsAt (edge_blocks true ends first last) first
first_of false first last = record { which = 0; below = omega arith; is = refl }
first_of true first last = pair_first (first == last) first last

last_of : (begins : Bool) (first last : ℕ) → StandsAt (edge_blocks begins true first last) last
last_of false first last = record { which = 0; below = omega arith; is = refl }
last_of true first last = pair_last (first == last) first last (eqb-true first last)

-- as the code chooses it, and as it counts them
pub chosen : (begins ends : Bool) (first last which : ℕ)
    → which < length (edge_blocks begins ends first last)
    → (if (which == 0) && begins then first else last)
    ≡ slice_index_or (edge_blocks begins ends first last) which 0
chosen false false first last which below = absurd (omega (arith, below))
chosen true false first last zero below = refl
chosen true false first last (suc i) below = absurd (omega (arith, below))
chosen false true first last zero below = refl
chosen false true first last (suc i) below = absurd (omega (arith, below))
chosen true true first last which below = both (first == last) which below
  where
    both : (same : Bool) (which : ℕ)
        → which < length (if same then first ∷ [] else first ∷ last ∷ [])
        → (if (which == 0) && true then first else last)
        ≡ slice_index_or (if same then first ∷ [] else first ∷ last ∷ []) which 0
    both true zero below = refl
    both true (suc i) below = absurd (omega (arith, below))
    both false zero below = refl
    both false (suc zero) below = refl
    both false (suc (suc i)) below = absurd (omega (arith, below))

pub few_edges : (atom : ℕ) (ask : Ask) → length (edges_of atom ask) ≤ 2
unfolding edges_of
few_edges atom (Read offset len) = omega arith
few_edges atom (Write offset len fua) = few_of (begins_inside atom offset len)
    (ends_inside atom offset len) (offset / atom) ((offset + len) / atom)
few_edges atom Flush = omega arith

-- ---- where a range begins and ends
begins-true : (atom offset len : ℕ) → 0 < len → 0 < offset % atom
    → begins_inside atom offset len ≡ true
begins-true atom offset len more inside = rw (
  ne_eqb len 0 (λ is. omega (arith, is, more)),
  ne_eqb (offset % atom) 0 (λ is. omega (arith, is, inside)),
) refl

ends-true : (atom offset len : ℕ) → 0 < len → 0 < (offset + len) % atom
    → ends_inside atom offset len ≡ true
ends-true atom offset len more inside = rw (
  ne_eqb len 0 (λ is. omega (arith, is, more)),
  ne_eqb ((offset + len) % atom) 0 (λ is. omega (arith, is, inside)),
) refl

-- both tests say that there is a byte, and that a number isn't 0
both_not : (m n : ℕ) → (not (m == 0) && not (n == 0)) ≡ true → (0 < m) × (0 < n)
both_not m n is = elim (cases_lt 0 m) [
  | inl some ↦ elim (cases_lt 0 n) [
    | inl more ↦ (some, more)
    | inr none ↦
        let no : (n == 0) ≡ true = eq-eqb n 0 (omega (arith, none)) in
        let one : (m == 0) ≡ false = ne_eqb m 0 (λ same. omega (arith, same, some)) in
        absurd (let wrong : false ≡ true = rw (one, no) at is in cc)
  ]
  | inr none ↦
      let no : (m == 0) ≡ true = eq-eqb m 0 (omega (arith, none)) in
      absurd (let wrong : false ≡ true = rw no at is in cc)
]

-- an edge is one of the blocks that are touched
pub record IsTouched (atom : ℕ) (ask : Ask) (b : ℕ) : Type 0 where
  pub from : (range_of atom ask).start ≤ b
  pub to : b < (range_of atom ask).end

pub edge_touched : (atom : ℕ) (ask : Ask) (which : ℕ) → 0 < atom
    → which < length (edges_of atom ask) → IsTouched atom ask (edge_at atom ask which)
unfolding edges_of
edge_touched atom (Read offset len) which some below = absurd (omega (arith, below))
edge_touched atom (Write offset len fua) which some below =
    elim (each_of (begins_inside atom offset len) (ends_inside atom offset len) (offset / atom)
    ((offset + len) / atom) which below) [
      | inl (begins, is) ↦
          let more = (both_not len (offset % atom) begins).0 in
          let front = div-mul-le_self offset atom in
          let last : offset / atom ≤ (offset + len - 1) / atom =
          le-div (offset / atom) (offset + len - 1) atom some (omega (arith, front, more)) in
          rw is (record {
            from = omega arith;
            to = rw (touched_end-some atom offset len more) (omega (arith, last));
          })
      | inr (ends, is) ↦
          let (more, inside) = both_not len ((offset + len) % atom) ends in
          let front = div-mul-le_self offset atom in
          let split = mod-add-div' (offset + len) atom in
          let first : offset / atom ≤ (offset + len) / atom =
          le-div (offset / atom) (offset + len) atom some (omega (arith, front)) in
          let last : (offset + len) / atom ≤ (offset + len - 1) / atom =
          le-div ((offset + len) / atom) (offset + len - 1) atom some
          (omega (arith, split, inside)) in
          rw is (record {
            from = first;
            to = rw (touched_end-some atom offset len more) (omega (arith, last));
          })
    ]
edge_touched atom Flush which some below = absurd (omega (arith, below))

-- a byte beside a range, in a block that it touches
before_begins : (atom offset len b k : ℕ) → 0 < atom → offset / atom ≤ b → b * atom + k < offset
    → (b ≡ offset / atom) × (0 < offset % atom)
before_begins atom offset len b k some from before =
    let most : b ≤ offset / atom = le-div b offset atom some (omega (arith, before)) in
    let same : b ≡ offset / atom = omega (arith, from, most) in
    let split = mod-add-div' offset atom in
    let place : b * atom ≡ offset / atom * atom = ap (λ n. n * atom) same in
    (same, omega (arith, split, place, before))

behind_ends : (atom offset len b k : ℕ) → 0 < atom → 0 < len → b < touched_end atom offset len
    → k < atom → offset + len ≤ b * atom + k
    → (b ≡ (offset + len) / atom) × (0 < (offset + len) % atom)
behind_ends atom offset len b k some more below inside behind =
    let last : b ≤ (offset + len - 1) / atom =
    omega (arith, below, touched_end-some atom offset len more) in
    let front = div-mul-le_self (offset + len - 1) atom in
    let place : b * atom ≤ (offset + len - 1) / atom * atom =
    mul-le-mul_right atom last in
    let least : b ≤ (offset + len) / atom =
    le-div b (offset + len) atom some (omega (arith, front, place, more)) in
    let next : suc b * atom ≡ b * atom + atom = grind arith in
    let most : (offset + len) / atom < suc b =
    div_below (offset + len) atom (suc b) some (omega (arith, next, inside, behind)) in
    let same : b ≡ (offset + len) / atom = omega (arith, least, most) in
    let split = mod-add-div' (offset + len) atom in
    let at : b * atom ≡ (offset + len) / atom * atom = ap (λ n. n * atom) same in
    (same, omega (arith, split, at, front, place, more))

-- is an edge's
pub edge_found : (atom offset len : ℕ) (fua : Bool) (b k : ℕ) → 0 < atom → 0 < len
    → offset / atom ≤ b → b < touched_end atom offset len → k < atom
    → IsBeside (Write offset len fua) (b * atom + k)
    → StandsAt (edges_of atom (Write offset len fua)) b
unfolding edges_of
edge_found atom offset len fua b k some more from below inside (inl before) =
    let (same, begins) = before_begins atom offset len b k some from before in
    subst (λ t. StandsAt (edge_blocks t (ends_inside atom offset len) (offset / atom)
    ((offset + len) / atom)) b) (sym (begins-true atom offset len more begins))
    (rw same (first_of (ends_inside atom offset len) (offset / atom) ((offset + len) / atom)))
edge_found atom offset len fua b k some more from below inside (inr behind) =
    let (same, ends) = behind_ends atom offset len b k some more below inside behind in
    subst (λ t. StandsAt (edge_blocks (begins_inside atom offset len) t (offset / atom)
    ((offset + len) / atom)) b) (sym (ends-true atom offset len more ends))
    (rw same (last_of (begins_inside atom offset len) (offset / atom) ((offset + len) / atom)))

-- what has edges writes
pub edges_write : (atom : ℕ) (ask : Ask) (which : ℕ) → which < length (edges_of atom ask)
    → IsWrite ask
unfolding edges_of
edges_write atom (Read offset len) which below = absurd (omega (arith, below))
edges_write atom (Write offset len fua) which below = tt
edges_write atom Flush which below = absurd (omega (arith, below))

-- what has tried nothing keeps all
pub keeps_nothing : (atom : ℕ) (ask : Ask) (plain : InPlain) → plain.bytes ≡ []
    → KeepsEdges atom ask plain
keeps_nothing atom ask plain none = record {
  each = λ which k below inside is beside.
      let no : length plain.bytes ≡ 0 = ap (λ xs. length xs) none in
      absurd (omega (arith, no, inside));
}

-- what isn't a write has no edge
pub keeps_unwritten : (atom : ℕ) (ask : Ask) (plain : InPlain) → (IsWrite ask → ⊥)
    → KeepsEdges atom ask plain
unfolding edges_of
keeps_unwritten atom (Read offset len) plain never =
    record { each = λ which k below inside is beside. absurd (omega (arith, below)) }
keeps_unwritten atom (Write offset len fua) plain never = absurd (never tt)
keeps_unwritten atom Flush plain never =
    record { each = λ which k below inside is beside. absurd (omega (arith, below)) }

-- no bytes have none of a range
pub in_range-nil : (atom offset len : ℕ) → in_range atom offset len [] ≡ []
in_range-nil atom offset len = grind (arith, common_steps)

-- ---- as code computes them, without sums that don't fit
pub block_behind : (atom offset len : ℕ) → IsAtom atom
    → offset / atom + len / atom + (offset % atom + len % atom) / atom ≡ (offset + len) / atom
block_behind atom offset len (inl is) = rw is (omega arith)
block_behind atom offset len (inr is) = rw is (omega arith)

pub rest_behind : (atom offset len : ℕ) → IsAtom atom
    → (offset % atom + len % atom) % atom ≡ (offset + len) % atom
rest_behind atom offset len (inl is) = rw is (omega arith)
rest_behind atom offset len (inr is) = rw is (omega arith)
