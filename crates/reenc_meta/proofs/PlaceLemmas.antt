-- Places of blocks, in atoms and in bytes; and volumes all of whose blocks are new.
use Rattle.std.proofs.Common.{◌≡◌, ℕ, zero, suc, ◌+◌, ◌-◌, ◌*◌, ◌/◌, ◌%◌, ◌<◌, ◌≤◌, List, ◌++◌}
use Rattle.std.proofs.Common.{Bool}
use Rattle.std.proofs.Common.{true, false, replicate, Some, slice_get, refl, ap, arith, inl, inr}
use Rattle.std.proofs.Common.{if◌then◌else◌, subst, sym, ◌∙◌, ◌^◌}
use Rattle.std.proofs.Math.Nat.{div-add-mod, div-mul-le_self, le_of_mul-le-mul_right, le_trans}
use Rattle.std.proofs.Math.Nat.{mul-le-mul_right, mul_comm}
use Rattle.reenc_meta.specs.Places.{AreAllNew}
use Rattle.sector_disk.specs.Geometry.{IsAtom, IsDisk}
use Rattle.segment_map.specs.Maps.{side_at}
use Rattle.segment_map.specs.declared.Direction.TheVariants.{Forward}
use Rattle.segment_map.specs.declared.Side.{Side}
use Rattle.segment_map.specs.declared.Side.TheVariants.{Old, New, Zone}
use Rattle.segment_map.specs.declared.map.Map.{Map}
use Rattle.volume_machine.specs.Sound.{AreApart}

-- ---- all blocks are new
run_inside : (n k : ℕ) (rest : List Side) → k < n
    → slice_get (replicate n New ++ rest) k ≡ Some New
run_inside zero k rest below = absurd (omega (arith, below))
run_inside (suc n) zero rest below = refl
run_inside (suc n) (suc k) rest below = run_inside n k rest (omega (arith, below))

pub all_new : (map : Map) → map.direction ≡ Forward → map.boundary ≡ map.blocks → AreAllNew map
all_new map forward whole =
    let side : (b : ℕ) → b < map.blocks → side_at map b ≡ Some New =
    λ b below. rw forward
    (run_inside map.boundary b
    (replicate map.zone Zone ++ replicate (map.blocks - map.boundary - map.zone) Old)
    (omega (arith, below, whole))) in
    record {
      sides = λ b below. rw (side b below) refl;
      places = λ b below. rw (side b below) refl;
    }

pub new_apart : (map : Map) → AreAllNew map → AreApart map
new_apart map new =
    λ a b a_below b_below same. omega (arith, new.places a a_below, new.places b b_below, same)

-- ---- in bytes
times_next : (n atom : ℕ) → 0 < n → n * atom ≡ (n - 1) * atom + atom
times_next zero atom some = absurd (omega (arith, some))
times_next (suc n) atom some =
    let long : suc n * atom ≡ n * atom + atom = grind arith in
    let same : suc n - 1 ≡ n = omega arith in
    long ∙ ap (λ k. k * atom + atom) (sym same)

-- each of some blocks ends below this byte, so they all do
pub all_end_below : (offset blocks atom end : ℕ) → 0 < blocks
    → ((b : ℕ) → b < blocks → offset + b * atom + atom ≤ end) → offset + blocks * atom ≤ end
all_end_below offset blocks atom end some each =
    let last = each (blocks - 1) (omega (arith, some)) in
    let long = times_next blocks atom some in
    omega (arith, last, long)

-- so they lie in so many atoms
pub in_atoms : (offset blocks main atom : ℕ) → 0 < atom → offset + blocks * atom ≤ main * atom
    → offset / atom + blocks ≤ main
in_atoms offset blocks main atom some within =
    let start = div-mul-le_self offset atom in
    let sum : (offset / atom + blocks) * atom ≡ offset / atom * atom + blocks * atom =
    omega arith in
    le_of_mul-le-mul_right (omega (arith, start, sum, within)) some

-- the byte at which a whole atom begins
whole_atoms : (offset atom : ℕ) → offset % atom ≡ 0 → offset ≡ offset / atom * atom
whole_atoms offset atom whole =
    let parts = div-add-mod offset atom in
    let turned = mul_comm atom (offset / atom) in
    omega (arith, parts, turned, whole)

-- what ends before a segment, or on the disk in front of it, ends before each of its blocks
pub behind : (detached : Bool) (header end offset atom b : ℕ) → offset % atom ≡ 0
    → (detached ≡ false → end ≤ offset) → (detached ≡ true → end ≤ header * atom)
    → end ≤ ((if detached then header else 0) + offset / atom + b) * atom
behind true header end offset atom b whole attached apart =
    let more : header ≤ header + offset / atom + b = omega arith in
    le_trans (apart refl) (mul-le-mul_right atom more)
behind false header end offset atom b whole attached apart =
    let more : offset / atom ≤ 0 + offset / atom + b = omega arith in
    le_trans (attached refl)
    (subst (λ n. n ≤ (0 + offset / atom + b) * atom) (sym (whole_atoms offset atom whole))
    (mul-le-mul_right atom more))

-- the units of 512 bytes of so many blocks
pub units_of_blocks : (blocks atom : ℕ) → IsAtom atom → blocks * atom / 512 ≡ blocks * (atom / 512)
units_of_blocks blocks atom (inl is) = rw is (omega arith)
units_of_blocks blocks atom (inr is) = rw is (omega arith)

-- a disk has few atoms
pub few_atoms : (atom atoms : ℕ) → IsDisk atom atoms → atoms < 2 ^ 63
few_atoms atom atoms disk = elim disk.known [
  | inl is ↦
      (let fits : atoms * 512 < 2 ^ 63 = subst (λ n. atoms * n < 2 ^ 63) is disk.fits in
      omega (arith, fits))
  | inr is ↦
      (let fits : atoms * 4096 < 2 ^ 63 = subst (λ n. atoms * n < 2 ^ 63) is disk.fits in
      omega (arith, fits))
]
