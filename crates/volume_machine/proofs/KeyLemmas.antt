-- What the bytes of a piece are to the key of its side.
use Rattle.std.proofs.Common.{ap, arith, mul-le-mul_right, sym, ℕ, ◌%◌, ◌*◌, ◌+◌, ◌/◌, ◌∙◌, ◌≡◌}
use Rattle.std.proofs.Common.{◌≤◌}
use Rattle.std.proofs.Math.Nat.{mod-add-div', mul-mod_left}
use Rattle.std.proofs.lemmas.Nat.{mul-mod_second}
use Rattle.segment_map.specs.declared.Side.{Side}
use Rattle.segment_map.specs.declared.Side.TheVariants.{New, Old, Zone}
use Rattle.volume_machine.specs.Seals.{KeysFit, key_of}
use Rattle.volume_machine.specs.declared.keys.Keys.{Keys}

-- blocks are whole sectors where a block is
pub whole-blocks : (count atom sector : ℕ) → atom % sector ≡ 0 → (count * atom) % sector ≡ 0
whole-blocks count atom sector whole = sym (mul-mod_second count atom sector)
    ∙ rw whole (let none : count * 0 ≡ 0 * sector = omega arith in rw none (mul-mod_left 0 sector))

-- and so are as many bytes as some blocks have
pub whole-atoms : (len atom sector : ℕ) → len % atom ≡ 0 → atom % sector ≡ 0 → len % sector ≡ 0
whole-atoms len atom sector whole sectors =
    let is : len ≡ len / atom * atom = sym (mod-add-div' len atom)
    ∙ ap (λ (rest : ℕ). rest + len / atom * atom) whole ∙ omega arith in
    ap (λ (n : ℕ). n % sector) is ∙ whole-blocks (len / atom) atom sector sectors

-- a block is whole sectors of either side
pub side-sectors : {C : Type 0} (sector : C → ℕ) (keys : Keys C) (atom blocks : ℕ) (side : Side)
    → KeysFit sector keys atom blocks → atom % sector (key_of keys side) ≡ 0
side-sectors sector keys atom blocks Old fit = fit.old_sector
side-sectors sector keys atom blocks Zone fit = fit.old_sector
side-sectors sector keys atom blocks New fit = fit.new_sector

pub side-whole : {C : Type 0} (sector : C → ℕ) (keys : Keys C) (atom blocks len count : ℕ)
    (side : Side) → KeysFit sector keys atom blocks →
    len ≡ count * atom → len % sector (key_of keys side) ≡ 0
side-whole sector keys atom blocks len count Old fit size =
    rw size (whole-blocks count atom (sector keys.old) fit.old_sector)
side-whole sector keys atom blocks len count Zone fit size =
    rw size (whole-blocks count atom (sector keys.old) fit.old_sector)
side-whole sector keys atom blocks len count New fit size =
    rw size (whole-blocks count atom (sector keys.new) fit.new_sector)

-- the numbers of fewer blocks fit too
pub fewer-blocks : {C : Type 0} (sector : C → ℕ) (keys : Keys C) (atom blocks n : ℕ) → n ≤ blocks
    → KeysFit sector keys atom blocks → KeysFit sector keys atom n
fewer-blocks sector keys atom blocks n few fit =
    let less : n * (atom / 512) ≤ blocks * (atom / 512) = mul-le-mul_right (atom / 512) few in
    record {
      old_sector = fit.old_sector;
      new_sector = fit.new_sector;
      old_numbers = omega arith;
      new_numbers = omega arith;
    }
