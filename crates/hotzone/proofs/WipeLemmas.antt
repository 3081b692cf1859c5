-- The areas that are filled with zeros: where they lie, and what is written to them.
use Rattle.std.proofs.Common.{◌≡◌, ℕ, ◌/◌, ◌<◌, ◌≤◌, length, replicate, take, ap, ◌∙◌}
use Rattle.std.proofs.Common.{arith}
use Rattle.std.proofs.lemmas.List.{length-replicate, take-replicate}
use Rattle.std.proofs.lemmas.Nat.{div-add-mod'}
use Rattle.hotzone.specs.Endings.{AreWipable, area_at}
use Rattle.hotzone.specs.declared.worker.Wipes.{Wipes}
use Rattle.sector_disk.specs.Devices.{Device}
use Rattle.sector_disk.specs.Geometry.{IsInDisk}

-- there are as many zeros as it has bytes
pub zeros-enough : (wipes : Wipes) (disk : Device) (done : ℕ) → AreWipable wipes disk
    → done < length wipes.areas → (area_at wipes done).size ≤ length wipes.zeros
zeros-enough wipes disk done may some =
    let enough = may.zeros.enough done (record { offset = 0; size = 0 }) some in
    let long = ap length may.zeros.zeros ∙ length-replicate may.zeros.most 0 in
    omega (arith, enough, long)

pub zeros-of : (wipes : Wipes) (disk : Device) (done : ℕ) → AreWipable wipes disk
    → done < length wipes.areas
    → take (area_at wipes done).size wipes.zeros ≡ replicate (area_at wipes done).size 0
zeros-of wipes disk done may some =
    ap (take (area_at wipes done).size) may.zeros.zeros
    ∙ take-replicate (area_at wipes done).size may.zeros.most 0
    (may.zeros.enough done (record { offset = 0; size = 0 }) some)

-- it lies on the disk in whole atoms
pub area-inside : (wipes : Wipes) (disk : Device) (done : ℕ) → AreWipable wipes disk
    → done < length wipes.areas
    → IsInDisk disk.size disk.atoms ((area_at wipes done).offset / disk.size)
    (area_at wipes done).size
area-inside wipes disk done may some =
    let area = area_at wipes done in
    let is = may.areas done (record { offset = 0; size = 0 }) some in record {
      whole = is.size;
      within = (let cut = div-add-mod' area.offset disk.size in
          let whole = is.offset in
          let fits = is.within in
          omega (arith, cut, whole, fits));
    }
