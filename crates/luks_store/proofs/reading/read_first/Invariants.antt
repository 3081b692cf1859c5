use Rattle.std.proofs.Common.{◌≡◌, ℕ, List, drop, Some}
use Rattle.sector_disk.specs.JoinedDisks.Counts.{joint_in, sizes_of}
use Rattle.luks_store.specs.Devices.{device_of, front_of, IsUnwritten}
use Rattle.luks_store.specs.Found.{first_at}
use Rattle.luks_store.proofs.reading.read_first.Given as goal

abbrev pub invariant-loop-i : goal.invariant-loop-i
invariant-loop-i g l = record {
  unwritten : IsUnwritten (joint_in l.initial.disk) (joint_in l.disk);
  sizes : sizes_of l.disk ≡ sizes_of l.initial.disk;
  none : (all : List ℕ) → (device_of l.initial.disk).values ≡ Some all
      → first_at (drop l.i l.places) (front_of (sizes_of l.initial.disk) all)
      ≡ first_at l.places (front_of (sizes_of l.initial.disk) all);
}
