use Rattle.std.proofs.Common.{◌≡◌, ℕ, List, length, drop, Some}
use Rattle.luks_slots.specs.Devices.{IsUnwritten}
use Rattle.luks_slots.specs.Unlocks.{first_key}
use Rattle.luks_slots.proofs.passphrase.Attempt.try_all.Given as goal

abbrev pub invariant-loop-i : goal.invariant-loop-i
invariant-loop-i g l = record {
  unwritten : IsUnwritten (g.D.Disk.device l.initial.disk) (g.D.Disk.device l.disk);
  buffer : length l.buffer ≡ length l.initial.buffer;
  none : (image : List ℕ) → (g.D.Disk.device l.initial.disk).values ≡ Some image
      → first_key l.self.parts.now l.self.digest.now image l.self.pass.now l.rank (drop l.i l.slots)
      ≡ first_key l.self.parts.now l.self.digest.now image l.self.pass.now l.rank l.slots;
}
