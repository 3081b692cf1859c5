use Rattle.std.proofs.Common.{◌≡◌, ℕ}
use Rattle.plain_disk.specs.declared.operation.Op.{Op}
use Rattle.volume_cell.specs.Passes.{IsPassOf, IsSamePass, known}
use Rattle.shared_volume.specs.Executing.{IsAt, IsPlanFor}
use Rattle.shared_volume.specs.Lanes.{IsLaneOf}
use Rattle.shared_volume.specs.Ciphers.{sector_of, sealed, opened}
use Rattle.shared_volume.proofs.lane.Lane.carry_out.Given as goal

abbrev pub invariant-loop : goal.invariant-loop
invariant-loop g l = record {
  pass : IsPassOf l.fn.shared.cell l.self.pass;
  lane : IsLaneOf sector_of (known l.self.pass) l.self.number l.self.keys l.self.shape;
  same : IsSamePass (known l.fn.self.pass) (known l.self.pass);
  number : l.self.number ≡ l.fn.self.number;
  keys : l.self.keys ≡ l.fn.self.keys;
  shape : l.self.shape ≡ l.fn.self.shape;
  at : (session : ℕ) (op : Op) → IsPlanFor l.fn.self.shape l.fn.plan session op
      → IsAt sealed opened l.fn.shared.cell.limit l.fn.self.number
      l.fn.self.shape l.plan session op (known l.fn.self.pass) (known l.self.pass) l.next;
}
