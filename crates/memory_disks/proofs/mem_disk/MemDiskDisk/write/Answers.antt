use Rattle.std.proofs.Common.{refl, ap, Some}
use Rattle.memory_disks.specs.Mem.{device_of}
use Rattle.sector_disk.proofs.StepLemmas.{tried_call}
use Rattle.memory_disks.proofs.mem_disk.MemDiskDisk.write.Goals as goal

pub returns-then-is_failing-clause-call : goal.returns-then-is_failing-clause-call
returns-then-is_failing-clause-call c =
    let faults = ap (λ limits. limits.plan.faults) c.keep.ensures.limits in
    tried_call _ _ (device_of c.args.self.now) (device_of c.keep.new.self) _ _ c.keep.ensures.atom
    c.keep.ensures.atoms c.keep.ensures.tail (ap (λ bytes. Some bytes) c.keep.ensures.bytes) refl
    (ap (λ told. Some told) c.keep.ensures.told) (rw faults c.is_failing.ensures.later)
    (rw faults (c.is_failing.ensures.rose c.if-is_failing.true))
