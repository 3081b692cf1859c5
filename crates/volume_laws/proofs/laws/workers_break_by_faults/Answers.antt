use Rattle.volume_laws.proofs.WorkFaults.{goes_by_answer}
use Rattle.volume_laws.proofs.laws.workers_break_by_faults.Goals as goal

pub returns : goal.returns
returns c _ = λ reading seals old new worked. goes_by_answer reading seals worked
