-- Steps of a volume's worker alone, one after the other, and what its calls were answered by them.
use Rattle.std.specs.Prelude.{◌≡◌, List, map}
use Rattle.reenc_worker.specs.declared.ends.NoFit.TheVariants.{JsonFull, SeqEnd}
use Rattle.reenc_worker.specs.declared.ends.WorkAnswer.{WorkAnswer}
use Rattle.reenc_worker.specs.declared.ends.WorkAnswer.TheVariants.{Ended, Stepped, Waiting}
use Rattle.reenc_worker.specs.declared.ends.WorkerEnd.{WorkerEnd}
use Rattle.reenc_worker.specs.declared.ends.WorkerEnd.TheVariants as ends
use Rattle.volume_machine.specs.Deeds.{AreDeeds, Deed, state_after, worker}
use Rattle.volume_machine.specs.Readings.{Reading}
use Rattle.volume_machine.specs.Seals.{Seals}
use Rattle.volume_machine.specs.States.{State}
use Rattle.volume_machine.specs.WorkSteps.{Hindrance, Worked, awaits, clashes, faulted, finished}
use Rattle.volume_machine.specs.WorkSteps.{hindered, no_memory, no_number, no_room, stepped}
use Rattle.volume_machine.specs.WorkSteps.{was_broken}

-- how a worker ends by what hinders a zone, or the finish
abbrev pub end_by : Hindrance → WorkerEnd
end_by (clashes block digest) = ends.Clash block digest
end_by (no_number left needed) = ends.NoFit (SeqEnd left needed)
end_by (no_room length limit) = ends.NoFit (JsonFull length limit)
end_by no_memory = ends.Memory

-- what a call is answered by its step
abbrev pub told_by : Worked → WorkAnswer
told_by stepped = Stepped
told_by (awaits lane) = Waiting
told_by finished = Ended ends.Finished
told_by faulted = Ended ends.Device
told_by (hindered cause) = Ended (end_by cause)
told_by was_broken = Ended ends.Broken

-- From an old state to a new one the worker made these steps, by which its calls were answered so,
-- and nothing else was done.
pub record HasWorked {K : Type 0} (reading : Reading) (seals : Seals) (old new : State K)
    (answers : List WorkAnswer) : Type 0 where
  pub works : List Worked
  pub deeds : List (Deed K)
  pub are : AreDeeds reading seals old deeds
  pub last : state_after old deeds ≡ new
  pub acts : map (λ deed. deed.act) deeds ≡ map worker works
  pub answered : map told_by works ≡ answers
