-- What the calls of a worker answered that ended so.
use Rattle.std.specs.Prelude.{◌≡◌, ◌-◌, ◌<◌, ◌^◌, List, [], ◌∷◌, ◌++◌, All, length}
use Rattle.reenc_worker.specs.declared.ends.WorkAnswer.{WorkAnswer}
use Rattle.reenc_worker.specs.declared.ends.WorkAnswer.TheVariants.{Stepped, Waiting, Ended}
use Rattle.reenc_worker.specs.declared.ends.WorkerEnd.{WorkerEnd}
use Rattle.reenc_worker.specs.declared.ends.WorkerEnd.TheVariants.{Spent}

-- another call follows
abbrev pub GoesOn : WorkAnswer → Type 0
GoesOn Stepped = Unit {0}
GoesOn Waiting = Unit {0}
GoesOn (Ended end) = ⊥

-- All calls but the last one went on, and that one was answered by the end. Where all went on, they
-- are as many as a worker makes, and it is spent.
pub data AreAnswers (end : WorkerEnd) : List WorkAnswer → Type 0 where
  ended : (went : List WorkAnswer) → All GoesOn went → length went < 2 ^ 64 - 1
      → AreAnswers end (went ++ Ended end ∷ [])
  exhausted : (went : List WorkAnswer) → All GoesOn went → length went ≡ 2 ^ 64 - 1
      → end ≡ Spent → AreAnswers end went
