-- Calls of lanes, and what each may be answered by its kind alone.
use Rattle.std.specs.Prelude.{◌≡◌, ◌≤◌, length}
use Rattle.lane_plan.specs.declared.calls.Answer.{Answer}
use Rattle.lane_plan.specs.declared.calls.Answer.TheVariants as Answers
use Rattle.lane_plan.specs.declared.calls.Call.{Call}
use Rattle.lane_plan.specs.declared.calls.Call.TheVariants as Calls

-- a piece is read into a buffer that is long enough
abbrev pub HasFront : Call → Type 0
HasFront (Calls.Read buffer len) = len ≤ length buffer
HasFront _ = Unit {0}

-- The answer is one of this kind of call. A buffer comes back as long as it was, and a piece is read
-- into as many of its bytes as were asked for.
abbrev pub IsAnswerOf : Call → Answer → Type 0
IsAnswerOf (Calls.Admit session ask) (Answers.Held grant) = Unit {0}
IsAnswerOf (Calls.Admit session ask) (Answers.Waiting lane) = Unit {0}
IsAnswerOf (Calls.Admit session ask) (Answers.Refused number) = Unit {0}
IsAnswerOf Calls.Ask (Answers.Held grant) = Unit {0}
IsAnswerOf Calls.Ask (Answers.Waiting lane) = Unit {0}
IsAnswerOf (Calls.Read buffer len) (Answers.Got back n) = (n ≡ len)
    × (length back ≡ length buffer)
IsAnswerOf (Calls.Read buffer len) Answers.Device = Unit {0}
IsAnswerOf (Calls.Read buffer len) Answers.Broken = Unit {0}
IsAnswerOf (Calls.Write prepared) (Answers.Written back) = length back ≡ prepared.room
IsAnswerOf (Calls.Write prepared) Answers.Device = Unit {0}
IsAnswerOf (Calls.Write prepared) Answers.Broken = Unit {0}
IsAnswerOf Calls.Settle Answers.Done = Unit {0}
IsAnswerOf Calls.Settle Answers.Device = Unit {0}
IsAnswerOf Calls.Settle Answers.Broken = Unit {0}
IsAnswerOf Calls.Finish Answers.Done = Unit {0}
IsAnswerOf _ _ = ⊥
