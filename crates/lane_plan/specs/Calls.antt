-- What a plan calls for as the events of a lane, and what it is told as their outcomes.
use Rattle.std.specs.Prelude.{ℕ, length, take}
use Rattle.plain_disk.specs.declared.operation.Op.{Op}
use Rattle.plain_disk.specs.declared.operation.Op.TheVariants as Ops
use Rattle.lane_plan.specs.declared.calls.Answer.{Answer}
use Rattle.lane_plan.specs.declared.calls.Answer.TheVariants as Answers
use Rattle.lane_plan.specs.declared.calls.Call.{Call}
use Rattle.lane_plan.specs.declared.calls.Call.TheVariants as Calls
use Rattle.volume_machine.specs.Events.{Event, admits, asks, reads, writes, settles, finishes}
use Rattle.volume_machine.specs.Events.{Outcome, held, waits, refused, got, done, device, broken}
use Rattle.volume_machine.specs.declared.ask.Ask.{Ask}
use Rattle.volume_machine.specs.declared.ask.Ask.TheVariants.{Read, Write, Flush}

-- what an operation asks for: zeroes, as a write of so many bytes
abbrev pub ask_of : Op → Ask
ask_of (Ops.Read offset len) = Read offset len
ask_of (Ops.Write offset body fua) = Write offset (length body) fua
ask_of (Ops.Zeroes offset len fua) = Write offset len fua
ask_of Ops.Flush = Flush

-- a call on a lane as an event
abbrev pub event_of : ℕ → Call → Event
event_of lane (Calls.Admit session ask) = admits lane session ask
event_of lane Calls.Ask = asks lane
event_of lane (Calls.Read buffer len) = reads lane len
event_of lane (Calls.Write prepared) = writes lane prepared.bytes
event_of lane Calls.Settle = settles lane
event_of lane Calls.Finish = finishes lane

-- an answer as its outcome
abbrev pub outcome_of : Answer → Outcome
outcome_of (Answers.Held grant) = held grant
outcome_of (Answers.Waiting lane) = waits lane
outcome_of (Answers.Refused number) = refused number
outcome_of (Answers.Got buffer len) = got (take len buffer)
outcome_of (Answers.Written buffer) = done
outcome_of Answers.Done = done
outcome_of Answers.Device = device
outcome_of Answers.Broken = broken
