-- The outcomes that the answers of calls tell, and what else they give.
use Rattle.std.specs.Prelude.{ℕ, ◌≡◌, List, take, Bool, nat_eq}
use Rattle.segment_map.specs.declared.map.Map.{Map}
use Rattle.segment_map.specs.Sides.{left_of}
use Rattle.volume_machine.specs.Events.{Outcome, held, waits, refused, got, done, device, broken}
use Rattle.volume_core.specs.declared.answers.Admitted.{Admitted}
use Rattle.volume_core.specs.declared.answers.Admitted.TheVariants as Admit
use Rattle.volume_core.specs.declared.answers.Asked.{Asked}
use Rattle.volume_core.specs.declared.answers.Asked.TheVariants as Ask
use Rattle.volume_core.specs.declared.answers.PieceRead.{PieceRead}
use Rattle.volume_core.specs.declared.answers.PieceRead.TheVariants as Read
use Rattle.volume_core.specs.declared.answers.PieceWritten.{PieceWritten}
use Rattle.volume_core.specs.declared.answers.PieceWritten.TheVariants as Write
use Rattle.volume_core.specs.declared.answers.Settled.{Settled}
use Rattle.volume_core.specs.declared.answers.Settled.TheVariants as Settle

abbrev pub outcome_of_admitted : Admitted → Outcome
outcome_of_admitted (Admit.Held grant) = held grant
outcome_of_admitted (Admit.Waiting lane) = waits lane
outcome_of_admitted (Admit.Refused number) = refused number

abbrev pub outcome_of_asked : Asked → Outcome
outcome_of_asked (Ask.Held grant) = held grant
outcome_of_asked (Ask.Waiting lane) = waits lane

-- of a read of so many bytes
abbrev pub outcome_of_read : ℕ → PieceRead → Outcome
outcome_of_read len (Read.Got buffer) = got (take len buffer)
outcome_of_read len (Read.Device buffer) = device
outcome_of_read len (Read.Broken buffer) = broken

abbrev pub outcome_of_written : PieceWritten → Outcome
outcome_of_written (Write.Done bytes) = done
outcome_of_written (Write.Device bytes) = device
outcome_of_written (Write.Broken bytes) = broken

abbrev pub outcome_of_settled : Settled → Outcome
outcome_of_settled Settle.Done = done
outcome_of_settled Settle.Device = device
outcome_of_settled Settle.Broken = broken

-- the buffer that a call gives back
abbrev pub buffer_of_read : PieceRead → List ℕ
buffer_of_read (Read.Got bytes) = bytes
buffer_of_read (Read.Device bytes) = bytes
buffer_of_read (Read.Broken bytes) = bytes

abbrev pub buffer_of_written : PieceWritten → List ℕ
buffer_of_written (Write.Done bytes) = bytes
buffer_of_written (Write.Device bytes) = bytes
buffer_of_written (Write.Broken bytes) = bytes

-- a read that finds the volume broken gives its buffer back as it was
abbrev pub KeepsBuffer : List ℕ → PieceRead → Type 0
KeepsBuffer before (Read.Got bytes) = Unit {0}
KeepsBuffer before (Read.Device bytes) = Unit {0}
KeepsBuffer before (Read.Broken bytes) = bytes ≡ before

-- whether no old block is left
abbrev pub is_idle : Map → Bool
is_idle map = nat_eq (left_of map.direction map.blocks map.boundary) 0
