-- What is had of clients, and why none is.
use Rattle.std.specs.Prelude.{ℕ, pos, ◌≡◌, ◌⊎◌, List, Bool, true, false}
use Rattle.std.specs.Prelude.{Option, Some, option_map, Result, Ok, Err, IsErrAnd}
use Rattle.std.specs.IoError.{error_kind, raw_os_error}
use Rattle.std.specs.declared.io.Error.{Error}
use Rattle.std.specs.declared.io.ErrorKind.TheVariants.{OutOfMemory, TimedOut}
use Rattle.host_edge.specs.declared.streams.HostReader.{HostReader}
use Rattle.host_edge.specs.declared.streams.HostWriter.{HostWriter}
use Rattle.host_edge.specs.declared.watch.Watch.{Watch}

-- the watch on a client once it is through the negotiation
abbrev pub settled : {C : Type 0} → Option (Watch C) → Option (Watch C)
settled {C} watch = option_map {T = Watch C} (λ w. record w { is_settled = true }) watch

-- a read of a client is one of its stream; or the client is dropped unread, where it is watched and
-- not through the negotiation
abbrev pub ReadsInTime : {S : Type 0} → (S → List ℕ → Result ℕ Error → S → Type 0) → S →
    Option Bool → List ℕ → Result ℕ Error → S → Type 0
ReadsInTime reads old is_settled buf answer new = reads old buf answer new
    ⊎ ((is_settled ≡ Some false) × (new ≡ old)
    × IsErrAnd answer (λ error. error_kind error ≡ TimedOut))

-- the system wants what it may have again later: memory; descriptors, in all (ENFILE) or for this
-- program (EMFILE); or room for a socket (ENOBUFS)
abbrev pub Passes : Error → Type 0
Passes error = (error_kind error ≡ OutOfMemory) ⊎ ((raw_os_error error ≡ Some (pos 23))
    ⊎ ((raw_os_error error ≡ Some (pos 24)) ⊎ (raw_os_error error ≡ Some (pos 105))))

-- no client is had of a listener, by this error: it refused one, or one was met and memory was wanted
-- for its connection
abbrev pub MeetsNobody : {L : Type 0} → (L → Result (HostReader × HostWriter) Error → Type 0) → L →
    Error → Type 0
MeetsNobody meets listener error = meets listener (Err error)
    ⊎ ((error_kind error ≡ OutOfMemory)
    × ((ends : HostReader × HostWriter) × meets listener (Ok ends)))
