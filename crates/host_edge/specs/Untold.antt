-- What the machine's bay and its links tell: their counts, and nothing else.
use Rattle.std.specs.Prelude.{ℕ, ◌≡◌, ◌≢◌, None}
use Rattle.std.specs.IoError.{error_kind}
use Rattle.std.specs.declared.io.Error.{Error}
use Rattle.std.specs.declared.io.ErrorKind.TheVariants.{OutOfMemory}
use Rattle.bays.specs.declared.bay.BayFault.{BayFault}
use Rattle.bays.specs.declared.bay.BayFault.TheVariants.{Failed, Memory}
use Rattle.bays.specs.Bays.{Holdings}
use Rattle.bays.specs.Stories.{LinkState}
use Rattle.io_edge.specs.FaultPlan.{counted}

abbrev pub untold_bay : {D : Type 0} → ℕ → Holdings D
untold_bay faults =
    record { shelf = λ _. None; keyring = λ _. None; inputs = λ _. None; faults = faults }

-- a link with so many sessions to come and so many connections lent
abbrev pub untold_link : ℕ → ℕ → ℕ → LinkState
untold_link left lent faults = record { story = None; bound = left; lent = lent; faults = faults }

-- each failure counts one, up to the count's last value
abbrev pub CountsOne : BayFault → ℕ → ℕ → Type 0
CountsOne Failed before now = now ≡ counted before
CountsOne Memory before now = now ≡ before

-- memory was wanted exactly where the system says so
abbrev pub FaultIs : BayFault → Error → Type 0
FaultIs Failed error = error_kind error ≢ OutOfMemory
FaultIs Memory error = error_kind error ≡ OutOfMemory
