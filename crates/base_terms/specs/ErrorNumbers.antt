-- The numbers of the errors that a client is answered, as the NBD protocol document gives them.
use Rattle.std.specs.Prelude.{ℕ}

-- a device failed
abbrev pub device_error : ℕ
device_error = 5

-- memory is wanted
abbrev pub no_memory : ℕ
no_memory = 12

-- an argument is invalid
abbrev pub invalid : ℕ
invalid = 22

-- there is no space
abbrev pub no_space : ℕ
no_space = 28
