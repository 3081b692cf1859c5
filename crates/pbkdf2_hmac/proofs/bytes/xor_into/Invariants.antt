use Rattle.std.proofs.Common.{◌≡◌, ◌++◌, take, drop}
use Rattle.pbkdf2_hmac.specs.Xor.{xor_bytes}
use Rattle.pbkdf2_hmac.proofs.bytes.xor_into.Given as goal

abbrev pub invariant-bytes : goal.invariant-bytes
invariant-bytes l =
    l.target ≡ take l.i (xor_bytes l.initial.target l.other) ++ drop l.i l.initial.target
