-- Reads that a signal interrupted, and the last one.
use Rattle.std.proofs.Common.{◌≡◌, ℕ, suc, ◌+◌, List, Result, arith}
use Rattle.std.specs.declared.io.Error.{Error}
use Rattle.io_edge.specs.Calls.{IsInterrupted, ReadsInVain}

-- one more read in vain
pub in_vain_more : {S : Type 0} (reads : S → List ℕ → Result ℕ Error → S → Type 0) (n : ℕ)
    (old mid new : S) (buf : List ℕ) (answer : Result ℕ Error) → ReadsInVain reads n old mid →
    IsInterrupted answer → reads mid buf answer new → ReadsInVain reads (n + 1) old new
unfolding ReadsInVain
in_vain_more reads n old mid new buf answer before interrupted read =
    let next : n + 1 ≡ suc n = omega arith in
    rw next (mid, before, (buf, answer, interrupted, read))
