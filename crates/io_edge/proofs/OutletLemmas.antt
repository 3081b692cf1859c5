-- What stands at the end of a text.
use Rattle.std.proofs.Common.{◌≤◌, ℕ, List, [], ◌++◌, length, take, drop, sym}
use Rattle.std.proofs.Common.{append-nil, Result, Ok, Err, arith}
use Rattle.std.proofs.lemmas.List.{drop_all}
use Rattle.io_edge.specs.Outlet.{IsRear, HoldsBackRear}

-- nothing is a rear of every text
pub rear_of_none : (text : List ℕ) → IsRear [] text
rear_of_none text = (text, sym (append-nil text))

-- what stands behind the end of a text is a rear of every text
pub rear_behind : (n : ℕ) (text bytes : List ℕ) → length bytes ≤ n → IsRear (drop n bytes) text
rear_behind n text bytes behind = rw (drop_all n bytes behind) (rear_of_none text)

-- a stream that holds nothing back
pub holds_nothing : {T E : Type 0} (old piece : List ℕ) (result : Result T E) →
    HoldsBackRear old [] piece result
holds_nothing old piece (Ok value) = rear_of_none (old ++ piece)
holds_nothing old piece (Err error) = (0, omega arith, rear_of_none (old ++ take 0 piece))
