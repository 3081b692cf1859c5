-- What is put of one text.
use Rattle.std.specs.Prelude.{ℕ, ◌≡◌, ◌+◌, ◌≤◌, List, [], ◌++◌, length, Result, MatchResult}
use Rattle.base_terms.specs.declared.failed.Failed.{Failed}
use Rattle.base_terms.specs.Causes.{Rose}
use Rattle.io_edge.specs.Outlet.{Outlet}
use Rattle.nbd_stream.specs.Counts.{capped}
use Rattle.nbd_stream.specs.Traffic.{Sent}

-- Of this text these pieces were put whole, and this front of the piece that failed may have gone
-- out: all of the text, or a front of it where the sink failed.
pub record Puts {T : Type 0} (old new : Outlet) (old_put new_put : ℕ) (text : List ℕ)
    (result : Result T Failed)
    (whole front : List ℕ) : Type 0 where
  pub sent : Sent old new (whole ++ front)
  pub later : old.faults ≤ new.faults
  pub put : capped new_put ≡ capped (old_put + length whole)
  pub by_case : MatchResult result (λ _. (whole ≡ text) × (front ≡ []) × (new.faults ≡ old.faults))
      (λ _. Rose old.faults new.faults × ((rest : List ℕ) × (text ≡ whole ++ (front ++ rest))))

-- a sink holds nothing back: all that it was put has gone out
abbrev pub IsOut : Outlet → Type 0
IsOut sink = sink.held_back ≡ []
