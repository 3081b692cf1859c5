-- What came of asking a link for its next connection.
use Rattle.std.specs.Prelude.{ℕ, ◌≡◌, ◌+◌, ◌≤◌, List, [], ◌∷◌, ◌++◌, map}
use Rattle.base_terms.specs.Causes.{Rose}
use Rattle.bays.specs.Stories.{HasNoneAhead, LinkState}
use Rattle.nbd_session.specs.declared.ending.SessionEnd.{SessionEnd}
use Rattle.nbd_hand.specs.declared.export.Export.{Export}
use Rattle.block_server.specs.declared.connection.Asked.{Asked}
use Rattle.block_server.specs.declared.connection.Asked.TheVariants.{Served, Ended, Failed, Memory}
use Rattle.block_server.specs.Sessions.{Played, AreSessions, Goes}

abbrev pub AskedCase : Export → ℕ → LinkState → LinkState → Asked → List Played → Type 0
AskedCase export k old new Served played =
    (one : Played) × (played ≡ one ∷ []) × (one.link ≡ k) × (one.end.number ≡ export.number)
    × (new.bound + 1 ≡ old.bound) × (new.faults ≡ old.faults)
AskedCase export k old new Ended played =
    (played ≡ []) × HasNoneAhead new × (new.bound ≡ old.bound) × (new.faults ≡ old.faults)
AskedCase export k old new Failed played =
    (played ≡ []) × Rose old.faults new.faults × (new.bound ≡ old.bound)
AskedCase export k old new Memory played = (played ≡ []) × (new ≡ old)

-- a link of the number `k` was asked
pub record AskedIs (export : Export) (may_spend : Type 0) (k : ℕ) (old new : LinkState)
    (old_ends new_ends : List SessionEnd)
    (result : Asked) (played : List Played) : Type 0 where
  pub sessions : AreSessions export may_spend played
  pub goes : Goes old new played
  pub ends : new_ends ≡ old_ends ++ map (λ one. one.end) played
  pub lent : new.lent ≡ old.lent
  pub later : old.faults ≤ new.faults
  pub by_case : AskedCase export k old new result played
