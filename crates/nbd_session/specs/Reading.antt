-- An input is read in one way.
use Rattle.std.specs.Prelude.{ℕ, ◌≡◌, true, List, [], ◌++◌}
use Rattle.nbd_stream.specs.declared.ending.Ending.{Ending}
use Rattle.nbd_stream.specs.Endings.{IsByInput}
pub use Rattle.nbd_session.specs.Asking.{Asked}
unfoldable pub use Rattle.nbd_session.specs.Asking.{asked_of}
use Rattle.nbd_session.specs.Session.{Log, IsInput}

-- a session with this log and this ending takes its bytes from the front of an input
pub record Reads (log : Log) (ending : Ending) (input : List ℕ) : Type 0 where
  pub rest : List ℕ
  pub parts : input ≡ log.taken ++ rest
  pub at_end : log.ended ≡ true → rest ≡ []
  pub by_input : IsByInput ending
  pub is_input : IsInput log.stage log ending

-- two logs tell of the same reading
pub record AreOneReading (log log' : Log) : Type 0 where
  pub stage : log.stage ≡ log'.stage
  pub flags : log.flags ≡ log'.flags
  pub options : log.options ≡ log'.options
  pub last : log.last ≡ log'.last
  pub asked : asked_of log.turns ≡ asked_of log'.turns
  pub taken : log.taken ≡ log'.taken

-- two sessions with one input come equally far, have the same flags and options, are asked the
-- same, end in the same way and take the same bytes
abbrev pub ReadsOnce : Type 0
ReadsOnce =
    (log log' : Log) (ending ending' : Ending) (input : List ℕ) → Reads log ending input →
    Reads log' ending' input →
    AreOneReading log log' × (ending ≡ ending')
