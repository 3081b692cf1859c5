-- The worker of the conversion, whose pass is split off the first one behind those of all links'
-- workers, and joined back behind them.
use Rattle.std.specs.Prelude.{ℕ, ◌≡◌, ◌≤◌, List, [], ◌∷◌, Contains, length, Option, Some, None}
use Rattle.reenc_worker.specs.Answers.{AreAnswers}
use Rattle.reenc_worker.specs.declared.ends.WorkAnswer.{WorkAnswer}
use Rattle.reenc_worker.specs.declared.ends.WorkAnswer.TheVariants.{Ended}
use Rattle.reenc_worker.specs.declared.ends.WorkerEnd.{WorkerEnd}
use Rattle.reenc_worker.specs.declared.ends.WorkerEnd.TheVariants.{Spent}
use Rattle.shared_volume.specs.Ciphers.{Context}
use Rattle.shared_volume.specs.Lanes.{Knowing}
use Rattle.shared_volume.specs.Working.{AreAnswered, IsWorkerOf}
use Rattle.shared_volume.specs.Works.{VolumeCell}
use Rattle.shared_volume.specs.declared.asking.SharedEvent.{SharedEvent}
use Rattle.shared_volume.specs.declared.asking.SharedOutcome.{SharedOutcome}
use Rattle.volume_cell.specs.Histories.{Begins, account}
use Rattle.volume_cell.specs.Knowing.{having_joined, having_split}
use Rattle.volume_cell.specs.Passes.{IsPassOf, known}
use Rattle.volume_cell.specs.declared.knowledge.Account.{Account}
use Rattle.volume_machine.specs.States.{State}
use Rattle.volume_machine.specs.declared.keys.Keys.{Keys}
use Rattle.block_server.specs.declared.leading.Led.{Led}

module _ {D : Type 0} where
  -- how many passes it has, and the accounts of their calls
  abbrev pub passes_of : Option (Led D) → ℕ
  passes_of None = 0
  passes_of (Some led) = 1

  abbrev pub accounts_of : Option (Led D) → List (Account SharedEvent SharedOutcome)
  accounts_of None = []
  accounts_of (Some led) = account (known led.pass).name (known led.pass).calls ∷ []

  module _ {P : Type 0} (cell : VolumeCell D Context P) (number : ℕ) where
    -- On the last lane, which has this number, it called for one step after the other, until it was
    -- answered its end. It was answered that it is spent only since the history was full.
    pub record HasLed (start : Option (State (Keys Context))) (led : Led D) : Type 0 where
      pub pass : IsPassOf cell led.pass
      pub worker : IsWorkerOf (known led.pass) number
      pub start_is : (known led.pass).start ≡ start
      pub answers : List WorkAnswer
      pub answered : AreAnswered number (known led.pass).calls answers
      pub ended : AreAnswers led.end answers
      pub full : Contains answers (Ended Spent) → cell.limit ≤ length (known led.pass).history

    -- where there is one its pass was split off the first one, and else no other was
    abbrev pub AreSplit : Knowing Context → Knowing Context → Option (Led D) → Type 0
    AreSplit v w None = w ≡ v
    AreSplit v w (Some led) = (w ≡ having_split v) × HasLed v.start led

    -- its pass can be joined
    pub record MayRejoin (led : Led D) : Type 0 where
      pub pass : IsPassOf cell led.pass
      pub name : (known led.pass).name ≡ number ∷ []
      pub joined : (known led.pass).joined ≡ []
      pub whole : (known led.pass).away ≡ []

  -- how it ended
  abbrev pub end_of : Option (Led D) → Option WorkerEnd
  end_of None = None
  end_of (Some led) = Some led.end

  -- where there is one its pass was joined into the first one, and else no other was
  pub record HasRejoined (v w : Knowing Context) (led : Led D) : Type 0 where
    pub joined : w ≡ having_joined v (known led.pass)
    pub own : Begins v.history w.history
    pub its : Begins (known led.pass).history w.history

  abbrev pub AreRejoined : Knowing Context → Knowing Context → Option (Led D) → Type 0
  AreRejoined v w None = w ≡ v
  AreRejoined v w (Some led) = HasRejoined v w led
