-- Histories: what was asked of one machine, by whom and in which order, and what it answered.
use Rattle.std.specs.Prelude.{◌≡◌, ℕ, Bool, false, if◌then◌else◌, ◌||◌, List, [], ◌∷◌, ◌++◌, Option}
use Rattle.std.specs.Prelude.{Some}
use Rattle.std.specs.Str.{bytes_eq}
use Rattle.volume_cell.specs.declared.history.Call.{Call}
use Rattle.volume_cell.specs.declared.history.Entry.{Entry}
use Rattle.volume_cell.specs.declared.knowledge.Account.{Account}
use Rattle.volume_cell.specs.declared.held.Note.{Note}

-- whether two names are the same
abbrev pub is_same : List ℕ → List ℕ → Bool
is_same = bytes_eq

-- the second list begins with the first
pub record Begins {X : Type 0} (earlier later : List X) : Type 0 where
  pub rest : List X
  pub is : later ≡ earlier ++ rest

module _ {E O : Type 0} where
  abbrev pub call : E → O → Call E O
  call e o = record { event = e; outcome = o }

  abbrev pub entry : List ℕ → E → O → Entry E O
  entry n e o = record { name = n; event = e; outcome = o }

  abbrev pub account : List ℕ → List (Call E O) → Account E O
  account n cs = record { name = n; calls = cs }

  -- the call of an entry, where the entry has the name
  abbrev pub call_of : List ℕ → Entry E O → List (Call E O)
  call_of n e = if is_same n e.name then call e.event e.outcome ∷ [] else []

  -- the calls that stand in a history under a name, in order
  unfoldable pub calls_of : List ℕ → List (Entry E O) → List (Call E O)
  calls_of n [] = []
  calls_of n (e ∷ es) = call_of n e ++ calls_of n es

  -- whether there is an account of this name
  unfoldable pub has_account : List ℕ → List (Account E O) → Bool
  has_account n [] = false
  has_account n (a ∷ others) = is_same n a.name || has_account n others

  -- the calls that the accounts have under a name
  unfoldable pub accounted : List ℕ → List (Account E O) → List (Call E O)
  accounted n [] = []
  accounted n (a ∷ others) = if is_same n a.name then a.calls else accounted n others

  -- the note is of this call
  abbrev pub IsNoted : E → O → Option (Note E O) → Type 0
  IsNoted e o note =
      (kept : Note E O) × (note ≡ Some kept) × (kept.event.value ≡ e) × (kept.outcome.value ≡ o)
