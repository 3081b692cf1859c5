-- What each step on the cell's table tells.
use Rattle.std.specs.Prelude.{◌≡◌, ◌≢◌, ℕ, ◌/◌, List, [], ◌∷◌, Some, length}
use Rattle.atomic_table.specs.Table.{Me, Step}
use Rattle.volume_cell.specs.declared.history.Entry.{Entry}
use Rattle.volume_cell.specs.declared.held.Held.{Held}
use Rattle.volume_cell.specs.declared.held.Note.{Note}
use Rattle.volume_cell.specs.declared.knowledge.Knowledge.{Knowledge}
use Rattle.volume_cell.specs.Histories.{Begins}
use Rattle.volume_cell.specs.Knowing.{HasCalls, knowing, taking, having_asked}

-- what a seat knows and holds
abbrev pub Seated : Type 0 → Type 0 → Type 0 → Type 0 → Type 0
Seated M S E O = Me (Held M E O) (Knowledge S E O)

module _ {M S E O : Type 0} where
  -- nothing
  abbrev pub stays : Step (Held M E O) → Seated M S E O → ℕ → Seated M S E O → Type 0
  stays st m r m' = m' ≡ m

  -- the history, which begins with what was known
  pub record Learns (m : Seated M S E O) (r : ℕ) (m' : Seated M S E O) : Type 0 where
    pub history : List (Entry E O)
    pub is : m' ≡ (knowing history m.0, m.1)
    pub later : Begins m.0.history history
    pub long : r / 2 ≡ length history
    pub calls : HasCalls (knowing history m.0)

  abbrev pub learns : Step (Held M E O) → Seated M S E O → ℕ → Seated M S E O → Type 0
  learns st m r m' = Learns m r m'

  -- what was learned from others is true of the history, and so are all accounts
  pub record Confirms (m m' : Seated M S E O) : Type 0 where
    pub is : m' ≡ m
    pub met : Begins m.0.met m.0.history
    pub calls : HasCalls m.0

  abbrev pub confirms : Step (Held M E O) → Seated M S E O → ℕ → Seated M S E O → Type 0
  confirms st m r m' = Confirms m m'

  module _ (start_of : M → S) (stands_for : M → List (Entry E O) → Type 0) where
    -- the history, and the machine that stands for it
    pub record Takes (m : Seated M S E O) (r : ℕ) (m' : Seated M S E O) : Type 0 where
      pub history : List (Entry E O)
      pub held : Held M E O
      pub is : m' ≡ (taking history m.0, (0, held) ∷ m.1)
      pub later : Begins m.0.history history
      pub long : r / 2 ≡ length history
      pub calls : HasCalls (taking history m.0)
      pub stands : stands_for held.machine history
      pub start : m.0.start ≡ Some (start_of held.machine)

    -- the machine was taken where the word was the one expected
    abbrev pub takes_at : Step (Held M E O) → Seated M S E O → ℕ → Seated M S E O → Type 0
    takes_at st m r m' = (r ≡ st.first → Takes m r m') × (r ≢ st.first → m' ≡ m)

  -- the machine was given back, with the call that it noted as the last entry
  abbrev pub gives_back : Step (Held M E O) → Seated M S E O → ℕ → Seated M S E O → Type 0
  gives_back st m r m' =
      (held : Held M E O) (note : Note E O) → m.1 ≡ (0, held) ∷ [] → held.note ≡ Some note
      → m' ≡ (having_asked note.event.value note.outcome.value m.0, [])
