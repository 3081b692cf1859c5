-- What a pass knows and holds on the way through a turn.
use Rattle.std.specs.Prelude.{◌≡◌, ℕ, ◌<◌, List, [], ◌∷◌, ◌++◌, Some, length}
use Rattle.atomic_table.specs.declared.shared.Seat.{Seat}
use Rattle.volume_cell.specs.declared.history.Call.{Call}
use Rattle.volume_cell.specs.declared.history.Entry.{Entry}
use Rattle.volume_cell.specs.declared.held.Held.{Held}
use Rattle.volume_cell.specs.declared.knowledge.Knowledge.{Knowledge}
use Rattle.volume_cell.specs.Histories.{Begins, entry, calls_of, IsNoted}
use Rattle.volume_cell.specs.Knowing.{HasCalls, knowing, taking}

module _ {M S E O : Type 0} where
  -- nothing changed that the pass knows and holds
  pub record IsSameSeat (before after : Seat (Held M E O) (Knowledge S E O)) : Type 0 where
    pub table : after.table_id ≡ before.table_id
    pub is : after.me ≡ before.me

  -- the pass has looked at the history, and no more
  pub record HasLooked (before after : Seat (Held M E O) (Knowledge S E O)) : Type 0 where
    pub table : after.table_id ≡ before.table_id
    pub history : List (Entry E O)
    pub is : after.me ≡ (knowing history before.me.0, [])
    pub later : Begins before.me.0.history history

  -- the history that the pass knows is full
  pub record IsFull (limit : ℕ) (before after : Seat (Held M E O) (Knowledge S E O)) : Type 0 where
    pub looked : HasLooked before after
    pub calls : HasCalls after.me.0
    pub own : calls_of after.me.0.name after.me.0.history ≡ after.me.0.calls
    pub full : length looked.history ≡ limit

  module _ (start_of : M → S) (stands_for : M → List (Entry E O) → Type 0) where
    -- the pass has the machine, and knows the history that it stands for
    pub record HasTaken (limit : ℕ) (before after : Seat (Held M E O) (Knowledge S E O)) : Type 0
      where
        pub table : after.table_id ≡ before.table_id
        pub history : List (Entry E O)
        pub held : Held M E O
        pub is : after.me ≡ (taking history before.me.0, (0, held) ∷ [])
        pub later : Begins before.me.0.history history
        pub calls : HasCalls (taking history before.me.0)
        pub stands : stands_for held.machine history
        pub start : before.me.0.start ≡ Some (start_of held.machine)
        pub room : length history < limit

    -- the machine that the pass has may act on this event
    pub record CanAct (fitting : S → List ℕ → List (Call E O) → E → Type 0)
        (pass : Seat (Held M E O) (Knowledge S E O)) (event : E) : Type 0 where
      pub held : Held M E O
      pub is : pass.me.1 ≡ (0, held) ∷ []
      pub stands : stands_for held.machine pass.me.0.history
      pub fits : fitting (start_of held.machine) pass.me.0.name
          (calls_of pass.me.0.name pass.me.0.history) event
      pub start : pass.me.0.start ≡ Some (start_of held.machine)

    -- the machine that the pass has acted on this event
    pub record HasActed (before after : Seat (Held M E O) (Knowledge S E O)) (event : E)
        (outcome : O) : Type 0 where
      pub table : after.table_id ≡ before.table_id
      pub held : Held M E O
      pub is : after.me ≡ (before.me.0, (0, held) ∷ [])
      pub noted : IsNoted event outcome held.note
      pub stands : stands_for held.machine
          (before.me.0.history ++ entry before.me.0.name event outcome ∷ [])
      pub start : before.me.0.start ≡ Some (start_of held.machine)
