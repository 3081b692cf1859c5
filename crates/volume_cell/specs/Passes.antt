-- Cells and passes, as callers see them.
use Rattle.std.specs.Prelude.{◌≡◌, ℕ, ◌<◌, List, [], ◌∷◌, ◌++◌, length, Some}
use Rattle.atomic_table.specs.declared.shared.Seat.{Seat}
use Rattle.atomic_table.specs.Seated.{TableId}
use Rattle.volume_cell.specs.declared.history.Entry.{Entry}
use Rattle.volume_cell.specs.declared.held.Held.{Held}
use Rattle.volume_cell.specs.declared.knowledge.Knowledge.{Knowledge}
use Rattle.volume_cell.specs.declared.knowledge.Stage.TheVariants.{Ready}
use Rattle.volume_cell.specs.declared.shared.Shared.{Shared}
use Rattle.volume_cell.specs.declared.spent.Spent.{Spent}
use Rattle.volume_cell.specs.Histories.{Begins, call, entry, calls_of, accounted}
use Rattle.volume_cell.specs.Knowing.{accounts}

module _ {M S E O : Type 0} where
  -- what a pass is seen as
  abbrev pub known : Seat (Held M E O) (Knowledge S E O) → Knowledge S E O
  known p = p.me.0

  -- the pass is of the cell with this table, and can ask for a turn
  pub record IsReady (cell : TableId) (p : Seat (Held M E O) (Knowledge S E O)) : Type 0 where
    pub table : p.table_id ≡ cell
    pub ready : p.me.0.stage ≡ Ready
    pub empty : p.me.1 ≡ []

  -- the pass is of this cell, and can ask for a turn
  abbrev pub IsPassOf : {P : Type 0} → Shared M (Held M E O) (Knowledge S E O) P
      → Seat (Held M E O) (Knowledge S E O) → Type 0
  IsPassOf cell p = IsReady cell.table.shared.table_id p

module _ {S E O : Type 0} where
  -- the same pass, of which nothing was split off and to which nothing was joined in between
  pub record IsSamePass (before after : Knowledge S E O) : Type 0 where
    pub start : after.start ≡ before.start
    pub name : after.name ≡ before.name
    pub joined : after.joined ≡ before.joined
    pub splits : after.splits ≡ before.splits
    pub away : after.away ≡ before.away

  -- the pass asked for one event: its answer is the last entry of the history, which begins with
  -- what was known
  pub record IsAnswered (limit : ℕ) (before after : Knowledge S E O) (event : E)
      (outcome : O) : Type 0 where
    pub found : List (Entry E O)
    pub later : Begins before.history found
    pub last : after.history ≡ found ++ entry before.name event outcome ∷ []
    pub calls : after.calls ≡ before.calls ++ call event outcome ∷ []
    pub room : length found < limit

  -- the history has as many entries as the cell can take, and the event comes back
  pub record IsSpent (limit : ℕ) (before after : Knowledge S E O) (event : E)
      (spent : Spent E) : Type 0 where
    pub back : spent.event ≡ event
    pub later : Begins before.history after.history
    pub calls : after.calls ≡ before.calls
    pub full : length after.history ≡ limit

  -- a machine with the pass's start stands for the history that the pass knows
  pub record HasStood {M : Type 0} (start_of : M → S)
      (stands_for : M → List (Entry E O) → Type 0) (v : Knowledge S E O) : Type 0 where
    pub machine : M
    pub stands : stands_for machine v.history
    pub start : v.start ≡ Some (start_of machine)

  -- of each name, the history has the calls that the accounts have
  abbrev pub IsAccounted : Knowledge S E O → Type 0
  IsAccounted v = (n : List ℕ) → calls_of n v.history ≡ accounted n (accounts v)
