-- The second part of the cell's rule: one history, of which each pass knows a beginning, and in
-- which the calls of each are those that it made.
use Rattle.std.specs.Prelude.{◌≡◌, ℕ, ◌⊎◌, true, List, [], ◌∷◌, length}
use Rattle.atomic_table.specs.Table.{State}
use Rattle.volume_cell.specs.declared.history.Entry.{Entry}
use Rattle.volume_cell.specs.declared.held.Held.{Held}
use Rattle.volume_cell.specs.declared.knowledge.Knowledge.{Knowledge}
use Rattle.volume_cell.specs.declared.knowledge.Stage.TheVariants.{InTurn}
use Rattle.volume_cell.specs.Histories.{Begins, calls_of, has_account, accounted}
use Rattle.volume_cell.specs.Knowing.{IsLive, accounts}
use Rattle.volume_cell.specs.Exclusion.{Phase, free, taken, word_of, At, Exclusion}

-- a machine at home stands for the history
abbrev pub Stands : {M E O : Type 0} → (M → List (Entry E O) → Type 0) → Phase M E O
    → List (Entry E O) → Type 0
Stands stands_for (free held) history = stands_for held.machine history
Stands stands_for (taken id) history = Unit {0}

module _ {S E O : Type 0} where
  -- what a pass knows is true of the history
  pub record IsInformed (history : List (Entry E O)) (v : Knowledge S E O) : Type 0 where
    pub known : Begins v.history history
    pub met : Begins v.met v.history
    pub turning : v.stage ≡ InTurn → v.history ≡ history
    pub calls : (n : List ℕ) → has_account n (accounts v) ≡ true
        → calls_of n history ≡ accounted n (accounts v)
    pub seen : (n : List ℕ) → has_account n (accounts v) ≡ true
        → calls_of n v.history ≡ accounted n (accounts v)

  -- a live pass has an account of this name
  pub record IsKept (views : List (Knowledge S E O)) (n : List ℕ) : Type 0 where
    pub id : ℕ
    pub keeper : Knowledge S E O
    pub at : At views id keeper
    pub live : IsLive keeper.stage
    pub has : has_account n (accounts keeper) ≡ true

  module _ {M : Type 0} (stands_for : M → List (Entry E O) → Type 0) where
    pub record Historic (history : List (Entry E O)) (phase : Phase M E O)
        (views : List (Knowledge S E O)) : Type 0 where
      pub stands : Stands stands_for phase history
      pub informed : (i : ℕ) (u : Knowledge S E O) → At views i u → IsLive u.stage
          → IsInformed history u
      pub kept : (n : List ℕ) → (calls_of n history ≡ []) ⊎ IsKept views n

  -- the rule of the cell. The first word tells how many entries there are and whether the machine
  -- is out, the second how many threads wait
  pub record Rule {M : Type 0} (start_of : M → S) (stands_for : M → List (Entry E O) → Type 0)
      (limit : ℕ) (s : State (Held M E O) (Knowledge S E O)) : Type 0 where
    pub phase : Phase M E O
    pub history : List (Entry E O)
    pub waiting : ℕ
    pub words : s.words ≡ word_of phase (length history) ∷ waiting ∷ []
    pub exclusion : Exclusion start_of limit (length history) phase s.homes s.views
    pub historic : Historic stands_for history phase s.views
