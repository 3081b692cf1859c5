-- The first part of the cell's rule: one pass at a time has the machine, and each pass has a name
-- of its own.
use Rattle.std.specs.Prelude.{◌≡◌, ◌≢◌, ℕ, ◌+◌, ◌<◌, ◌≤◌, ◌⊎◌, true, false, List, [], ◌∷◌, ◌++◌}
use Rattle.std.specs.Prelude.{Some}
use mathlib.Core.Option.{Option, none, some}
use lib.ListN.{get_elem?}
use Rattle.volume_cell.specs.declared.held.Held.{Held}
use Rattle.volume_cell.specs.declared.knowledge.Knowledge.{Knowledge}
use Rattle.volume_cell.specs.declared.knowledge.Stage.TheVariants.{InTurn}
use Rattle.volume_cell.specs.Histories.{has_account}
use Rattle.volume_cell.specs.Knowing.{IsLive, accounts, is_among}

-- where the machine is: in the cell, or with the pass in this seat
pub data Phase (M E O : Type 0) : Type 0 where
  free : Held M E O → Phase M E O
  taken : ℕ → Phase M E O

module _ {M E O : Type 0} where
  -- the word of the cell, after so many entries: it is odd while the machine is out
  abbrev pub word_of : Phase M E O → ℕ → ℕ
  word_of (free held) n = n + n
  word_of (taken id) n = n + n + 1

  abbrev pub home_of : Phase M E O → List (Option (Held M E O))
  home_of (free held) = some held ∷ []
  home_of (taken id) = none ∷ []

  abbrev pub IsTakenBy : ℕ → Phase M E O → Type 0
  IsTakenBy id (free held) = ⊥
  IsTakenBy id (taken other) = other ≡ id

  -- while the machine is out there is room for one more entry
  abbrev pub IsWithin : ℕ → Phase M E O → ℕ → Type 0
  IsWithin limit (free held) n = n ≤ limit
  IsWithin limit (taken id) n = n < limit

  -- a machine at home has this start
  abbrev pub StartsFrom : {S : Type 0} → (M → S) → S → Phase M E O → Type 0
  StartsFrom start_of first (free held) = start_of held.machine ≡ first
  StartsFrom start_of first (taken id) = Unit {0}

module _ {S E O : Type 0} where
  -- the seat has this view
  abbrev pub At : List (Knowledge S E O) → ℕ → Knowledge S E O → Type 0
  At views id v = get_elem? views id ≡ some v

  -- a live pass, of which one of this name was split off that is not joined back
  pub record HasParent (views : List (Knowledge S E O)) (name : List ℕ) : Type 0 where
    pub id : ℕ
    pub parent : Knowledge S E O
    pub at : At views id parent
    pub live : IsLive parent.stage
    pub number : ℕ
    pub is : name ≡ parent.name ++ number ∷ []
    pub away : is_among name parent.away ≡ true

  -- the passes: they have one start, no name is in the accounts of two of them, no name that is
  -- still to be given is in any, and each but the first was split off one that is still there
  pub record Family (first : S) (views : List (Knowledge S E O)) : Type 0 where
    pub starts : (i : ℕ) (u : Knowledge S E O) → At views i u → IsLive u.stage
        → u.start ≡ Some first
    pub apart : (i j : ℕ) (u v : Knowledge S E O) → At views i u → At views j v → IsLive u.stage
        → IsLive v.stage → j ≢ i → has_account u.name (accounts v) ≡ false
    pub unused : (i j : ℕ) (u v : Knowledge S E O) → At views i u → At views j v → IsLive u.stage
        → IsLive v.stage → (k : ℕ) → u.splits ≤ k → (more : List ℕ)
        → has_account (u.name ++ k ∷ more) (accounts v) ≡ false
    pub parents : (i : ℕ) (u : Knowledge S E O) → At views i u → IsLive u.stage
        → (u.name ≡ []) ⊎ HasParent views u.name

  module _ {M : Type 0} where
    -- the pass in whose seat the machine is
    abbrev pub HasTaker : List (Knowledge S E O) → Phase M E O → Type 0
    HasTaker views (free held) = Unit {0}
    HasTaker views (taken id) = (v : Knowledge S E O) × At views id v × (v.stage ≡ InTurn)

    pub record Exclusion (start_of : M → S) (limit count : ℕ) (phase : Phase M E O)
        (homes : List (Option (Held M E O))) (views : List (Knowledge S E O)) : Type 0 where
      pub first : S
      pub home : homes ≡ home_of phase
      pub turning : (i : ℕ) (u : Knowledge S E O) → At views i u → u.stage ≡ InTurn
          → IsTakenBy i phase
      pub taker : HasTaker views phase
      pub within : IsWithin limit phase count
      pub from : StartsFrom start_of first phase
      pub family : Family first views
