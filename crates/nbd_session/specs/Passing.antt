-- The first pass to a cell, off which those of the lanes are split and into which they are joined
-- back.
use Rattle.std.specs.Prelude.{ℕ, ◌≡◌, ◌<◌, ◌≤◌, List, [], ◌∷◌, ◌++◌, length, map, slice_index_or}
use Rattle.volume_cell.specs.declared.knowledge.Knowledge.{Knowledge}
use Rattle.volume_cell.specs.Histories.{account}

-- the names are numbers from `least` on, and less than `end`
unfoldable pub AreBetween : ℕ → ℕ → List (List ℕ) → Type 0
AreBetween least end [] = Unit {0}
AreBetween least end (name ∷ names) =
    ((k : ℕ) × (name ≡ k ∷ []) × (least ≤ k) × (k < end)) × AreBetween least end names

module _ {S E O : Type 0} where
  -- The first pass, which makes no calls: so many were split off it, and of these so many were joined
  -- back, in order.
  pub record IsFirst (splits back : ℕ) (v : Knowledge S E O) : Type 0 where
    pub name : v.name ≡ []
    pub calls : v.calls ≡ []
    pub splits_are : v.splits ≡ splits
    pub away : AreBetween back splits v.away

  -- so many passes were split off it, the first ones
  pub record HasSplit (count : ℕ) (old new : Knowledge S E O) : Type 0 where
    pub first : IsFirst count 0 new
    pub start : new.start ≡ old.start
    pub joined : new.joined ≡ old.joined

  -- of so many that were split off it the passes of these were joined back, in their order
  pub record HasJoined {A : Type 0} (splits : ℕ) (pass : A → Knowledge S E O) (all : List A)
      (old new : Knowledge S E O) : Type 0 where
    pub first : IsFirst splits (length all) new
    pub start : new.start ≡ old.start
    pub joined : new.joined
        ≡ old.joined ++ map (λ one. account (pass one).name (pass one).calls) all
    pub knows : (k : ℕ) (one : A) → k < length all
        → length (pass (slice_index_or all k one)).history ≤ length new.history
