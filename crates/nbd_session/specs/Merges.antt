-- Lists that were merged into one.
use Rattle.std.specs.Prelude.{ℕ, ◌≡◌, ◌<◌, ◌==◌, if◌then◌else◌, List, [], ◌∷◌}

-- an item, with the number of the list that it is from
pub record From (X : Type 0) : Type 0 where
  pub list : ℕ
  pub item : X

module _ {X : Type 0} where
  abbrev pub from : ℕ → X → From X
  from k item = record { list = k; item = item }

  -- the items of all lists
  unfoldable pub items_of : List (From X) → List X
  items_of [] = []
  items_of (one ∷ rest) = one.item ∷ items_of rest

  -- the items of one list
  unfoldable pub items_from : ℕ → List (From X) → List X
  items_from k [] = []
  items_from k (one ∷ rest) =
      if one.list == k then one.item ∷ items_from k rest else items_from k rest

  -- each item is of one of so many lists
  unfoldable pub AreFrom : ℕ → List (From X) → Type 0
  AreFrom count [] = Unit {0}
  AreFrom count (one ∷ rest) = (one.list < count) × AreFrom count rest

  -- the items of so many lists in one, each once, and those of each list in their order
  pub record IsMerge (count : ℕ) (lists : ℕ → List X) (merged : List X) : Type 0 where
    pub parts : List (From X)
    pub is : items_of parts ≡ merged
    pub from_lists : AreFrom count parts
    pub each : (k : ℕ) → k < count → items_from k parts ≡ lists k
