-- What a bay holds, what each of its calls gives and leaves, and when it fails.
use Rattle.std.specs.Prelude.{ℕ, ◌≡◌, ◌≢◌, ◌+◌, ◌*◌, ◌%◌, ◌<◌, ◌≤◌, ◌==◌}
use Rattle.std.specs.Prelude.{if◌then◌else◌, List, [], ◌∷◌, take, slice_index_or, Option, Some}
use Rattle.std.specs.Prelude.{Result, MatchResult}
use Rattle.base_terms.specs.Causes.{Rose}
use Rattle.bays.specs.declared.bay.BayFault.{BayFault}
use Rattle.bays.specs.declared.bay.BayFault.TheVariants.{Failed, Memory}
use Rattle.bays.specs.Stories.{LinkState, Script, Story}

-- the disks and the key files by their names, the inputs of the sessions to come by the address of
-- their clients and by session number, each where it is told; and how many calls failed
pub record Holdings (D : Type 0) : Type 0 where
  pub shelf : List ℕ → Option D
  pub keyring : List ℕ → Option (List ℕ)
  pub inputs : List ℕ → Option (List Script)
  pub faults : ℕ

-- the count of faults where nothing was given: it rose where the call failed, and stands where
-- memory was wanted
abbrev pub FaultCounts : BayFault → ℕ → ℕ → Type 0
FaultCounts Failed before now = (before ≤ now) × Rose before now
FaultCounts Memory before now = now ≡ before

-- the same of any call: the count stands but where the call failed
abbrev pub HasBayCause : {T : Type 0} → ℕ → ℕ → Result T BayFault → Type 0
HasBayCause before now result =
    MatchResult result (λ _. now ≡ before) (λ fault. FaultCounts fault before now)

-- all stands but the count of faults
pub record LeavesAll {D : Type 0} (old new : Holdings D) : Type 0 where
  pub disks : new.shelf ≡ old.shelf
  pub keys : new.keyring ≡ old.keyring
  pub clients : new.inputs ≡ old.inputs

-- all but the disk of this name
pub record LeavesOtherDisks {D : Type 0} (name : List ℕ) (old new : Holdings D) : Type 0 where
  pub disks : (other : List ℕ) → other ≢ name → new.shelf other ≡ old.shelf other
  pub keys : new.keyring ≡ old.keyring
  pub clients : new.inputs ≡ old.inputs

-- all but the clients of this address
pub record LeavesOtherClients {D : Type 0} (address : List ℕ) (old new : Holdings D) : Type 0 where
  pub disks : new.shelf ≡ old.shelf
  pub keys : new.keyring ≡ old.keyring
  pub clients : (other : List ℕ) → other ≢ address → new.inputs other ≡ old.inputs other

-- what a call leaves that gives a disk, and one that gives links; neither gives anything where it
-- fails
abbrev pub AfterDisk : {D T : Type 0} → List ℕ → Holdings D → Holdings D → Result T BayFault →
    Type 0
AfterDisk name old new result =
    MatchResult result (λ _. LeavesOtherDisks name old new) (λ _. LeavesAll old new)

abbrev pub AfterLinks : {D T : Type 0} → List ℕ → Holdings D → Holdings D → Result T BayFault →
    Type 0
AfterLinks address old new result =
    MatchResult result (λ _. LeavesOtherClients address old new) (λ _. LeavesAll old new)

-- of items numbered from `n` on, those whose number leaves `k` when divided by `workers`
unfoldable pub share : {X : Type 0} → ℕ → ℕ → ℕ → List X → List X
share workers k n [] = []
share workers k n (x ∷ xs) = if n % workers == k then x ∷ share workers k (n + 1) xs
    else share workers k (n + 1) xs

-- so many sessions of a link, whose numbers are `k`, `k + workers` and so on, are below `sessions`
abbrev pub IsShare : ℕ → ℕ → ℕ → ℕ → Type 0
IsShare workers sessions k count = (n : ℕ) → n < count → k + workers * n < sessions

-- each link has its share of the inputs ahead and nothing handed back, where the inputs are told
abbrev pub AreFresh : {L : Type 0} → (L → LinkState) → Option (List Script) → ℕ → ℕ → List L →
    Type 0
AreFresh {L} state inputs workers sessions links =
    (scripts : List Script) → inputs ≡ Some scripts → (k : ℕ) (link : L) → k < workers →
    (state (slice_index_or links k link)).story
    ≡ Some (record { ahead = share workers k 0 (take sessions scripts); handed = [] })

-- no link has more sessions to come than its share: link `k` serves the numbers `k`, `k + workers`,
-- `k + workers * 2` and so on, each of them below `sessions`
abbrev pub AreBounded : {L : Type 0} → (L → LinkState) → ℕ → ℕ → List L → Type 0
AreBounded {L} state workers sessions links = (k : ℕ) (link : L) → k < workers →
    IsShare workers sessions k (state (slice_index_or links k link)).bound
