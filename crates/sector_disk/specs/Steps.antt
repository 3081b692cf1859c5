-- The tables of a disk: what its atoms hold now and after each device call, and how a call moves
-- them.
use Rattle.std.specs.Prelude.{ℕ, ◌≡◌, ◌/◌, ◌⊎◌, List, [], ◌∷◌, ◌++◌, length, map, Option, Some}
use Rattle.std.specs.Prelude.{None, Result, MatchResult}
use Rattle.base_terms.specs.declared.failed.Failed.{Failed}
use Rattle.base_terms.specs.Blocks.{changed, blocks_of}
use Rattle.sector_disk.specs.Cells.{Cell, wrote, tried, synced, IsTried, IsThinned}

-- the table now; the table after each device call so far, the last one behind, with the number that
-- was marked last before the call; and the number marked last, None of a disk that keeps no marks
pub record Told : Type 0 where
  pub now : List Cell
  pub past : List (Option ℕ × List Cell)
  pub mark : Option ℕ

-- after one more device call
abbrev pub then_table : Told → List Cell → Told
then_table told next =
    record { now = next; past = told.past ++ (told.mark, next) ∷ []; mark = told.mark }

-- after a write, and after one that failed and left each of its values as a candidate
abbrev pub then_written : ℕ → Told → ℕ → List ℕ → Told
then_written atom told at body =
    then_table told (changed wrote told.now at (blocks_of atom (length body / atom) body))

abbrev pub then_tried : ℕ → Told → ℕ → List ℕ → Told
then_tried atom told at body =
    then_table told (changed tried told.now at (blocks_of atom (length body / atom) body))

-- a disk that has made no call and was marked by none
abbrev pub fresh : List Cell → Told
fresh cells = record { now = cells; past = []; mark = Some 0 }

-- the number that a mark leaves
abbrev pub remarked : Option ℕ → ℕ → Option ℕ
remarked None number = None
remarked (Some mark) number = Some number

-- one device call moved the table by this step
pub record IsMoved (Step : List Cell → List Cell → Type 0) (old new : Told) : Type 0 where
  pub step : Step old.now new.now
  pub one : new ≡ then_table old new.now

-- where the disk tells its tables after the call, it told them before, and the call moved them
abbrev pub Moves : (List Cell → List Cell → Type 0) → Option Told → Option Told → Type 0
Moves Step old new = (now : Told) → new ≡ Some now
    → (before : Told) × (old ≡ Some before) × IsMoved Step before now

-- a failed call moved the tables by this step, or made no device call
abbrev pub MovesOrNot : (List Cell → List Cell → Type 0) → Option Told → Option Told → Type 0
MovesOrNot Step old new = (new ≡ old) ⊎ Moves Step old new

-- a read leaves what the atoms hold
abbrev pub IsKept : List Cell → List Cell → Type 0
IsKept cells next = next ≡ cells

abbrev pub TellsRead : {T : Type 0} → Option Told → Option Told → Result T Failed → Type 0
TellsRead old new result =
    MatchResult result (λ _. Moves IsKept old new) (λ _. MovesOrNot IsKept old new)

-- a write makes each of its values current and a candidate; one that fails may do so, may add the
-- candidate alone, or leave the atom, for each atom of its own
abbrev pub TellsWrite : {T : Type 0} → ℕ → ℕ → List ℕ → Option Told → Option Told → Result T Failed
    → Type 0
TellsWrite atom at body old new result =
    let values = blocks_of atom (length body / atom) body in
    MatchResult result (λ _. Moves (λ cells next. next ≡ changed wrote cells at values) old new)
    (λ _. MovesOrNot (λ cells next. IsTried cells at values next) old new)

-- a sync leaves each current value as the only candidate; one that fails leaves the current values
-- and some of the candidates
abbrev pub TellsSync : {T : Type 0} → Option Told → Option Told → Result T Failed → Type 0
TellsSync old new result =
    MatchResult result (λ _. Moves (λ cells next. next ≡ map synced cells) old new)
    (λ _. MovesOrNot IsThinned old new)
