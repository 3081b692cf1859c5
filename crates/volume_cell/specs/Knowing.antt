-- What the holder of a pass knows, and what each step of the cell makes of it.
use Rattle.std.specs.Prelude.{◌≡◌, ℕ, ◌+◌, Bool, true, false, if◌then◌else◌, ◌||◌, List, [], ◌∷◌}
use Rattle.std.specs.Prelude.{◌++◌, Some, None, length, nat_lt}
use Rattle.volume_cell.specs.declared.history.Entry.{Entry}
use Rattle.volume_cell.specs.declared.knowledge.Account.{Account}
use Rattle.volume_cell.specs.declared.knowledge.Knowledge.{Knowledge}
use Rattle.volume_cell.specs.declared.knowledge.Stage.{Stage}
use Rattle.volume_cell.specs.declared.knowledge.Stage.TheVariants.{Ready, InTurn, Retired}
use Rattle.volume_cell.specs.Histories.{is_same, entry, call, account, calls_of, has_account}
use Rattle.volume_cell.specs.Histories.{accounted}

-- a pass that was not joined into another
abbrev pub IsLive : Stage → Type 0
IsLive Ready = Unit {0}
IsLive InTurn = Unit {0}
IsLive Retired = ⊥

-- the names without this one
unfoldable pub without : List ℕ → List (List ℕ) → List (List ℕ)
without n [] = []
without n (m ∷ ms) = if is_same n m then without n ms else m ∷ without n ms

-- whether the name is among these
unfoldable pub is_among : List ℕ → List (List ℕ) → Bool
is_among n [] = false
is_among n (m ∷ ms) = is_same n m || is_among n ms

-- the longer of two lists
abbrev pub longer : {X : Type 0} → List X → List X → List X
longer xs ys = if nat_lt (length xs) (length ys) then ys else xs

-- the shorter of two lists
abbrev pub shorter : {X : Type 0} → List X → List X → List X
shorter xs ys = if nat_lt (length xs) (length ys) then xs else ys

module _ {S E O : Type 0} where
  -- the calls of a pass under its name, and those of the passes that were joined into it
  abbrev pub accounts : Knowledge S E O → List (Account E O)
  accounts v = account v.name v.calls ∷ v.joined

  -- under each name of which there is an account, the known history has the calls of that account
  abbrev pub HasCalls : Knowledge S E O → Type 0
  HasCalls v =
      (n : List ℕ) → has_account n (accounts v) ≡ true
      → calls_of n v.history ≡ accounted n (accounts v)

  -- every pass that was split off this one was joined back
  abbrev pub IsWhole : Knowledge S E O → Type 0
  IsWhole v = v.away ≡ []

  -- what the first pass knows, of a machine with this start
  abbrev pub beginning : S → Knowledge S E O
  beginning s =
      record {
        stage = Ready;
        start = Some s;
        name = [];
        history = [];
        met = [];
        calls =
            [];
        joined = [];
        splits = 0;
        away = [];
      }

  -- the history is known so far
  abbrev pub knowing : List (Entry E O) → Knowledge S E O → Knowledge S E O
  knowing h v = record v { history = h }

  -- the machine was taken when the history was this one
  abbrev pub taking : List (Entry E O) → Knowledge S E O → Knowledge S E O
  taking h v = record v { stage = InTurn; history = h }

  -- the machine acted on an event, and was given back
  abbrev pub having_asked : E → O → Knowledge S E O → Knowledge S E O
  having_asked e o v =
      record v {
        stage = Ready;
        history = v.history ++ entry v.name e o ∷ [];
        calls =
            v.calls ++ call e o ∷ [];
      }

  -- the name of the next pass that is split off
  abbrev pub next_name : Knowledge S E O → List ℕ
  next_name v = v.name ++ v.splits ∷ []

  -- one more pass was split off
  abbrev pub having_split : Knowledge S E O → Knowledge S E O
  having_split v = record v { splits = v.splits + 1; away = next_name v ∷ v.away }

  -- the pass that was split off: it knows what the other knows, and has no calls
  abbrev pub split_off : Knowledge S E O → Knowledge S E O
  split_off v =
      record {
        stage = Ready;
        start = v.start;
        name = next_name v;
        history = v.history;
        met =
            [];
        calls = [];
        joined = [];
        splits = 0;
        away = [];
      }

  -- another pass was joined into this one
  abbrev pub having_joined : Knowledge S E O → Knowledge S E O → Knowledge S E O
  having_joined v w =
      record v {
        history = longer v.history w.history;
        met = shorter v.history w.history;
        joined =
            v.joined ++ accounts w;
        away = without w.name v.away;
      }

  -- the pass is good for no more calls
  abbrev pub retired : Knowledge S E O → Knowledge S E O
  retired v = record v { stage = Retired }

  -- what is left of a pass that was joined into another
  abbrev pub gone : Knowledge S E O
  gone = record {
    stage = Retired;
    start = None;
    name = [];
    history = [];
    met = [];
    calls =
        [];
    joined = [];
    splits = 0;
    away = [];
  }
