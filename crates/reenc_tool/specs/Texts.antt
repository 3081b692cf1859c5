-- The text that a command prints.
use Rattle.std.specs.Prelude.{ℕ, ◌≡◌, ◌+◌, ◌-◌, ◌^◌, ◌<◌, min, List, [], ◌∷◌, ◌++◌, take, fold}
use Rattle.std.specs.Prelude.{codes, Option, Some, None}
use Rattle.std.specs.Fmt.{decimal}
use Rattle.io_edge.specs.Outlet.{Outlet}
use Rattle.reenc_tool.specs.declared.ended.Cause.{Cause}
use Rattle.reenc_tool.specs.declared.ended.Cause.TheVariants.{Fine, Usage, Device, NoHeader}
use Rattle.reenc_tool.specs.declared.ended.Cause.TheVariants.{Header, NoKey, WrongState, Foreign}
use Rattle.reenc_tool.specs.declared.ended.Cause.TheVariants.{NoFit, Clash, Link, Output, Seeds}
use Rattle.reenc_tool.specs.declared.ended.Cause.TheVariants.{Memory, Keyslots}

-- how many sessions lists hold, up to the last value of 64 bits
abbrev pub sessions_in : {E : Type 0} → (E → ℕ) → List E → ℕ
sessions_in len lists = fold (λ count list. min (count + len list) (2 ^ 64 - 1)) 0 lists

abbrev pub served_line : ℕ → List ℕ
served_line count = codes "served " ++ (decimal count ++ (codes " sessions" ++ 10 ∷ []))

-- a refusal's line; a command that did what it was asked has none
abbrev pub fault_line : Cause → List ℕ
fault_line Fine = []
fault_line (Usage words) = codes "fault 1 Usage" ++ 10 ∷ []
fault_line (Device failing faults) = codes "fault 2 Device" ++ 10 ∷ []
fault_line NoHeader = codes "fault 3 NoHeader" ++ 10 ∷ []
fault_line Header = codes "fault 4 Header" ++ 10 ∷ []
fault_line NoKey = codes "fault 5 NoKey" ++ 10 ∷ []
fault_line WrongState = codes "fault 6 WrongState" ++ 10 ∷ []
fault_line Foreign = codes "fault 7 Foreign" ++ 10 ∷ []
fault_line (NoFit what number limit) = codes "fault 8 NoFit" ++ 10 ∷ []
fault_line (Clash block digest) = codes "fault 9 Clash" ++ 10 ∷ []
fault_line (Link failed faults) = codes "fault 10 Link" ++ 10 ∷ []
fault_line (Output faults) = []
fault_line (Seeds faults) = codes "fault 12 Seeds" ++ 10 ∷ []
fault_line Memory = codes "fault 13 Memory" ++ 10 ∷ []
fault_line Keyslots = codes "fault 15 Keyslots" ++ 10 ∷ []

-- what a command says that did what it was asked: a report of its own, or how many sessions it
-- served
abbrev pub said : Option (List ℕ) → ℕ → List ℕ
said (Some report) count = report
said None count = served_line count

-- the text of a command whose cause was fine, by its cause after the text: where memory was wanted
-- for it, and else the text that was to be
abbrev pub text_when_fine : Cause → List ℕ → List ℕ
text_when_fine Memory text = fault_line Memory
text_when_fine _ text = text

-- the text of a command, by its cause before and after
abbrev pub text_of : Cause → Cause → List ℕ → List ℕ
text_of Fine after text = text_when_fine after text
text_of cause after text = fault_line cause

-- a front of the text was put; where the sink didn't fail all of it was, and has gone out
pub record Prints (old new : Outlet) (line : List ℕ) : Type 0 where
  pub front : (had : List ℕ) → old.had ≡ Some had → (k : ℕ) × (new.had ≡ Some (had ++ take k line))
  pub whole : (had : List ℕ) → old.had ≡ Some had → new.faults ≡ old.faults →
      new.faults < 2 ^ 64 - 1 →
      new.had ≡ Some (had ++ line)
  pub out : new.faults ≡ old.faults → new.faults < 2 ^ 64 - 1 → new.held_back ≡ []
