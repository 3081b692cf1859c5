-- What a link tells: the connections ahead, and those that were handed back.
use Rattle.std.specs.Prelude.{ℕ, ◌≡◌, ◌+◌, List, [], ◌∷◌, ◌++◌, Option, Some, Result, MatchResult}
use Rattle.std.specs.Prelude.{MatchOption}
use Rattle.base_terms.specs.declared.failed.Failed.{Failed}
use Rattle.io_edge.specs.Intake.{Intake}
use Rattle.io_edge.specs.Outlet.{Outlet}

-- a connection to come: its input, and the counts of faults of its source and sink
pub record Script : Type 0 where
  pub input : List ℕ
  pub in_faults : ℕ
  pub out_faults : ℕ

-- a connection that was handed back: what its source gave and has left, what its sink was put and
-- holds back, and their counts of faults
pub record Handed : Type 0 where
  pub given : List ℕ
  pub left : List ℕ
  pub had : List ℕ
  pub held_back : List ℕ
  pub in_faults : ℕ
  pub out_faults : ℕ

pub record Story : Type 0 where
  pub ahead : List Script
  pub handed : List Handed

-- a link at a moment: its story, where it is told; at most how many connections are still to come;
-- how many it gave that weren't handed back yet; and how many calls failed
pub record LinkState : Type 0 where
  pub story : Option Story
  pub bound : ℕ
  pub lent : ℕ
  pub faults : ℕ

-- a connection as it begins: nothing given, its whole input left, nothing put
pub record Begins (source : Intake) (sink : Outlet) (script : Script) : Type 0 where
  pub source_is : source
      ≡ record { given = Some []; left = Some script.input; faults = script.in_faults }
  pub sink_is : sink ≡ record { had = Some []; held_back = []; faults = script.out_faults }

-- the next connection is the first one ahead; where none is given nothing changes
abbrev pub Gives : {In Out : Type 0} → (In → Intake) → (Out → Outlet) → LinkState → LinkState →
    Result (Option (In × Out)) Failed → Type 0
Gives intake outlet old new result = (story : Story) → old.story ≡ Some story → MatchResult result
    (λ connection. MatchOption connection (new.story ≡ Some story)
    (λ c. (script : Script) × (rest : List Script)
    × (story.ahead ≡ script ∷ rest)
    × (new.story ≡ Some (record { ahead = rest; handed = story.handed }))
    × Begins (intake c.0) (outlet c.1) script))
    (λ _. new.story ≡ Some story)

-- none is to come
pub record HasNoneAhead (link : LinkState) : Type 0 where
  pub bound : link.bound ≡ 0
  pub told : (story : Story) → link.story ≡ Some story → story.ahead ≡ []

-- so many are to come and are lent
pub record Has (bound lent : ℕ) (link : LinkState) : Type 0 where
  pub bound_is : link.bound ≡ bound
  pub lent_is : link.lent ≡ lent

-- where one is given there is one fewer to come, and one more is lent
abbrev pub CountsGiven : {C : Type 0} → LinkState → LinkState → Result (Option C) Failed → Type 0
CountsGiven old new result = MatchResult result
    (λ given. MatchOption given (Has old.bound old.lent new)
    (λ _. (new.bound + 1 ≡ old.bound) × (new.lent ≡ old.lent + 1)))
    (λ _. Has old.bound old.lent new)

-- a connection is handed back behind those before
abbrev pub TakesBack : Intake → Outlet → LinkState → LinkState → Type 0
TakesBack source sink old new =
    (story : Story) → old.story ≡ Some story → (given left had : List ℕ) →
    source.given ≡ Some given → source.left ≡ Some left → sink.had ≡ Some had →
    new.story ≡ Some (record {
      ahead = story.ahead;
      handed = story.handed ++ record {
        given = given;
        left = left;
        had = had;
        held_back = sink.held_back;
        in_faults = source.faults;
        out_faults = sink.faults;
      } ∷ [];
    })
