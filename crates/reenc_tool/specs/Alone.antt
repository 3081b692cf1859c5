-- What words did that were executed without clients.
use Rattle.std.specs.Prelude.{ℕ, ◌≡◌, ◌⊎◌, List, map, Option, Some, None, string_bytes}
use Rattle.command_line.specs.Commands.{Asked, IsBounded, Showing, asked, demonstrates, formats}
use Rattle.command_line.specs.Commands.{resumes, serves, serving, shows, starts}
use Rattle.command_line.specs.Demonstrations.{demonstrating}
use Rattle.command_line.specs.Formats.{Formatting}
use Rattle.command_line.specs.Resumes.{Resuming}
use Rattle.command_line.specs.Starts.{Starting}
use Rattle.io_edge.specs.Supply.{Supply}
use Rattle.reenc_tool.specs.Asking.{BayView}
use Rattle.reenc_tool.specs.declared.alone.Alone.{Alone}
use Rattle.reenc_tool.specs.declared.alone.Alone.TheVariants as alones
use Rattle.reenc_tool.specs.declared.ended.Cause.{Cause}
use Rattle.reenc_tool.specs.declared.ended.Cause.TheVariants.{Usage, Memory}
use Rattle.reenc_tool.specs.Making.{HasMade}
use Rattle.reenc_tool.specs.Outcomes.{Outcome, ended_with}
use Rattle.reenc_tool.specs.Resuming.{HasResumed}
use Rattle.reenc_tool.specs.Showing.{HasShown}
use Rattle.reenc_tool.specs.Starting.{HasStarted}

-- the cause keeps the words that ask for nothing
abbrev pub KeepsWords : List (List ℕ) → Cause → Type 0
KeepsWords words (Usage kept) = map string_bytes kept.now ≡ words
KeepsWords words _ = ⊥

-- What a command did whose words were read, or not, and that serves no client: it was told to show, to
-- format, to begin a conversion or to lead one to its end, which its report belongs to; or nothing was
-- asked of the bay and of the seeds, since the words ask for nothing or memory was wanted.
abbrev pub CameAlone : {B D L : Type 0} → BayView B D L → List (List ℕ) → Supply → Supply → B → B
    → Outcome D L → Option (List ℕ) → Type 0
CameAlone bay words supply now old new outcome report =
    ((asked words ≡ None) × KeepsWords words outcome.cause
    × (outcome ≡ ended_with outcome.cause None None) × (new ≡ old) × (report ≡ None))
    ⊎ ((outcome ≡ ended_with Memory None None) × (new ≡ old) × (now ≡ supply) × (report ≡ None))
    ⊎ ((show : Showing) × (asked words ≡ Some (shows show))
    × HasShown bay show old new outcome report)
    ⊎ ((format : Formatting) × (asked words ≡ Some (formats format))
    × HasMade bay format supply now old new outcome report)
    ⊎ ((start : Starting) × (asked words ≡ Some (starts start))
    × HasStarted bay start supply now old new outcome report)
    ⊎ ((resume : Resuming) × (asked words ≡ Some (resumes resume)) × (now ≡ supply)
    × HasResumed bay resume old new outcome report)

-- ---- commands without clients, and the words of those with them
-- a command came to its end, of which the one holds; or what it says is handed back, of which the other
-- does
abbrev pub MatchAlone : {T : Type 0} → Alone T → (T → Type 0) → (Asked → Type 0) → Type 0
MatchAlone (alones.Ended ended) IsEnd IsSaid = IsEnd ended
MatchAlone (alones.Serve serve) IsEnd IsSaid = IsSaid (serves (serving serve))
MatchAlone (alones.Demo demo) IsEnd IsSaid = IsSaid (demonstrates (demonstrating demo))

abbrev pub IfEnded : {T : Type 0} → Alone T → (T → Type 0) → Type 0
IfEnded alone IsEnd = MatchAlone alone IsEnd (λ _. Unit {0})

-- The words ask for this, which has clients, with each value within its bounds; and nothing was asked of
-- the bay, and nothing drawn.
pub record IsHandedBack {B R : Type 0} (words : List (List ℕ)) (says : Asked) (old new : B)
    (seeds drawn : R) : Type 0 where
  pub asked_is : asked words ≡ Some says
  pub bounded : IsBounded says
  pub bay : new ≡ old
  pub seeds_are : drawn ≡ seeds
