-- What a command did.
use Rattle.std.specs.Prelude.{◌≡◌, ◌⊎◌, ℕ, List, Option, Some}
use Rattle.command_line.specs.Commands.{Serving, asked, demonstrates, serves}
use Rattle.command_line.specs.Demonstrations.{Demonstrating}
use Rattle.io_edge.specs.Supply.{Supply}
use Rattle.reenc_tool.specs.Alone.{CameAlone}
use Rattle.reenc_tool.specs.Asking.{BayView}
use Rattle.reenc_tool.specs.Demonstrating.{HasDemonstrated}
use Rattle.reenc_tool.specs.Outcomes.{Outcome}
use Rattle.reenc_tool.specs.Servicing.{Serviced}

-- What a command did whose words were read, or not: it was told to serve, and has no report; or to show
-- all of it on a volume in memory, and asked nothing of the bay; or it is one without clients, or the
-- words ask for nothing, or memory was wanted.
abbrev pub Came : {B D L : Type 0} → BayView B D L → List (List ℕ) → Supply → Supply → B → B
    → Outcome D L → Option (List ℕ) → Type 0
Came bay words supply now old new outcome report =
    ((serve : Serving) × (asked words ≡ Some (serves serve))
    × Serviced bay serve old new outcome report)
    ⊎ ((demo : Demonstrating) × (asked words ≡ Some (demonstrates demo)) × (new ≡ old)
    × HasDemonstrated demo outcome report)
    ⊎ CameAlone bay words supply now old new outcome report
