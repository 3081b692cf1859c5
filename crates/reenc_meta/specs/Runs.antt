-- The runs of a volume's blocks while it is converted, each on one side, in logical order.
use Rattle.std.specs.Prelude.{ℕ, ◌+◌, ◌==◌, List, [], ◌∷◌, ◌++◌, map, if◌then◌else◌}
use Rattle.luks_meta.specs.declared.reencrypt.Direction.{Direction}
use Rattle.luks_meta.specs.declared.reencrypt.Direction.TheVariants.{Forward, Backward}
use Rattle.luks_rules.specs.declared.plan.Plan.{Plan}
use Rattle.reenc_meta.specs.declared.runs.Run.{Run}
use Rattle.segment_map.specs.declared.Side.{Side}
use Rattle.segment_map.specs.declared.Side.TheVariants.{Old, New, Zone}

abbrev pub run_of : Side → ℕ → ℕ → Run
run_of side from blocks = record { side = side; from = from; blocks = blocks }

-- a run that has a block; one that has none isn't there
abbrev pub some_of : Run → List Run
some_of run = if run.blocks == 0 then [] else run ∷ []

-- forward what is new comes first, backward what is old; between them is the open zone
unfoldable pub runs_of : Direction → Plan → List Run
runs_of Forward plan =
    some_of (run_of New 0 plan.first)
    ++ (some_of (run_of Zone plan.first plan.zone)
    ++ some_of (run_of Old (plan.first + plan.zone) plan.last))
runs_of Backward plan =
    some_of (run_of Old 0 plan.first)
    ++ (some_of (run_of Zone plan.first plan.zone)
    ++ some_of (run_of New (plan.first + plan.zone) plan.last))

-- the sides of all segments: of the runs, and of the whole old and the whole new one behind them
abbrev pub sides_of : List Run → List Side
sides_of runs = map (λ run. run.side) runs ++ Old ∷ New ∷ []
