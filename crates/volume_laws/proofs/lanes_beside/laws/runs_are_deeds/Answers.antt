use Rattle.volume_laws.proofs.BesideLanes.RunsOf.{quiet-runs, runs-of}
use Rattle.volume_laws.proofs.lanes_beside.laws.runs_are_deeds.Goals as goal

pub returns : goal.returns
returns c _ = record { unarmed = runs-of; quiet = quiet-runs }
