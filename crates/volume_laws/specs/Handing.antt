-- The texts that the copies' places of a header are handed in a run of deeds: by calls of commits,
-- whether they failed or not.
use Rattle.std.specs.Prelude.{ℕ, List, [], ◌∷◌, Option, Some}
use Rattle.crash_laws.specs.HeaderAreas.Commits.{begun, handed_by}
use Rattle.crash_laws.specs.HeaderAreas.Headers.{Handed}
use Rattle.crash_laws.specs.HotZones.Zones.{Hotzone, Phase, saving, opening, moving, turning}
use Rattle.volume_machine.specs.Deeds.{Act, Deed, worker}
use Rattle.volume_machine.specs.States.{State}
use Rattle.volume_machine.specs.WorkSteps.{stepped, faulted}
use Rattle.volume_machine.specs.Works.{Work}

-- by a step between two phases; the finish begins with a write
abbrev pub handed_in : Phase → Phase → Hotzone (List ℕ) → Hotzone (List ℕ) → Handed → Handed
handed_in (opening stage) next old new handed = handed_by stage old.opened handed
handed_in (moving stage) next old new handed = handed_by stage old.moved handed
handed_in (turning stage) next old new handed = handed_by stage old.moved handed
handed_in (saving n) (moving stage) old new handed = handed_by begun new.moved handed
handed_in _ next old new handed = handed

abbrev pub handed_between : Option Work → Option Work → Handed → Handed
handed_between (Some old) (Some new) handed =
    handed_in old.phase new.phase old.zone new.zone handed
handed_between _ new handed = handed

abbrev pub handed_of : {K : Type 0} → State K → Act → State K → Handed → Handed
handed_of old (worker stepped) new handed = handed_between old.work new.work handed
handed_of old (worker faulted) new handed = handed_between old.work new.work handed
handed_of old _ new handed = handed

unfoldable pub handed_over : {K : Type 0} → State K → Handed → List (Deed K) → Handed
handed_over old handed [] = handed
handed_over old handed (one ∷ rest) =
    handed_over one.after (handed_of old one.act one.after handed) rest
