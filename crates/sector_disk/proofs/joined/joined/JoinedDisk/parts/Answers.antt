use Rattle.sector_disk.proofs.JoinedDisks.MainCalls.{told_alone}
use Rattle.sector_disk.proofs.joined.joined.JoinedDisk.parts.Goals as goal

pub returns-clause-alone : goal.returns-clause-alone
returns-clause-alone g c = λ none. told_alone _ _ _ _ _ _ _ _ none
