use Rattle.std.proofs.Common.{rules}
use Rattle.std.proofs.lemmas.List.Edits.{map_over_more}
use Rattle.std.proofs.lemmas.List.{take_all, drop_all}
use Rattle.range_lock.specs.Ranks.{lowered}
use Rattle.range_lock.proofs.ranked.lower_all.Goals as goal

pub loop-ranked-preserved : goal.loop-ranked-preserved
loop-ranked-preserved c = search (rules, map_over_more (lowered c.args.gone))

pub returns : goal.returns
returns c = search (rules, take_all, drop_all)
