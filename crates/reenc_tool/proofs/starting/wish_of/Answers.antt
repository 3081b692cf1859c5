use Rattle.command_line.specs.Starts.{starting}
use Rattle.reenc_tool.proofs.StartingLemmas.{is_wish}
use Rattle.reenc_tool.proofs.starting.wish_of.Goals as goal

pub returns-clause-wish : goal.returns-clause-wish
returns-clause-wish c =
    rw c.guard_of.ensures (is_wish (starting c.args.words.now) c.requires)
