use Rattle.command_line.specs.Formats.{formatting}
use Rattle.reenc_tool.proofs.MakingLemmas.{is_wish}
use Rattle.reenc_tool.proofs.making.wish_of.Goals as goal

pub returns-clause-wish : goal.returns-clause-wish
returns-clause-wish c = is_wish (formatting c.args.words.now) c.is_some.result c.requires
