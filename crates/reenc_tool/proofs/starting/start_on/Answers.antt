use Rattle.std.proofs.Common.{None, Some}
use Rattle.std.specs.Prelude.{string_bytes}
use Rattle.command_line.specs.Starts.{starting}
use Rattle.reenc_tool.specs.declared.ended.Cause.TheVariants.{Fine}
use Rattle.reenc_tool.specs.Outcomes.{outcome_of}
use Rattle.reenc_tool.proofs.MakingLemmas.{ended_without}
use Rattle.reenc_tool.proofs.StartingLemmas.{is_started}
use Rattle.reenc_tool.proofs.starting.start_on.Goals as goal

pub returns-in-Ok-begin_conversion-clause-started :
    goal.returns-in-Ok-begin_conversion-clause-started
returns-in-Ok-begin_conversion-clause-started g c =
    let back = c.in-Ok-begin_conversion.started.disk in
    is_started g.D.Disk.device (starting c.args.words.now) c.wish_of-wish.result c.args.pass.now
    c.args.seed.now c.args.disk back (outcome_of c.ended.result)
    (string_bytes c.in-Ok.line) c.wish_of-wish.ensures.is c.in-Ok-begin_conversion.ensures.started
    (ended_without Fine _ _ (Some back) None _ c.ended.ensures.outcome
    c.none-sessions.ensures c.new-in-Ok-begin_conversion.ensures.items) c.in-Ok.ensures
