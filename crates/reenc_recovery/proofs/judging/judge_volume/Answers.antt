use Rattle.reenc_recovery.proofs.CauseLemmas.{refused_volume}
use Rattle.reenc_recovery.proofs.judging.judge_volume.Goals as goal

pub returns-in-Err-clause-refused : goal.returns-in-Err-clause-refused
returns-in-Err-clause-refused c =
    refused_volume c.args.valid.now.meta c.args.valid.now.sizes c.args.keys.now.new
    c.in-Some.placement c.in-Err.cause c.in-Some.ensures.is c.in-Err.ensures.refused
