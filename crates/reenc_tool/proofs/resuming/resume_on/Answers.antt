use Rattle.reenc_tool.specs.Outcomes.{outcome_of}
use Rattle.reenc_tool.proofs.ResumingLemmas.{is_finished, is_halted, is_refused}
use Rattle.reenc_tool.proofs.resuming.resume_on.Goals as goal

pub returns-in-Ok-resume_conversion-clause-resumed :
    goal.returns-in-Ok-resume_conversion-clause-resumed
returns-in-Ok-resume_conversion-clause-resumed g c =
    let finished = c.in-Ok-resume_conversion.finished in
    is_finished _ _ _ g.D.Disk.device c.args.pass.now c.args.disk finished.header finished.disk
    (outcome_of c.ended_finished.result) (record {
      keys = c.passphrases_give_keys.ensures;
      openings = c.openings_of_conversions_keep_content.ensures.opened;
      begins = c.resumed_conversions_keep_content.ensures.begins;
      finished = c.resumed_conversions_keep_content.ensures.finished;
      stops = c.resumed_conversions_keep_content.ensures.stops;
      again = c.stopped_conversions_may_be_resumed.ensures;
      given = c.found_keys_are_given.ensures;
      ended = c.conversions_go_on_under_their_passphrase.ensures.finished;
      left = c.conversions_go_on_under_their_passphrase.ensures.stops;
    }) c.standing_conversions_end.ensures (g.met.D.Disk.geometry c.args.disk) finished.blocks _
    c.in-Ok-resume_conversion.ensures.finished c.ended_finished.ensures.outcome
    c.finished_line-line.ensures

pub returns-in-Err-Refused-clause-resumed : goal.returns-in-Err-Refused-clause-resumed
returns-in-Err-Refused-clause-resumed g c =
    let refused = c.in-Err-Refused.refused in
    is_refused _ _ _ g.D.Disk.device c.args.pass.now c.args.disk refused.header refused.disk
    (outcome_of c.ended_unresumed.result) (record {
      given = c.found_keys_are_given.ensures;
      in_vain = c.openings_of_conversions_keep_content.ensures.unopened;
    }) c.standing_conversions_end.ensures refused.refusal
    (rw c.in-Err-Refused.field-0-is at c.in-Err-Refused.ensures.unfinished)
    c.ended_unresumed.ensures.outcome

pub returns-clause-resumed : goal.returns-clause-resumed
returns-clause-resumed g c =
    let halted = c.in-Err-Halted.halted in
    is_halted _ _ _ g.D.Disk.device c.args.pass.now c.args.disk halted.header halted.disk
    (outcome_of c.ended_halted.result) (record {
      keys = c.passphrases_give_keys.ensures;
      openings = c.openings_of_conversions_keep_content.ensures.opened;
      begins = c.resumed_conversions_keep_content.ensures.begins;
      finished = c.resumed_conversions_keep_content.ensures.finished;
      stops = c.resumed_conversions_keep_content.ensures.stops;
      again = c.stopped_conversions_may_be_resumed.ensures;
      given = c.found_keys_are_given.ensures;
      ended = c.conversions_go_on_under_their_passphrase.ensures.finished;
      left = c.conversions_go_on_under_their_passphrase.ensures.stops;
    }) c.standing_conversions_end.ensures (g.met.D.Disk.geometry c.args.disk) halted.end
    (rw c.in-Err-Halted.field-0-is at c.in-Err-Halted.ensures.unfinished)
    c.ended_halted.ensures.outcome
