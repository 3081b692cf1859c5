use Rattle.std.proofs.Common.{inl, inr, subst, Some}
use Rattle.command_line.specs.Commands.{serving}
use Rattle.reenc_tool.specs.declared.ended.Failing.TheVariants.{Keying}
use Rattle.reenc_tool.specs.Asking.{bay_view}
use Rattle.reenc_tool.specs.Outcomes.{outcome_of}
use Rattle.reenc_tool.specs.Servicing.{ServesUnder}
use Rattle.reenc_tool.proofs.RunLemmas.{ended_so}
use Rattle.reenc_tool.proofs.opening.serve_encrypted.Goals as goal

pub returns-in-Ok-clause-ended : goal.returns-in-Ok-clause-ended
returns-in-Ok-clause-ended g c = inl (record {
  given = c.in-Ok.pass;
  between = c.key.new.self;
  asked = c.in-Ok.ensures.asked;
  is = c.in-Ok.ensures.told;
  stood = c.in-Ok.ensures.cause;
  leaves = c.in-Ok.ensures.leaves;
  came = subst (λ pass. ServesUnder (bay_view g.B.Disk.Disk.device g.B.Link.Link.state
      g.B.Bay.holdings g.B.Bay.asks_disk g.B.Bay.asks_reading g.B.Bay.asks_key g.B.Bay.asks_links)
      (serving c.args.words.now) pass c.args.disk c.key.new.self c.serve_under.new.bay
      (outcome_of c.serve_under.result)) c.as_slice.ensures c.serve_under.ensures.ended;
})

pub returns-in-Err-clause-ended : goal.returns-in-Err-clause-ended
returns-in-Err-clause-ended g c = inr (record {
  fault = c.in-Err.fault;
  asked = c.in-Err.ensures.asked;
  leaves = c.in-Err.ensures.leaves;
  count = c.in-Err.ensures.cause;
  ended = ended_so Keying c.in-Err.fault _ (Some c.args.disk) _ _ _ _ c.unserved.ensures.outcome
      c.new.ensures.items c.cause_by-cause.ensures c.faults.ensures;
})
