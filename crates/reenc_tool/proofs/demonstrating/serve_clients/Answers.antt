use Rattle.std.proofs.Common.{None, subst}
use Rattle.command_line.specs.Commands.{Serving}
use Rattle.reenc_tool.specs.Demonstrating.{demo_view}
use Rattle.reenc_tool.specs.Outcomes.{outcome_of}
use Rattle.reenc_tool.specs.Servicing.{Serviced}
use Rattle.reenc_tool.proofs.demonstrating.serve_clients.Goals as goal

pub returns-clause-served : goal.returns-clause-served
returns-clause-served g c = record {
  new = c.serve-served.new.bay;
  served = outcome_of c.serve-served.result;
  is = subst (λ (w : Serving). Serviced demo_view w c.args.bay.now c.serve-served.new.bay
      (outcome_of c.serve-served.result) None) c.serve_words.ensures.words
      c.serve-served.ensures.serviced;
  concludes = c.conclude.ensures.concludes;
}
