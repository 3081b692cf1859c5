use Rattle.std.proofs.Common.{None, inl, inr, option_map, subst}
use Rattle.std.specs.Prelude.{string_bytes, vec_len}
use Rattle.command_line.specs.Commands.{serving}
use Rattle.command_line.specs.Demonstrations.{demonstrating}
use Rattle.reenc_tool.specs.Asking.{bay_view}
use Rattle.reenc_tool.specs.Demonstrating.{HasDemonstrated}
use Rattle.reenc_tool.specs.Ending.{EndsAs}
use Rattle.reenc_tool.specs.Outcomes.{Outcome, outcome_of}
use Rattle.reenc_tool.specs.Servicing.{Serviced}
use Rattle.reenc_tool.specs.Texts.{Prints, said, sessions_in, text_of}
use Rattle.reenc_tool.proofs.commands.run.Goals as goal

pub returns-in-Ended-clause-run : goal.returns-in-Ended-clause-run
returns-in-Ended-clause-run g c =
    let (cause, report, ends, came, prints) = c.in-Ended.ensures.run in
    (cause, report, ends, inr (inr came), prints)

-- words of `serve` were handed back, with all as it was
pub returns-in-Serve-clause-run : goal.returns-in-Serve-clause-run
returns-in-Serve-clause-run g c =
    let (back, put) = c.in-Serve.ensures.run in
    let ended = c.serve-ended.result in
    let told = c.print_end.result in
    let after = g.O.Sink.outlet c.print_end.new.out in (
      ended.cause,
      None,
      subst (λ out. EndsAs ended.cause (g.O.Sink.outlet out).faults after.faults told.cause) put
          c.print_end.ensures.cause,
      inl (
        serving c.in-Serve.words,
        back.asked_is,
        subst (λ (o : Outcome _ _). Serviced (bay_view g.B.Disk.Disk.device g.B.Link.Link.state
            g.B.Bay.holdings g.B.Bay.asks_disk g.B.Bay.asks_reading g.B.Bay.asks_key
            g.B.Bay.asks_links) (serving c.in-Serve.words) c.args.bay.now c.serve-ended.new.bay o
            None) c.print_end.ensures.rest
            (subst (λ bay. Serviced (bay_view g.B.Disk.Disk.device g.B.Link.Link.state
            g.B.Bay.holdings g.B.Bay.asks_disk g.B.Bay.asks_reading g.B.Bay.asks_key
            g.B.Bay.asks_links) (serving c.in-Serve.words) bay c.serve-ended.new.bay
            (outcome_of ended) None) back.bay c.serve-ended.ensures.serviced),
      ),
      subst (λ out. Prints (g.O.Sink.outlet out) after (text_of ended.cause told.cause
          (said None (sessions_in (λ list. vec_len list) told.sessions.items)))) put
          c.print_end.ensures.text,
    )

-- so were words of `demo`
pub returns-in-Demo-clause-run : goal.returns-in-Demo-clause-run
returns-in-Demo-clause-run g c =
    let (back, put) = c.in-Demo.ensures.run in
    let ended = c.demonstrate-ended.result.0 in
    let report = option_map (λ text. string_bytes text) c.demonstrate-ended.result.1 in
    let told = c.print_end-in-Demo.result in
    let after = g.O.Sink.outlet c.print_end-in-Demo.new.out in (
      ended.cause,
      report,
      subst (λ out. EndsAs ended.cause (g.O.Sink.outlet out).faults after.faults told.cause) put
          c.print_end-in-Demo.ensures.cause,
      inr (inl (
        demonstrating c.in-Demo.words,
        back.asked_is,
        back.bay,
        subst (λ (o : Outcome _ _). HasDemonstrated (demonstrating c.in-Demo.words) o report)
            c.print_end-in-Demo.ensures.rest c.demonstrate-ended.ensures.demonstrated,
      )),
      subst (λ out. Prints (g.O.Sink.outlet out) after (text_of ended.cause told.cause
          (said report (sessions_in (λ list. vec_len list) told.sessions.items)))) put
          c.print_end-in-Demo.ensures.text,
    )
