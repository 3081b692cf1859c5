use Rattle.std.proofs.Common.{map, option_map, refl, subst}
use Rattle.std.specs.Prelude.{string_bytes}
use Rattle.reenc_tool.specs.Alone.{CameAlone}
use Rattle.reenc_tool.specs.Asking.{bay_view}
use Rattle.reenc_tool.specs.Outcomes.{Outcome}
use Rattle.reenc_tool.proofs.alone.run_alone.Goals as goal

pub returns-in-Ended-clause-run : goal.returns-in-Ended-clause-run
returns-in-Ended-clause-run g c =
    let report = option_map (λ text. string_bytes text) c.in-Ended.report in (
      c.in-Ended.ended.cause,
      report,
      c.print_end.ensures.cause,
      subst (λ (o : Outcome _ _). CameAlone (bay_view g.B.Disk.Disk.device g.B.Link.Link.state
          g.B.Bay.holdings g.B.Bay.asks_disk g.B.Bay.asks_reading g.B.Bay.asks_key
          g.B.Bay.asks_links) (map string_bytes c.args.words.now) (g.R.Seeds.supply c.args.seeds.now) (g.R.Seeds.supply c.execute.new.seeds) c.args.bay.now
          c.execute.new.bay o report) c.print_end.ensures.rest c.in-Ended.ensures.came,
      c.print_end.ensures.text,
    )

pub returns-in-Serve-clause-run : goal.returns-in-Serve-clause-run
returns-in-Serve-clause-run g c = (c.in-Serve.ensures.came, refl)

pub returns-in-Demo-clause-run : goal.returns-in-Demo-clause-run
returns-in-Demo-clause-run g c = (c.in-Demo.ensures.came, refl)
