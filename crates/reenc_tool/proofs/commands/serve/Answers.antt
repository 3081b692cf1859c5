use Rattle.std.proofs.Common.{ap, inl, inr, Some, None, option_map, refl}
use Rattle.command_line.specs.Commands.{serving}
use Rattle.reenc_tool.specs.declared.ended.Failing.TheVariants.{Opening}
use Rattle.reenc_tool.specs.Asking.{bay_view}
use Rattle.reenc_tool.specs.Outcomes.{outcome_of}
use Rattle.reenc_tool.proofs.RunLemmas.{by_key_file, ended_so}
use Rattle.reenc_tool.proofs.commands.serve.Goals as goal

pub returns-in-None-clause-serviced : goal.returns-in-None-clause-serviced
returns-in-None-clause-serviced g c = (
  refl,
  inl (record {
    given = c.in-Ok.disk;
    between = c.disk.new.self;
    asked = c.in-Ok.ensures.asked;
    is = record { kept = c.in-Ok.ensures.told; atom_is = c.in-Ok.ensures.atom };
    stood = c.in-Ok.ensures.cause;
    leaves = c.in-Ok.ensures.leaves;
    came = by_key_file (bay_view g.B.Disk.Disk.device g.B.Link.Link.state g.B.Bay.holdings
        g.B.Bay.asks_disk g.B.Bay.asks_reading g.B.Bay.asks_key g.B.Bay.asks_links)
        (serving c.args.words.now) c.in-Ok.disk c.disk.new.self c.serve_plain.new.bay
        (outcome_of c.serve_plain.result) None (ap (option_map (λ word. word.now)) c.in-None.is)
        c.serve_plain.ensures.ended;
  }),
)

pub returns-in-Some-clause-serviced : goal.returns-in-Some-clause-serviced
returns-in-Some-clause-serviced g c = (
  refl,
  inl (record {
    given = c.in-Ok.disk;
    between = c.disk.new.self;
    asked = c.in-Ok.ensures.asked;
    is = record { kept = c.in-Ok.ensures.told; atom_is = c.in-Ok.ensures.atom };
    stood = c.in-Ok.ensures.cause;
    leaves = c.in-Ok.ensures.leaves;
    came = by_key_file (bay_view g.B.Disk.Disk.device g.B.Link.Link.state g.B.Bay.holdings
        g.B.Bay.asks_disk g.B.Bay.asks_reading g.B.Bay.asks_key g.B.Bay.asks_links)
        (serving c.args.words.now) c.in-Ok.disk c.disk.new.self c.serve_encrypted.new.bay
        (outcome_of c.serve_encrypted.result) (Some c.in-Some.key_file.now)
        (ap (option_map (λ word. word.now)) c.in-Some.is) c.serve_encrypted.ensures.ended;
  }),
)

pub returns-in-Err-clause-serviced : goal.returns-in-Err-clause-serviced
returns-in-Err-clause-serviced g c = (
  refl,
  inr (record {
    fault = c.in-Err.fault;
    asked = c.in-Err.ensures.asked;
    leaves = c.in-Err.ensures.leaves;
    count = c.in-Err.ensures.cause;
    ended = ended_so Opening c.in-Err.fault _ None _ _ _ _ c.unserved.ensures.outcome
        c.new.ensures.items c.cause_by-cause.ensures c.faults.ensures;
  }),
)
