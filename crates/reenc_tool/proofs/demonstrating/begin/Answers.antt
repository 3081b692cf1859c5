use Rattle.std.proofs.Common.{inl, inr, option_map, refl, subst}
use Rattle.std.specs.Prelude.{string_bytes}
use Rattle.command_line.specs.Starts.{Starting}
use Rattle.demo_clients.specs.SureSupplies.{sure_supply}
use Rattle.reenc_tool.specs.Demonstrating.{demo_view}
use Rattle.reenc_tool.specs.Outcomes.{outcome_of}
use Rattle.reenc_tool.specs.Starting.{HasStarted}
use Rattle.reenc_tool.proofs.demonstrating.begin.Goals as goal

pub returns-then-not-is_fine-clause-begun : goal.returns-then-not-is_fine-clause-begun
returns-then-not-is_fine-clause-begun g c = record {
  supply = sure_supply c.args.seeds.now;
  now = sure_supply c.start-started.new.seeds;
  supply_is = c.requires.seeds;
  calm = refl;
  new = c.start-started.new.bay;
  started = outcome_of c.start-started.result.0;
  said = option_map (λ text. string_bytes text) c.start-started.result.1;
  is = subst (λ (w : Starting). HasStarted demo_view w
      (sure_supply c.args.seeds.now) (sure_supply c.start-started.new.seeds) c.args.bay.now c.start-started.new.bay
      (outcome_of c.start-started.result.0) (option_map (λ text. string_bytes text) c.start-started.result.1))
      c.init_words.ensures.words c.start-started.ensures.started;
  later = inl (record {
    other = c.if-not-is_fine.ensures.other refl;
    outcome_is = c.demo_ended.ensures.outcome;
    report_is = refl;
  });
}

pub returns-clause-begun : goal.returns-clause-begun
returns-clause-begun g c = record {
  supply = sure_supply c.args.seeds.now;
  now = sure_supply c.start-started.new.seeds;
  supply_is = c.requires.seeds;
  calm = refl;
  new = c.start-started.new.bay;
  started = outcome_of c.start-started.result.0;
  said = option_map (λ text. string_bytes text) c.start-started.result.1;
  is = subst (λ (w : Starting). HasStarted demo_view w
      (sure_supply c.args.seeds.now) (sure_supply c.start-started.new.seeds) c.args.bay.now c.start-started.new.bay
      (outcome_of c.start-started.result.0) (option_map (λ text. string_bytes text) c.start-started.result.1))
      c.init_words.ensures.words c.start-started.ensures.started;
  later = inr (c.put_back.new.bay, c.put_back.ensures, c.serve_clients.ensures.served);
}
