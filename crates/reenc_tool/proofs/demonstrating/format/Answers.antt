use Rattle.std.proofs.Common.{inl, inr, option_map, refl, subst}
use Rattle.std.specs.Prelude.{string_bytes}
use Rattle.command_line.specs.Formats.{Formatting}
use Rattle.demo_clients.specs.SureSupplies.{sure_supply}
use Rattle.reenc_tool.specs.Demonstrating.{demo_view}
use Rattle.reenc_tool.specs.Outcomes.{outcome_of}
use Rattle.reenc_tool.specs.Making.{HasMade}
use Rattle.reenc_tool.proofs.demonstrating.format.Goals as goal

pub returns-then-not-is_fine-clause-formatted : goal.returns-then-not-is_fine-clause-formatted
returns-then-not-is_fine-clause-formatted g c = record {
  supply = sure_supply c.args.setting.first;
  now = sure_supply c.make-made.new.seeds;
  supply_is = c.requires.first;
  calm = refl;
  new = c.make-made.new.bay;
  made = outcome_of c.make-made.result.0;
  said = option_map (λ text. string_bytes text) c.make-made.result.1;
  is = subst (λ (w : Formatting). HasMade demo_view w
      (sure_supply c.args.setting.first) (sure_supply c.make-made.new.seeds) c.args.setting.bay c.make-made.new.bay
      (outcome_of c.make-made.result.0) (option_map (λ text. string_bytes text) c.make-made.result.1))
      c.format_words.ensures.words c.make-made.ensures.made;
  later = inl (record {
    other = c.if-not-is_fine.ensures.other refl;
    outcome_is = c.demo_ended.ensures.outcome;
    report_is = refl;
  });
}

pub returns-clause-formatted : goal.returns-clause-formatted
returns-clause-formatted g c = record {
  supply = sure_supply c.args.setting.first;
  now = sure_supply c.make-made.new.seeds;
  supply_is = c.requires.first;
  calm = refl;
  new = c.make-made.new.bay;
  made = outcome_of c.make-made.result.0;
  said = option_map (λ text. string_bytes text) c.make-made.result.1;
  is = subst (λ (w : Formatting). HasMade demo_view w
      (sure_supply c.args.setting.first) (sure_supply c.make-made.new.seeds) c.args.setting.bay c.make-made.new.bay
      (outcome_of c.make-made.result.0) (option_map (λ text. string_bytes text) c.make-made.result.1))
      c.format_words.ensures.words c.make-made.ensures.made;
  later = inr (c.put_back.new.bay, c.put_back.ensures, c.begin.ensures.begun);
}
