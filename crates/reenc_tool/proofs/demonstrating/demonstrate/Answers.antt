use Rattle.std.proofs.Common.{List, None, ◌∙◌, ap, inl, inr, option_map, refl}
use Rattle.std.specs.Prelude.{string_bytes}
use Rattle.command_line.specs.Demonstrations.{demonstrating}
use Rattle.reenc_tool.specs.Outcomes.{outcome_of, unserved}
use Rattle.reenc_tool.specs.declared.ended.Cause.TheVariants.{Memory}
use Rattle.reenc_tool.proofs.DemoShows.{demonstrated_so}
use Rattle.reenc_tool.proofs.demonstrating.demonstrate.Goals as goal

pub returns-in-Ok-clause-demonstrated : goal.returns-in-Ok-clause-demonstrated
returns-in-Ok-clause-demonstrated g c =
    demonstrated_so c.demonstrations_are_told.ensures.told c.histories_leave_the_content.ensures
    c.new_volumes_are_opened.ensures c.standing_volumes_are_opened.ensures
    (demonstrating c.args.words.now) c.requires (outcome_of c.format.result.0)
    (option_map (λ text. string_bytes text) c.format.result.1)
    (inr (c.in-Ok.setting.bay, c.in-Ok.ensures.bay, c.format.ensures.formatted))

pub returns-in-Err-clause-demonstrated : goal.returns-in-Err-clause-demonstrated
returns-in-Err-clause-demonstrated g c =
    demonstrated_so c.demonstrations_are_told.ensures.told c.histories_leave_the_content.ensures
    c.new_volumes_are_opened.ensures c.standing_volumes_are_opened.ensures
    (demonstrating c.args.words.now) c.requires _ _
    (inl (
      refl,
      c.unserved.ensures.outcome
          ∙ ap (λ (links : List _). unserved Memory None links) c.new.ensures.items,
    ))
