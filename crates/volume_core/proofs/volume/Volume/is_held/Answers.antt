use Rattle.std.proofs.Common.{sym, ◌∙◌}
use Rattle.volume_core.proofs.CodeSteps.{none-unheld, waits-unheld}
use Rattle.volume_core.proofs.volume.Volume.is_held.Goals as goal

pub returns-then-not-has_entry : goal.returns-then-not-has_entry
returns-then-not-has_entry g c = rw (← c.self.view_is) (
  λ never. absurd (cc),
  λ holds. absurd
      (none-unheld c.args.lane _ (sym c.has_entry.ensures ∙ c.if-not-has_entry.true) holds),
)

pub returns-in-Waiting : goal.returns-in-Waiting
returns-in-Waiting g c = rw (← c.self.view_is) (
  λ never. absurd (cc),
  λ holds. absurd (waits-unheld c.args.lane c.in-Waiting.field-0 _ c.in-Waiting.ensures holds),
)
