use Rattle.std.proofs.Common.{rules, ap₂, ◌∙◌, ◌||◌}
use Rattle.command_line.proofs.ItemLemmas.{leaf_more}
use Rattle.command_line.proofs.item.leaf.Goals as goal

pub loop-item-preserved : goal.loop-item-preserved
loop-item-preserved c = record {
  shape = leaf_more c.args.name.now c.args.items.now c.loop-item.item-index _ _ _ _
      (search rules) c.loop-item.invariant.shape c.argument.ensures.rule
      (c.in_ok-command.ensures.shape c.argument.ensures.local);
  local = c.in_ok-command.ensures.globals
      ∙ ap₂ (λ a b. a || b) c.loop-item.invariant.local c.argument.ensures.local;
}
