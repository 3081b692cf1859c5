use Rattle.std.proofs.Common.{◌≡◌, false, map, take}
use Rattle.clap.specs.Words.{app_of}
use Rattle.clap.specs.declared.builder.command.Command.TheViews.{out-Command}
use Rattle.command_line.specs.Items.{leaf_app, rule_for}
use Rattle.command_line.proofs.item.leaf.Given as goal

abbrev pub invariant-loop-item : goal.invariant-loop-item
invariant-loop-item l = record {
  shape : app_of l.command ≡ leaf_app l.name (map rule_for (take l.item-index l.items));
  local : (out-Command l.command).has_globals ≡ false;
}
