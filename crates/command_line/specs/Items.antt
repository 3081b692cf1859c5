-- The words of a command as the arguments of `clap` that they are.
use Rattle.std.specs.Prelude.{Bool, true, false, List, [], Some, codes}
use Rattle.clap.specs.Walk.{Rule, Text}
use Rattle.clap.specs.Simple.{App, Shape, new_rule, new_shape}
use Rattle.clap.specs.declared.builder.action.ArgAction.TheVariants.{Set, SetTrue}
use Rattle.command_line.specs.declared.item.Item.{Item}
use Rattle.command_line.specs.declared.item.Item.TheVariants.{Disk, Valued, Flag, Unbuilt, UnbuiltFlag}

-- the disk, which stands by itself and must be there
abbrev pub disk_rule : Rule
disk_rule = record (new_rule (codes "disk")) {
  value_names = 1;
  required = true;
  action = Some Set;
}

-- an option whose value is the next word; a second one is refused
abbrev pub option_rule : Text → Bool → Rule
option_rule name required = record (new_rule name) {
  long = Some name;
  value_names = 1;
  required = required;
  action = Some Set;
}

-- an option without a value; a second one is refused
abbrev pub flag_rule : Text → Rule
flag_rule name = record (new_rule name) { long = Some name; action = Some SetTrue }

abbrev pub rule_for : Item → Rule
rule_for Disk = disk_rule
rule_for (Valued name value help required) = option_rule name.now required
rule_for (Flag name help) = flag_rule name.now
rule_for (Unbuilt name value) = option_rule name.now false
rule_for (UnbuiltFlag name) = flag_rule name.now

-- a command with these arguments and no subcommands
abbrev pub leaf_shape : Text → List Rule → Shape
leaf_shape name rules = record (new_shape name) { rules = rules }

abbrev pub leaf_app : Text → List Rule → App
leaf_app name rules = record { top = leaf_shape name rules; subs = [] }
