use Rattle.std.proofs.Common.{ap, true}
use Rattle.std.specs.Prelude.{Some}
use Rattle.clap.specs.Walk.{Rule}
use Rattle.clap.specs.declared.builder.action.ArgAction.TheVariants.{Set, SetTrue}
use Rattle.command_line.proofs.item.argument.Goals as goal

pub returns-in-Disk-clause-rule : goal.returns-in-Disk-clause-rule
returns-in-Disk-clause-rule c =
    rw (c.in-Disk.is, c.action.ensures, c.required.ensures, c.help.ensures, c.value_name.ensures)
    (ap (λ (r : Rule). record r { value_names = 1; required = true; action = Some Set })
    c.new.ensures.rule)

pub returns-in-Valued-clause-rule : goal.returns-in-Valued-clause-rule
returns-in-Valued-clause-rule c =
    rw (
      c.in-Valued.is,
      c.action-in-Valued.ensures,
      c.required-in-Valued.ensures,
      c.help-in-Valued.ensures,
      c.value_name-in-Valued.ensures,
      c.long.ensures,
    )
    (ap (λ (r : Rule). record r {
      long = Some c.in-Valued.name.now;
      value_names = 1;
      required = c.in-Valued.required;
      action = Some Set;
    }) c.new-in-Valued.ensures.rule)

pub returns-in-Flag-clause-rule : goal.returns-in-Flag-clause-rule
returns-in-Flag-clause-rule c =
    rw (c.in-Flag.is, c.action-in-Flag.ensures, c.help-in-Flag.ensures, c.long-in-Flag.ensures)
    (ap (λ (r : Rule). record r { long = Some c.in-Flag.name.now; action = Some SetTrue })
    c.new-in-Flag.ensures.rule)

pub returns-in-Unbuilt-clause-rule : goal.returns-in-Unbuilt-clause-rule
returns-in-Unbuilt-clause-rule c =
    rw (
      c.in-Unbuilt.is,
      c.action-in-Unbuilt.ensures,
      c.hide.ensures,
      c.value_name-in-Unbuilt.ensures,
      c.long-in-Unbuilt.ensures,
    )
    (ap (λ (r : Rule). record r {
      long = Some c.in-Unbuilt.name.now;
      value_names = 1;
      action = Some Set;
    }) c.new-in-Unbuilt.ensures.rule)

pub returns-in-UnbuiltFlag-clause-rule : goal.returns-in-UnbuiltFlag-clause-rule
returns-in-UnbuiltFlag-clause-rule c =
    rw (
      c.in-UnbuiltFlag.is,
      c.action-in-UnbuiltFlag.ensures,
      c.hide-in-UnbuiltFlag.ensures,
      c.long-in-UnbuiltFlag.ensures,
    )
    (ap (λ (r : Rule). record r { long = Some c.in-UnbuiltFlag.name.now; action = Some SetTrue })
    c.new-in-UnbuiltFlag.ensures.rule)
