use Rattle.std.proofs.Common.{◌∙◌, None, sym}
use Rattle.luks_rules.proofs.RuleLemmas.{at_places, at_sizes, at_conversion}
use Rattle.luks_rules.proofs.rules.judge.Goals as goal

pub returns-in-Some : goal.returns-in-Some
returns-in-Some c =
    at_places c.args.parts.now c.args.sizes.now c.in-Some.fault
    (sym c.in-Some.is ∙ c.in_ok-fault.ensures)

pub returns-in-Some-fault_of_sizes : goal.returns-in-Some-fault_of_sizes
returns-in-Some-fault_of_sizes c =
    at_sizes c.args.parts.now c.args.sizes.now c.in-Some-fault_of_sizes.fault
    (sym c.in_default.is ∙ c.in_ok-fault.ensures) c.in-Some-fault_of_sizes.ensures

pub returns-in-Some-fault_of_conversion : goal.returns-in-Some-fault_of_conversion
returns-in-Some-fault_of_conversion c =
    at_conversion c.args.parts.now c.args.sizes.now _ (sym c.in_default.is ∙ c.in_ok-fault.ensures)
    c.in_default-fault_of_sizes.ensures c.in-Some-fault_of_conversion.ensures

pub returns : goal.returns
returns c = (
  at_conversion c.args.parts.now c.args.sizes.now None
      (sym c.in_default.is ∙ c.in_ok-fault.ensures) c.in_default-fault_of_sizes.ensures
      c.in_default-fault_of_conversion.ensures,
  c.find_progress-progress.ensures,
)
