use Rattle.std.proofs.Common.{◌≡◌, drop}
use Rattle.luks_rules.specs.Plans.{laid_out}
use Rattle.luks_rules.proofs.plan.are_laid_out.Given as goal

abbrev pub invariant-loop-part : goal.invariant-loop-part
invariant-loop-part l =
    laid_out l.atom (drop l.part-index l.parts) l.rest ≡ laid_out l.atom l.parts l.live
