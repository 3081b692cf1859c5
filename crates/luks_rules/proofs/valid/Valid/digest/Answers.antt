use Rattle.std.proofs.Common.{◌∙◌, sym, ap, subst}
use Rattle.std.specs.List.{AllByRecursion}
use Rattle.luks_meta.specs.Digests.{IsDigest}
use Rattle.luks_rules.proofs.PlacedLemmas.{value_holds}
use Rattle.luks_rules.proofs.valid.Valid.digest.Goals as goal

pub returns-clause-right : goal.returns-clause-right
returns-clause-right c =
    let here = sym (c.as_slice.ensures ∙ ap (λ m. m.digests) c.parts.ensures.same) in
    let each = subst (AllByRecursion (λ e. IsDigest e.1)) here c.parts.ensures.right.digests.each in
    value_holds (λ d. d.now) IsDigest c.as_slice.result.now c.args.number c.find_digest.result each
    c.find_digest.ensures
