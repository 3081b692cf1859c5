use Rattle.std.proofs.Common.{◌/◌, length, refl, subst, ℕ}
use Rattle.std.specs.Prelude.{MatchOption}
use Rattle.resil_checksum.proofs.ClashLemmas.{clash-of}
use Rattle.resil_checksum.specs.Clashes.{AllDiffer, IsLowestClash}
use Rattle.resil_checksum.specs.declared.judging.AtHand.TheVariants.{Atoms}
use Rattle.resil_checksum.proofs.judging.clash.Goals as goal

pub returns : goal.returns
returns g c =
    let atom = c.args.atom in
    let old = c.args.old.now in
    let new = c.args.new.now in
    subst (λ (n : ℕ). MatchOption c.find_clash.result (AllDiffer atom (n / atom) old new)
    (IsLowestClash atom (n / atom) old new)) c.requires.equal
    (clash-of Atoms atom (length new / atom) old old new (λ i below. refl) c.find_clash.result
    c.find_clash.ensures)
