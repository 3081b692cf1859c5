use Rattle.std.proofs.Common.{sym, ◌∙◌, ap, subst}
use Rattle.luks_bin.specs.Writing.{IsWritable}
use Rattle.luks_store.proofs.CommitLemmas.{next-of, writable}
use Rattle.luks_store.specs.declared.copies.CopyPlace.{CopyPlace}
use Rattle.luks_rules.specs.declared.valid.Checked.{Checked}
use Rattle.luks_store.proofs.commit.Commit.new.Goals as goal

pub prepare-requires-clause-right : goal.prepare-requires-clause-right
prepare-requires-clause-right c =
    subst IsWritable (sym c.header.ensures) (writable _ _ c.is_stored.ensures.stored.copies.whole)

pub returns-clause-next : goal.returns-clause-next
returns-clause-next c =
    let made = c.prepare.ensures in
    next-of c.args.loaded.now c.args.meta.now c.header.result c.primary.result.salt
    c.secondary.result.salt c.sizes.result c.prepare.result
    c.is_stored.ensures.stored c.header.ensures (ap (λ (p : CopyPlace). p.salt) c.primary.ensures)
    (ap (λ (p : CopyPlace). p.salt) c.secondary.ensures)
    (c.sizes.ensures.sizes ∙ ap (λ (v : Checked). v.sizes) c.valid.ensures)
    made.header made.second_salt made.sizes made.bytes made.meta made.whole made.number
    made.same_size
