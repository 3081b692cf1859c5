use Rattle.std.proofs.Common.{◌≡◌, Option, IfOk, sym, ◌∙◌, ap, subst, ℕ, List}
use Rattle.luks_rules.specs.References.{lists}
use Rattle.luks_slots.proofs.SlotLemmas.{listed-at, not-listed-at}
use Rattle.luks_slots.proofs.passphrase.Attempt.try_slot.Goals as goal

pub returns-then-not-lists_number-clause-found : goal.returns-then-not-lists_number-clause-found
returns-then-not-lists_number-clause-found g c = λ image told.
    sym (not-listed-at c.args.self.now.parts.now c.args.self.now.digest.now image
    c.args.self.now.pass.now c.args.rank
    c.args.entry.now.0 c.args.entry.now.1 c.in-Luks2.slot c.in-Luks2.is
    (sym c.has_rank.ensures ∙ c.if-not-has_rank.false)
    (ap (λ l. lists l c.args.entry.now.0) (sym c.as_slice.ensures) ∙ sym c.lists_number.ensures
    ∙ c.if-not-lists_number.true))

pub returns-clause-found : goal.returns-clause-found
returns-clause-found g c = λ image told.
    subst (λ (z : Option (List ℕ)). IfOk c.open.result (λ found. found ≡ z))
    (sym (listed-at c.args.self.now.parts.now c.args.self.now.digest.now image
    c.args.self.now.pass.now c.args.rank
    c.args.entry.now.0 c.args.entry.now.1 c.in-Luks2.slot c.in-Luks2.is
    (sym c.has_rank.ensures ∙ c.if-not-has_rank.false)
    (ap (λ l. lists l c.args.entry.now.0) (sym c.as_slice.ensures) ∙ sym c.lists_number.ensures
    ∙ c.if-not-lists_number.false)))
    (c.open.ensures.found image told)
