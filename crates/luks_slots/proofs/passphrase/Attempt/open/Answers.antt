use Rattle.std.proofs.Common.{sym, ◌∙◌}
use Rattle.luks_slots.proofs.SlotLemmas.{differing, matching, not-derived, not-supported}
use Rattle.luks_slots.proofs.passphrase.Attempt.open.Goals as goal

pub returns-in_default-clause-found : goal.returns-in_default-clause-found
returns-in_default-clause-found g c = λ image told.
    sym (not-derived c.args.self.now.parts.now c.args.self.now.digest.now image
    c.args.self.now.pass.now c.args.slot.now
    c.in_default.field-0 c.in_default.is)

pub returns-in_default-opening_functions-clause-found :
    goal.returns-in_default-opening_functions-clause-found
returns-in_default-opening_functions-clause-found g c = λ image told.
    sym (not-supported c.args.self.now.parts.now c.args.self.now.digest.now image
    c.args.self.now.pass.now c.args.slot.now
    c.in-Pbkdf2.kdf c.in-Pbkdf2.is
    (sym c.opening_functions.ensures.is ∙ c.in_default-opening_functions.is))

pub returns-then-is_key_of-clause-found : goal.returns-then-is_key_of-clause-found
returns-then-is_key_of-clause-found g c = λ image told.
    matching c.args.self.now.parts.now c.args.self.now.digest.now image c.args.self.now.pass.now
    c.args.slot.now
    c.in-Pbkdf2.kdf c.in-Some.functions c.in-Ok.key c.in-Pbkdf2.is
    (sym c.opening_functions.ensures.is ∙ c.in-Some.is)
    (c.in-Ok.ensures.key image told) (sym c.is_key_of.ensures ∙ c.if-is_key_of.true)

pub returns-else-is_key_of-clause-found : goal.returns-else-is_key_of-clause-found
returns-else-is_key_of-clause-found g c = λ image told.
    differing c.args.self.now.parts.now c.args.self.now.digest.now image c.args.self.now.pass.now
    c.args.slot.now
    c.in-Pbkdf2.kdf c.in-Some.functions c.in-Ok.key c.in-Pbkdf2.is
    (sym c.opening_functions.ensures.is ∙ c.in-Some.is)
    (c.in-Ok.ensures.key image told) (sym c.is_key_of.ensures ∙ c.if-is_key_of.false)
