use Rattle.std.proofs.Common.{List, ℕ, Option, sym, subst}
use Rattle.luks_slots.specs.Functions.{named_cipher}
use Rattle.reenc_recovery.specs.Causes.{IsRefused}
use Rattle.reenc_recovery.proofs.keys.cipher_under.Goals as goal

pub returns-then-not-is_key_of-clause-refused : goal.returns-then-not-is_key_of-clause-refused
returns-then-not-is_key_of-clause-refused c =
    let spec = named_cipher c.args.encryption.now.cipher in
    subst (λ (key : Option (List ℕ)). IsRefused c.args.digest.now spec key c.refuse_other.result)
    (sym c.in-Some.is) (c.refuse_other.ensures spec)
