-- What is told only where something holds.
use Rattle.std.proofs.Common.{◌≡◌, ◌∙◌, Bool, true, Option, Some, None, Result, Ok, Err, sym}
use Rattle.std.specs.Prelude.{IfOk, IfSome}

pub told_where : {T E : Type 0} (r : Result (Option T) E) (has there : Bool) → has ≡ there
    → has ≡ true → IfOk r (λ text. IfSome text (λ _. there ≡ true))
told_where (Ok (Some t)) has there same is = sym same ∙ is
told_where (Ok None) has there same is = tt
told_where (Err e) has there same is = tt
