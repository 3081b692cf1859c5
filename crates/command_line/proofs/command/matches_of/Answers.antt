use Rattle.std.proofs.Common.{◌≡◌, true, subst, map}
use Rattle.std.specs.Prelude.{string_bytes}
use Rattle.clap.specs.Words.{FailsBy, app_of, fault_of, is_simple_and_free}
use Rattle.clap.specs.Simple.{App}
use Rattle.command_line.proofs.MatchLemmas.{found, refused, simple, taken}
use Rattle.command_line.proofs.command.matches_of.Goals as goal

pub returns-clause-taken : goal.returns-clause-taken
returns-clause-taken c = taken _ _
    (subst (λ (a : App). is_simple_and_free a ≡ true →
    FailsBy (fault_of a (map string_bytes c.args.words.now)) c.try_get_matches_from.result)
    c.in_ok-product.ensures c.try_get_matches_from.ensures.kinds simple)

pub returns-clause-found : goal.returns-clause-found
returns-clause-found c = found (app_of c.in_ok-product.field-0)
    (map string_bytes c.args.words.now) c.try_get_matches_from.result c.in_ok-product.ensures
    c.try_get_matches_from.ensures.matches

pub returns-clause-refused : goal.returns-clause-refused
returns-clause-refused c = refused _ _
    (subst (λ (a : App). is_simple_and_free a ≡ true →
    FailsBy (fault_of a (map string_bytes c.args.words.now)) c.try_get_matches_from.result)
    c.in_ok-product.ensures c.try_get_matches_from.ensures.kinds simple)
