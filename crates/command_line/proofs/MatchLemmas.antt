-- What `clap` promises of the program's command line.
use Rattle.std.proofs.Common.{◌≡◌, ◌≢◌, List, [], true, refl, inl, inr, subst}
use Rattle.std.specs.Prelude.{Result, Ok, Err, IfOk, IfErr}
use Rattle.clap.proofs.WalkLemmas.{both}
use Rattle.clap.specs.Words.{FailsBy, HasMatchesOf, IsAmong, Kinds, is_simple, is_simple_and_free}
use Rattle.clap.specs.Words.{kind_of}
use Rattle.clap.specs.Words.{subcommand_of, subcommand_rows_of}
use Rattle.clap.specs.Simple.{App}
use Rattle.clap.specs.Walk.{Text}
use Rattle.clap.specs.declared.error.Error.{Error}
use Rattle.clap.specs.declared.error.kind.ErrorKind.TheVariants.{OutOfMemory}
use Rattle.clap.specs.declared.parser.matches.ArgMatches.{ArgMatches}
use Rattle.command_line.specs.Product.{product, format_rules, init_rules, serve_rules, resume_rules}
use Rattle.command_line.specs.Product.{status_rules, demo_rules}

pub simple : is_simple_and_free product ≡ true
unfolding product format_rules init_rules serve_rules resume_rules status_rules demo_rules
simple = refl

pub taken : {T : Type 0} (kinds : Kinds) (r : Result T Error) → FailsBy kinds r →
    IfOk r (λ _. kinds ≡ [])
taken kinds (Ok m) fails = fails
taken kinds (Err e) fails = search

pub refused : {T : Type 0} (kinds : Kinds) (r : Result T Error) → FailsBy kinds r →
    IfErr r (λ e. kind_of e ≢ OutOfMemory → kinds ≢ [])
refused kinds (Ok m) fails = search
refused kinds (Err e) (inl memory) = λ other. absurd (other memory)
refused kinds (Err e) (inr among) = λ other none. subst (IsAmong (kind_of e)) none among

pub is_simple_product : is_simple product ≡ true
is_simple_product = (both (is_simple product) _ simple).0

pub found : {E : Type 0} (app : App) (words : List Text) (r : Result ArgMatches E) → app ≡ product →
    IfOk r (λ m. HasMatchesOf app words m) →
    IfOk r (λ m. subcommand_rows_of m ≡ subcommand_of product words)
found app words (Ok m) is has =
    (subst (λ (a : App). HasMatchesOf a words m) is has is_simple_product).1
found app words (Err e) is has = search
