-- A command with one more subcommand.
use Rattle.std.proofs.Common.{◌≡◌, ◌∙◌, ap, false}
use Rattle.std.specs.Prelude.{Result, Ok, Err, IfOk}
use Rattle.clap.specs.Words.{AddsSubcommand, app_of}
use Rattle.clap.specs.Simple.{App, with_subcommand}
use Rattle.clap.specs.declared.builder.command.Command.{Command}
use Rattle.clap.specs.declared.builder.command.Command.TheViews.{out-Command}

pub joined : (old sub new : Command) (app leaf : App) → AddsSubcommand old sub new →
    (out-Command sub).has_globals ≡ false → app_of old ≡ app → app_of sub ≡ leaf →
    app_of new ≡ with_subcommand app leaf.top
joined old sub new app leaf added local is leaf_is =
    added.shape local ∙ ap (λ a. with_subcommand a (app_of sub).top) is
    ∙ ap (λ (a : App). with_subcommand app a.top) leaf_is

pub joined_last : {E : Type 0} (old sub : Command) (result : Result Command E) (app leaf : App) →
    IfOk result (λ new. AddsSubcommand old sub new) →
    (out-Command sub).has_globals ≡ false → app_of old ≡ app → app_of sub ≡ leaf →
    IfOk result (λ new. app_of new ≡ with_subcommand app leaf.top)
joined_last old sub (Ok new) app leaf added local is leaf_is =
    joined old sub new app leaf added local is leaf_is
joined_last old sub (Err e) app leaf added local is leaf_is = added
