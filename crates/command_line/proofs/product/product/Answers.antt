use Rattle.std.proofs.Common.{◌≡◌, [], ap, true}
use Rattle.clap.specs.Words.{app_of}
use Rattle.clap.specs.Simple.{App}
use Rattle.command_line.specs.Product.{product, top_shape}
use Rattle.command_line.proofs.ProductLemmas.{joined, joined_last}
use Rattle.command_line.proofs.product.product.Goals as goal

pub returns : goal.returns
unfolding product
returns c =
    let begins : App = record { top = record top_shape { is_leaf = true }; subs = [] } in
    let top : app_of c.arg_required_else_help.result ≡ begins =
    rw (
      c.arg_required_else_help.ensures,
      c.subcommand_required.ensures,
      c.no_binary_name.ensures,
      c.about.ensures,
      c.in_ok-command.ensures.0,
    )
    (ap (λ (a : App). record a {
      top = record a.top {
        no_binary_name = true;
        subcommand_required = true;
        arg_required_else_help = true;
      };
    }) c.new.ensures.app) in
    let format = joined _ _ _ _ _ c.in_ok-subcommand.ensures c.in_ok-format.ensures.local top
    c.in_ok-format.ensures.shape in
    let init = joined _ _ _ _ _ c.in_ok-subcommand-2.ensures c.in_ok-init.ensures.local format
    c.in_ok-init.ensures.shape in
    let serve = joined _ _ _ _ _ c.in_ok-subcommand-3.ensures c.in_ok-serve.ensures.local init
    c.in_ok-serve.ensures.shape in
    let resume = joined _ _ _ _ _ c.in_ok-subcommand-4.ensures c.in_ok-resume.ensures.local serve
    c.in_ok-resume.ensures.shape in
    let status = joined _ _ _ _ _ c.in_ok-subcommand-5.ensures c.in_ok-status.ensures.local resume
    c.in_ok-status.ensures.shape in
    joined_last _ _ _ _ _ c.subcommand-6.ensures c.in_ok-demo.ensures.local status
    c.in_ok-demo.ensures.shape
