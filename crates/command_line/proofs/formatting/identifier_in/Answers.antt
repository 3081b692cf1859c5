use Rattle.std.proofs.Common.{◌∙◌, sym, ap, option_map}
use Rattle.command_line.specs.Formats.{identifier_in}
use Rattle.command_line.proofs.ValueLemmas.{no_identifier}
use Rattle.command_line.proofs.formatting.identifier_in.Goals as goal

pub returns-in-Err : goal.returns-in-Err
returns-in-Err c =
    ap identifier_in (sym c.text_of.ensures ∙ ap (option_map (λ word. word.now)) c.in-Some.is)
    ∙ no_identifier c.in-Some.word.now c.parse_str.result c.in-Err.field-0 c.parse_str.ensures.ok
    c.in-Err.is
