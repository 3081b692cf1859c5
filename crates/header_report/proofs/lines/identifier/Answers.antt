use Rattle.std.proofs.Common.{rules, take}
use Rattle.uuid.specs.Text.{parsed}
use Rattle.header_report.proofs.LineLemmas.{no_identifier, unparsed}
use Rattle.header_report.proofs.lines.identifier.Goals as goal

pub returns-in-Err : goal.returns-in-Err
returns-in-Err c = no_identifier c.args.field.now c.if-field-ne0.false
    (unparsed (parsed (take 36 c.args.field.now))
    (λ found. search (rules, c.in-Err.ensures.ok.1 found)))
