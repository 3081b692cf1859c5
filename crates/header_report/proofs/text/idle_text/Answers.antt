use Rattle.std.proofs.Common.{◌∙◌, ◌∷◌, [], ap}
use Rattle.std.specs.Prelude.{codes}
use Rattle.header_report.specs.Reports.{line, segment_line}
use Rattle.header_report.proofs.LineLemmas.{made_as, two_lines}
use Rattle.header_report.proofs.text.idle_text.Goals as goal

pub returns : goal.returns
returns c = made_as _ _ _ c.format-2.ensures.ok
    (two_lines (line (codes "state: idle" ∷ [])) _ _ (c.in_ok-live.ensures
    ∙ ap (segment_line (codes "live: ") c.args.volume.now.segment)
    (c.as_str.ensures.value ∙ c.in_ok-tail.ensures.ok)))
