use Rattle.std.proofs.Common.{refl}
use Rattle.header_report.specs.Reports.{text_of_lines}
use Rattle.header_report.proofs.LineLemmas.{made_as}
use Rattle.header_report.proofs.text.volume_text.Goals as goal

pub returns : goal.returns
unfolding text_of_lines
returns c = made_as _ _ _ c.from_str.ensures.ok
    (rw (← c.in_default.ensures, ← c.in_default-progress.ensures) refl)
