use Rattle.header_report.proofs.LineLemmas.{five_lines, made_as}
use Rattle.header_report.proofs.text.busy_text.Goals as goal

pub returns : goal.returns
returns c = made_as _ _ _ c.format.ensures.ok
    (five_lines _ _ _ _ _ _ _ _ _ _ c.in_ok-state.ensures c.in_ok-old.ensures c.in_ok-new.ensures
    c.in_ok-boundary.ensures c.in_ok-zone.ensures)
