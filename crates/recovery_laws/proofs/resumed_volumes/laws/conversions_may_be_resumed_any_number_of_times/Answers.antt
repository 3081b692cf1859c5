use Rattle.recovery_laws.proofs.Resumed.RepeatLemmas.{resumed-any-times}
use Rattle.recovery_laws.proofs.resumed_volumes.laws.conversions_may_be_resumed_any_number_of_times.Goals as goal

pub returns : goal.returns
returns g c =
    resumed-any-times c.openings_of_conversions_keep_content.ensures.opened
    c.openings_of_conversions_keep_content.ensures.unopened
    c.resumed_conversions_keep_content.ensures.begins c.stopped_conversions_may_be_resumed.ensures
