use Rattle.std.proofs.Common.{inl, inr}
use Rattle.file_disk.specs.Opening.{OpensToRead}
use Rattle.file_disk.proofs.file_system.open_for_reading.Goals as goal

pub returns-in-Err : goal.returns-in-Err
unfolding OpensToRead
returns-in-Err g c = inl c.in-Err.ensures

pub returns-in-Ok-measure : goal.returns-in-Ok-measure
unfolding OpensToRead
returns-in-Ok-measure g c = (c.in-Ok.file, c.in-Ok.ensures, c.in-Ok-measure.ensures)

pub returns-in-Err-measure : goal.returns-in-Err-measure
unfolding OpensToRead
returns-in-Err-measure g c =
    inr (c.in-Ok.file, c.measure.new.self, c.in-Ok.ensures, c.in-Err-measure.ensures)
