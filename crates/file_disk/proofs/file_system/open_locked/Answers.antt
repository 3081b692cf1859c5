use Rattle.std.proofs.Common.{inl, inr}
use Rattle.file_disk.specs.Opening.{OpensLocked}
use Rattle.file_disk.proofs.file_system.open_locked.Goals as goal

pub returns-in-Err : goal.returns-in-Err
unfolding OpensLocked
returns-in-Err g c = inl c.in-Err.ensures

pub returns-in-Err-lock : goal.returns-in-Err-lock
unfolding OpensLocked
returns-in-Err-lock g c =
    inr (inl (c.in-Ok.file, c.lock.new.self, c.in-Ok.ensures, c.in-Err-lock.ensures))

pub returns-in-Err-check_unused : goal.returns-in-Err-check_unused
unfolding OpensLocked
returns-in-Err-check_unused g c =
    let locked = c.in-Ok-lock.ensures in
    let used = c.in-Err-check_unused.ensures in
    inr (inr (inl (c.in-Ok.file, c.lock.new.self, c.in-Ok.ensures, locked, used)))

pub returns-in-Ok-measure : goal.returns-in-Ok-measure
unfolding OpensLocked
returns-in-Ok-measure g c = (
  c.in-Ok.file,
  c.lock.new.self,
  c.in-Ok.ensures,
  c.in-Ok-lock.ensures,
  c.in-Ok-check_unused.ensures,
  c.in-Ok-measure.ensures,
)

pub returns-in-Err-measure : goal.returns-in-Err-measure
unfolding OpensLocked
returns-in-Err-measure g c =
    let locked = c.in-Ok-lock.ensures in
    let free = c.in-Ok-check_unused.ensures in
    let refused = c.in-Err-measure.ensures in
    inr (inr (inr (
      c.in-Ok.file,
      c.lock.new.self,
      c.measure.new.self,
      c.in-Ok.ensures,
      locked,
      free,
      refused,
    )))
