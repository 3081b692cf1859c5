use Rattle.crash_laws.proofs.HeaderAreas.RepairSteps.{repair_gives, repair_writes, repair_write_fails}
use Rattle.crash_laws.proofs.HeaderAreas.RepairSteps.{repair_synced, repair_sync_fails}
use Rattle.crash_laws.proofs.HeaderAreas.TextsHanded.{opening_past, repaired_past, past_dated}
use Rattle.crash_laws.proofs.areas.laws.repairs_keep_headers.Goals as goal

pub returns-clause-gives : goal.returns-clause-gives
returns-clause-gives c =
    λ atom atoms reader layout header bad handed image written broken view is_reader valid past is
    genuine shows.
    repair_gives atom atoms reader layout header bad handed image is_reader valid past is.laid
    is.whole is.takes genuine shows

pub returns-clause-goes : goal.returns-clause-goes
returns-clause-goes c = λ atom layout header to bad old new apart. (
  λ shows. (
    λ call. repair_writes atom layout header bad old new apart shows call,
    λ call. repair_write_fails atom layout header bad old new apart shows call,
  ),
  λ shows. (
    λ call. repair_synced atom layout header to bad old new shows call,
    λ call. repair_sync_fails atom layout header bad old new shows call,
  ),
)

pub returns-clause-dated : goal.returns-clause-dated
returns-clause-dated c = λ reader header to is_reader. record {
  opened = λ bytes gives. opening_past reader bytes header is_reader gives;
  written = λ bad handed of_header past. repaired_past reader header bad handed of_header past;
  dated = λ handed past. past_dated reader header to handed past;
}
