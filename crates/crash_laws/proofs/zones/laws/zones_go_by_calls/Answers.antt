use Rattle.crash_laws.proofs.HotZones.ZoneCalls.{zone_begins, zone_goes, zone_ends}
use Rattle.crash_laws.proofs.HotZones.ZoneFaults.{zone_fails}
use Rattle.crash_laws.proofs.HotZones.ZoneEnd.{zone_nearer}
use Rattle.crash_laws.proofs.zones.laws.zones_go_by_calls.Goals as goal

pub returns-clause-begins : goal.returns-clause-begins
returns-clause-begins c =
    λ atom layout zone texts phase old new. zone_begins atom layout zone texts phase old new

pub returns-clause-goes : goal.returns-clause-goes
returns-clause-goes c = λ atom layout zone texts phase next old new apart shows. (
  λ call. zone_goes atom layout zone texts phase next old new apart shows call,
  λ call. zone_fails atom layout zone texts phase next old new apart shows call,
)

pub returns-clause-ends : goal.returns-clause-ends
returns-clause-ends c =
    λ atom layout zone texts phase old new. zone_ends atom layout zone texts phase old new

pub returns-clause-nearer : goal.returns-clause-nearer
returns-clause-nearer c =
    λ atom layout zone texts phase next old new. zone_nearer atom layout zone texts phase next old
    new
