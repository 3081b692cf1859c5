-- Each call of a zone that is done leaves fewer to come.
use Rattle.std.proofs.Common.{◌≢◌, ℕ, ◌<◌, refl, arith}
use Rattle.crash_laws.specs.HeaderAreas.Commits.{Stage, begun, first_written, first_kept, second_written}
use Rattle.crash_laws.specs.HeaderAreas.Commits.{next_stage}
use Rattle.crash_laws.specs.HeaderAreas.Headers.{Layout}
use Rattle.sector_disk.specs.DiskViews.Views.{View}
use Rattle.crash_laws.specs.HotZones.Calls.{ZoneCall, saves, keeps, opens, opened, writes, settles, mends}
use Rattle.crash_laws.specs.HotZones.Calls.{recovers, moves, shifts, arrives, turns, stage_left, calls_left}
use Rattle.crash_laws.specs.HotZones.Zones.{Hotzone, Texts, Phase}

stage_nearer : (stage : Stage) → stage ≢ second_written
    → stage_left (next_stage stage) < stage_left stage
stage_nearer begun not_last = omega arith
stage_nearer first_written not_last = omega arith
stage_nearer first_kept not_last = omega arith
stage_nearer second_written not_last = absurd (not_last refl)

pub zone_nearer : {M : Type 0} (atom : ℕ) (layout : Layout) (zone : Hotzone M) (texts : Texts)
    (phase next : Phase) (old new : View) → ZoneCall atom layout zone texts old new phase next
    → calls_left zone next < calls_left zone phase
unfolding calls_left
zone_nearer atom layout zone texts _ _ old new (saves n more part) =
    (let some = part.some in let within = part.within in omega (arith, some, within))
zone_nearer atom layout zone texts _ _ old new (keeps call) = omega arith
zone_nearer atom layout zone texts _ _ old new (opens stage not_last call) =
    (let nearer = stage_nearer stage not_last in omega (arith, nearer))
zone_nearer atom layout zone texts _ _ old new (opened call) = omega arith
zone_nearer atom layout zone texts _ _ old new (writes n more part) =
    (let some = part.some in let within = part.within in omega (arith, some, within))
zone_nearer atom layout zone texts _ _ old new (settles call) = omega arith
zone_nearer atom layout zone texts _ _ old new (mends n more part) =
    (let some = part.some in let within = part.within in omega (arith, some, within))
zone_nearer atom layout zone texts _ _ old new (recovers call) = omega arith
zone_nearer atom layout zone texts _ _ old new (moves stage not_last call) =
    (let nearer = stage_nearer stage not_last in omega (arith, nearer))
zone_nearer atom layout zone texts _ _ old new (shifts n more part) =
    (let some = part.some in let within = part.within in omega (arith, some, within))
zone_nearer atom layout zone texts _ _ old new (arrives call) = omega arith
zone_nearer atom layout zone texts _ _ old new (turns stage not_last call) =
    (let nearer = stage_nearer stage not_last in omega (arith, nearer))
